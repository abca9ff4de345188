-- Which items of a list are selected, and the types of a symbol of a well-typed signature.
use Rattle.std.specs.Prelude.{ℕ, zero, suc, ◌≡◌, Bool, true, false, List, [], ◌∷◌, map, length, slice_get, Some}
use Rattle.std.specs.List.{AllByRecursion}
use Rattle.std.proofs.Common.{refl, ap, subst}
use Rattle.tf_core.specs.declared.ty.Ty.{Ty}
use Rattle.tf_core.specs.declared.signature.Symbol.{Symbol}
use Rattle.tf_core.specs.declared.signature.Signature.{Signature}
use Rattle.tf_core.specs.Typing.{IsType, AreTypes, no_types, more_types, IsResult, IsSymbol, IsSignature}
use Rattle.enc_marks.specs.Translation.{selected}

pub map-selected : {A B : Type 0} (f : A → B) (tests : List Bool) (items : List A) →
    map f (selected tests items) ≡ selected tests (map f items)
map-selected f [] items = refl
map-selected f (true ∷ tests) [] = refl
map-selected f (false ∷ tests) [] = refl
map-selected f (true ∷ tests) (item ∷ items) = ap (λ l. f item ∷ l) (map-selected f tests items)
map-selected f (false ∷ tests) (item ∷ items) = map-selected f tests items

pub AreTypes-selected : (g : Signature) (variables : ℕ) (tests : List Bool) (types : List Ty) →
    AreTypes g variables types → AreTypes g variables (selected tests types)
AreTypes-selected g variables [] types formed = no_types
AreTypes-selected g variables (true ∷ tests) types no_types = no_types
AreTypes-selected g variables (false ∷ tests) types no_types = no_types
AreTypes-selected g variables (true ∷ tests) types (more_types ty others formed rest) =
    more_types ty (selected tests others) formed (AreTypes-selected g variables tests others rest)
AreTypes-selected g variables (false ∷ tests) types (more_types ty others formed rest) =
    AreTypes-selected g variables tests others rest

pub length-map : {A B : Type 0} (f : A → B) (items : List A) → length (map f items) ≡ length items
length-map f [] = refl
length-map f (item ∷ items) = ap suc (length-map f items)

pub map-map : {A B C : Type 0} (f : B → C) (h : A → B) (items : List A) →
    map f (map h items) ≡ map (λ item. f (h item)) items
map-map f h [] = refl
map-map f h (item ∷ items) = ap (λ l. f (h item) ∷ l) (map-map f h items)

pub all_at : {A : Type 0} (P : A → Type 0) (items : List A) (i : ℕ) (item : A) →
    AllByRecursion P items → slice_get items i ≡ Some item → P item
all_at P [] i item all at = cc
all_at P (first ∷ items) zero item all at = let same : first ≡ item = cc in subst P same all.0
all_at P (first ∷ items) (suc i) item all at = all_at P items i item all.1 at

pub arguments_formed : (g : Signature) (f : ℕ) (symbol : Symbol) → IsSignature g →
    slice_get g.symbols f ≡ Some symbol → AreTypes g symbol.parameters symbol.arguments
arguments_formed g f symbol sound at =
    let formed : IsSymbol g symbol = all_at (IsSymbol g) g.symbols f symbol sound at in
    formed.arguments

pub result_formed : (g : Signature) (f : ℕ) (symbol : Symbol) (ty : Ty) → IsSignature g →
    slice_get g.symbols f ≡ Some symbol → symbol.result ≡ Some ty → IsType g symbol.parameters ty
result_formed g f symbol ty sound at gives =
    let formed : IsSymbol g symbol = all_at (IsSymbol g) g.symbols f symbol sound at in
    subst (IsResult g symbol.parameters) gives formed.result

-- each item is the same as itself, which laws take where nothing is asked of items
pub all_same : {A B : Type 0} (f : A → B) (items : List A) →
    AllByRecursion (λ item. f item ≡ f item) items
all_same f [] = tt
all_same f (item ∷ items) = (refl, all_same f items)
