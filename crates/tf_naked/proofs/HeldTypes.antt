-- The sorts of a normal problem hold the types that occur.
use Rattle.std.specs.Prelude.{ℕ, zero, suc, ◌≡◌, ◌⊎◌, Bool, true, false, List, [], ◌∷◌, ◌++◌, map, length, cond, eqb, slice_get, Option, Some, IsTrue}
use Rattle.std.specs.List.{AllByRecursion, list_all, list_any}
use Rattle.std.proofs.Common.{refl, sym, ap, ◌∙◌, subst, arith, ⊎_elim, inl, inr}
use Rattle.std.proofs.lemmas.Bool.{or_left, or_right, or_cases, and_parts, false≢true, eqb-true}
use Rattle.tf_core.specs.declared.ty.Ty.{Ty, out-Ty, roll-Ty}
use Rattle.tf_core.specs.declared.ty.Ty.TheVariants as type
use Rattle.tf_core.specs.declared.ty.Ty.TheOpen.{Ty-F}
use Rattle.tf_core.specs.declared.ty.Ty.TheOpen as layer
use Rattle.tf_core.specs.declared.ty.Ty.TheFolds.{para-roll-Ty, map-Ty}
use Rattle.tf_core.specs.declared.ty.Ty.TheViews.{outs-Var, outs-Apply}
use Rattle.tf_core.specs.declared.term.Term.{Term}
use Rattle.tf_core.specs.declared.signature.Symbol.{Symbol}
use Rattle.tf_core.specs.declared.normal.NormalFormula.{NormalFormula}
use Rattle.tf_core.specs.declared.normal.Normal.{Normal}
use Rattle.tf_core.specs.Types.{same_type, instantiate}
use Rattle.tf_core.specs.Typing.{IsInstance, HasType, of_variable, of_apply}
use Rattle.tf_core.specs.Sorts.{joined, parts_of, parts_step, result_types, declared_types, binder_types, once, types_in_order, or_individuals, sorts}
use Rattle.tf_core.specs.Sound.{is_monomorphic}
use Rattle.tf_core.proofs.Induction.{type_induction}
use Rattle.tf_core.proofs.Typed.{same_type-says, same_type-self}
use Rattle.tf_core.proofs.Compared.{instantiate-none}
use Rattle.tf_naked.specs.SortLaws.{IsSort, AreSorts, SortsHoldTypes}

-- ---- the types of a list

abbrev Holds : List Ty → Ty → Type 0
Holds types ty = IsTrue (list_any (same_type ty) types)

-- each type of the first list is one of the second
abbrev Within : List Ty → List Ty → Type 0
Within types others = (ty : Ty) → Holds types ty → Holds others ty

front_within : (types others : List Ty) → Within types (types ++ others)
front_within [] others ty is = absurd (false≢true is)
front_within (first ∷ types) others ty is =
    ⊎_elim
    (λ here. or_left (same_type ty first) (list_any (same_type ty) (types ++ others)) here)
    (λ there. or_right (same_type ty first) (list_any (same_type ty) (types ++ others))
    (front_within types others ty there))
    (or_cases (same_type ty first) (list_any (same_type ty) types) is)

back_within : (types others : List Ty) → Within others (types ++ others)
back_within [] others ty is = is
back_within (first ∷ types) others ty is =
    or_right (same_type ty first) (list_any (same_type ty) (types ++ others))
    (back_within types others ty is)

either_holds : (types others : List Ty) (ty : Ty) → Holds (types ++ others) ty →
    Holds types ty ⊎ Holds others ty
either_holds [] others ty is = inr is
either_holds (first ∷ types) others ty is =
    ⊎_elim
    (λ here. inl (or_left (same_type ty first) (list_any (same_type ty) types) here))
    (λ there. ⊎_elim
    (λ front. inl (or_right (same_type ty first) (list_any (same_type ty) types) front))
    (λ back. inr back)
    (either_holds types others ty there))
    (or_cases (same_type ty first) (list_any (same_type ty) (types ++ others)) is)

-- each of a list's types is one of a longer list
all_within : (types others : List Ty) → Within types others → AllByRecursion (Holds others) types
all_within [] others within = tt
all_within (ty ∷ types) others within = (
  within ty (or_left (same_type ty ty) (list_any (same_type ty) types) (same_type-self ty)),
  all_within types others
      (λ other is. within other
      (or_right (same_type other ty) (list_any (same_type other) types) is)),
)

each_kept : (types list others : List Ty) → Within list others →
    AllByRecursion (Holds list) types → AllByRecursion (Holds others) types
each_kept [] list others within all = tt
each_kept (ty ∷ types) list others within all =
    (within ty all.0, each_kept types list others within all.1)

-- ---- the parts of a type

parts_of-roll : (x : Ty-F Ty) →
    parts_of (roll-Ty x) ≡ parts_step (map-Ty Ty (Ty × List Ty) (λ ty. (ty, parts_of ty)) x)
unfolding parts_of
parts_of-roll x = para-roll-Ty (List Ty) parts_step x

map-pairs : (types : List Ty) →
    (map (λ (pair : Ty × List Ty). pair.1) (map (λ (ty : Ty). (ty, parts_of ty)) types)
    ≡ map parts_of types)
    × (map (λ (pair : Ty × List Ty). pair.0) (map (λ (ty : Ty). (ty, parts_of ty)) types) ≡ types)
map-pairs [] = (refl, refl)
map-pairs (ty ∷ types) =
    let rest = map-pairs types in
    (ap (λ lists. parts_of ty ∷ lists) rest.0, ap (λ others. ty ∷ others) rest.1)

pub parts_of-variable : (i : ℕ) → parts_of (type.Var i) ≡ type.Var i ∷ []
parts_of-variable i = ap parts_of (sym (type.rolls-Var i)) ∙ parts_of-roll (layer.Var i)

pub parts_of-apply : (c : ℕ) (types : List Ty) →
    parts_of (type.Apply c types) ≡ joined (map parts_of types) ++ type.Apply c types ∷ []
parts_of-apply c types =
    let pairs : List (Ty × List Ty) = map (λ (ty : Ty). (ty, parts_of ty)) types in
    let same = map-pairs types in
    ap parts_of (sym (type.rolls-Apply c types))
    ∙ parts_of-roll (layer.Apply c types)
    ∙ ap (λ (lists : List (List Ty)).
    joined lists ++ type.Apply c (map (λ (pair : Ty × List Ty). pair.0) pairs) ∷ []) same.0
    ∙ ap (λ (others : List Ty). joined (map parts_of types) ++ type.Apply c others ∷ []) same.1

-- a type is one of its parts
part_of_itself : (ty : Ty) → Holds (parts_of ty) ty
part_of_itself = type_induction (λ ty. Holds (parts_of ty) ty)
    (λ i. subst (λ list. Holds list (type.Var i)) (sym (parts_of-variable i))
    (or_left (same_type (type.Var i) (type.Var i)) false (same_type-self (type.Var i))))
    (λ c types each. subst (λ list. Holds list (type.Apply c types)) (sym (parts_of-apply c types))
    (back_within (joined (map parts_of types)) (type.Apply c types ∷ []) (type.Apply c types)
    (or_left (same_type (type.Apply c types) (type.Apply c types)) false
    (same_type-self (type.Apply c types)))))

-- the parts of one of the types are among those of all
parts_within : (types : List Ty) → Within types (joined (map parts_of types))
parts_within [] ty is = is
parts_within (first ∷ types) ty is =
    ⊎_elim
    (λ here. front_within (parts_of first) (joined (map parts_of types)) ty
    (subst (λ other. Holds (parts_of other) ty) (same_type-says ty first here) (part_of_itself ty)))
    (λ there. back_within (parts_of first) (joined (map parts_of types)) ty
    (parts_within types ty there))
    (or_cases (same_type ty first) (list_any (same_type ty) types) is)

-- ---- lists that hold the arguments of their types

abbrev IsClosed : List Ty → Type 0
IsClosed list = (c : ℕ) (types : List Ty) → Holds list (type.Apply c types) →
    AllByRecursion (Holds list) types

pub closed_append : (list others : List Ty) → IsClosed list → IsClosed others →
    IsClosed (list ++ others)
closed_append list others first second c types is =
    ⊎_elim
    (λ front. each_kept types list (list ++ others) (front_within list others)
    (first c types front))
    (λ back. each_kept types others (list ++ others) (back_within list others)
    (second c types back))
    (either_holds list others (type.Apply c types) is)

pub closed_joined : (types : List Ty) → AllByRecursion (λ ty. IsClosed (parts_of ty)) types →
    IsClosed (joined (map parts_of types))
closed_joined [] each = λ c list is. absurd (false≢true is)
closed_joined (ty ∷ types) each =
    closed_append (parts_of ty) (joined (map parts_of types)) each.0 (closed_joined types each.1)

variable_differs : (c : ℕ) (types : List Ty) (i : ℕ) → type.Apply c types ≡ type.Var i → ⊥
variable_differs c types i same =
    let out : layer.Apply c types ≡ layer.Var i =
    sym (outs-Apply c types) ∙ ap out-Ty same ∙ outs-Var i in
    cc

apply_arguments : (c d : ℕ) (types others : List Ty) → type.Apply c types ≡ type.Apply d others →
    types ≡ others
apply_arguments c d types others same =
    let out : layer.Apply c types ≡ layer.Apply d others =
    sym (outs-Apply c types) ∙ ap out-Ty same ∙ outs-Apply d others in
    cc

-- what the only type of a list is
only_one : (ty other : Ty) → Holds (other ∷ []) ty → ty ≡ other
only_one ty other is =
    ⊎_elim (λ here. same_type-says ty other here) (λ there. absurd (false≢true there))
    (or_cases (same_type ty other) false is)

parts_closed : (ty : Ty) → IsClosed (parts_of ty)
parts_closed = type_induction (λ ty. IsClosed (parts_of ty))
    (λ i. subst IsClosed (sym (parts_of-variable i))
    (λ c types is. absurd (variable_differs c types i
    (only_one (type.Apply c types) (type.Var i) is))))
    (λ d others each. subst IsClosed (sym (parts_of-apply d others))
    (λ c types is. ⊎_elim
    (λ front. each_kept types (joined (map parts_of others)) _
    (front_within (joined (map parts_of others)) (type.Apply d others ∷ []))
    (closed_joined others each c types front))
    (λ back. subst
    (AllByRecursion (Holds (joined (map parts_of others) ++ type.Apply d others ∷ [])))
    (sym (apply_arguments c d types others
    (only_one (type.Apply c types) (type.Apply d others) back)))
    (all_within others (joined (map parts_of others) ++ type.Apply d others ∷ [])
    (λ ty has. front_within (joined (map parts_of others)) (type.Apply d others ∷ []) ty
    (parts_within others ty has))))
    (either_holds (joined (map parts_of others)) (type.Apply d others ∷ []) (type.Apply c types)
    is)))

pub all_parts_closed : (types : List Ty) → AllByRecursion (λ ty. IsClosed (parts_of ty)) types
all_parts_closed [] = tt
all_parts_closed (ty ∷ types) = (parts_closed ty, all_parts_closed types)

-- ---- each type once

once_holds : (types seen : List Ty) (ty : Ty) → Holds types ty →
    Holds seen ty ⊎ Holds (once seen types) ty
once_holds [] seen ty is = absurd (false≢true is)
once_holds (first ∷ types) seen ty is =
    by (list_any (same_type first) seen) refl
    (λ before there. once_holds types before ty there)
  where
    by : (b : Bool) → list_any (same_type first) seen ≡ b →
        ((before : List Ty) → Holds types ty → Holds before ty ⊎ Holds (once before types) ty) →
        Holds seen ty ⊎ Holds (cond b (once seen types) (first ∷ once (first ∷ seen) types)) ty
    by true was further =
        ⊎_elim
        (λ here. inl (subst (Holds seen) (sym (same_type-says ty first here)) was))
        (λ there. further seen there)
        (or_cases (same_type ty first) (list_any (same_type ty) types) is)
    by false was further =
        let rest = list_any (same_type ty) (once (first ∷ seen) types) in
        ⊎_elim
        (λ here. inr (or_left (same_type ty first) rest here))
        (λ there. ⊎_elim
        (λ known. ⊎_elim
        (λ here. inr (or_left (same_type ty first) rest here))
        (λ before. inl before)
        (or_cases (same_type ty first) (list_any (same_type ty) seen) known))
        (λ later. inr (or_right (same_type ty first) rest later))
        (further (first ∷ seen) there))
        (or_cases (same_type ty first) (list_any (same_type ty) types) is)

once_within : (types seen : List Ty) → Within (once seen types) types
once_within [] seen ty is = is
once_within (first ∷ types) seen ty is =
    by (list_any (same_type first) seen) (λ before. once_within types before ty) is
  where
    by : (b : Bool) → ((before : List Ty) → Holds (once before types) ty → Holds types ty) →
        Holds (cond b (once seen types) (first ∷ once (first ∷ seen) types)) ty →
        Holds (first ∷ types) ty
    by true further has =
        or_right (same_type ty first) (list_any (same_type ty) types) (further seen has)
    by false further has =
        ⊎_elim
        (λ here. or_left (same_type ty first) (list_any (same_type ty) types) here)
        (λ there. or_right (same_type ty first) (list_any (same_type ty) types)
        (further (first ∷ seen) there))
        (or_cases (same_type ty first) (list_any (same_type ty) (once (first ∷ seen) types)) has)

-- ---- the list of sorts

or_individuals_holds : (types : List Ty) → Within types (or_individuals types)
or_individuals_holds [] ty is = absurd (false≢true is)
or_individuals_holds (first ∷ types) ty is = is

or_individuals_closed : (types : List Ty) → IsClosed types → IsClosed (or_individuals types)
or_individuals_closed [] closed = λ c types is.
    let none : types ≡ [] =
    apply_arguments c 0 types [] (only_one (type.Apply c types) (type.Apply 0 []) is) in
    subst (AllByRecursion (Holds (type.Apply 0 [] ∷ []))) (sym none) tt
or_individuals_closed (first ∷ types) closed = closed

once_closed : (types : List Ty) → IsClosed types → IsClosed (once [] types)
once_closed types closed c list is =
    each_kept list types (once [] types)
    (λ ty has. ⊎_elim (λ seen. absurd (false≢true seen)) (λ kept. kept)
    (once_holds types [] ty has))
    (closed c list (once_within types [] (type.Apply c list) is))

module _ (normal : Normal) where
  abbrev listed : List Ty
  listed = types_in_order normal

  -- the types of the symbols and of binders are sorts
  listed_within : Within listed (sorts normal)
  listed_within ty is =
      or_individuals_holds (once [] (joined (map parts_of listed))) ty
      (⊎_elim (λ seen. absurd (false≢true seen)) (λ kept. kept)
      (once_holds (joined (map parts_of listed)) [] ty (parts_within listed ty is)))

  -- sorts are sorts
  pub sorts_listed : AreSorts normal (sorts normal)
  sorts_listed = all_within (sorts normal) (sorts normal) (λ ty is. is)

  pub sort_arguments : (c : ℕ) (types : List Ty) → IsSort normal (type.Apply c types) →
      AreSorts normal types
  sort_arguments =
      or_individuals_closed (once [] (joined (map parts_of listed)))
      (once_closed (joined (map parts_of listed)) (closed_joined listed (all_parts_closed listed)))

  -- lists of which the sorts hold what they join
  all_joined : {A : Type 0} (f : A → List Ty) (items : List A) →
      Within (joined (map f items)) (sorts normal) →
      AllByRecursion (λ item. AreSorts normal (f item)) items
  all_joined f [] within = tt
  all_joined f (item ∷ items) within = (
    all_within (f item) (sorts normal)
        (λ ty is. within ty (front_within (f item) (joined (map f items)) ty is)),
    all_joined f items
        (λ ty is. within ty (back_within (f item) (joined (map f items)) ty is)),
  )

  pub declared_sorts :
      AllByRecursion (λ (symbol : Symbol). AreSorts normal (declared_types symbol))
      normal.signature.symbols
  declared_sorts =
      let declared = joined (map declared_types normal.signature.symbols) in
      let bound = joined (map (λ (formula : NormalFormula). binder_types formula.body)
      normal.formulas) in
      all_joined declared_types normal.signature.symbols
      (λ ty is. listed_within ty (front_within declared bound ty is))

  pub binder_sorts :
      AllByRecursion (λ (formula : NormalFormula). AreSorts normal (binder_types formula.body))
      normal.formulas
  binder_sorts =
      let declared = joined (map declared_types normal.signature.symbols) in
      let bound = joined (map (λ (formula : NormalFormula). binder_types formula.body)
      normal.formulas) in
      all_joined (λ (formula : NormalFormula). binder_types formula.body) normal.formulas
      (λ ty is. listed_within ty (back_within declared bound ty is))

  -- ---- symbols and terms

  all_at : {A : Type 0} (P : A → Type 0) (items : List A) (i : ℕ) (item : A) →
      AllByRecursion P items → slice_get items i ≡ Some item → P item
  all_at P [] i item all at = cc
  all_at P (x ∷ items) zero item all at = let same : x ≡ item = cc in subst P same all.0
  all_at P (x ∷ items) (suc i) item all at = all_at P items i item all.1 at

  pub sorts_front : (types others : List Ty) → AreSorts normal (types ++ others) →
      AreSorts normal types
  sorts_front [] others all = tt
  sorts_front (ty ∷ types) others all = (all.0, sorts_front types others all.1)

  pub sorts_back : (types others : List Ty) → AreSorts normal (types ++ others) →
      AreSorts normal others
  sorts_back [] others all = all
  sorts_back (ty ∷ types) others all = sorts_back types others all.1

  pub argument_sorts : (f : ℕ) (symbol : Symbol) →
      slice_get normal.signature.symbols f ≡ Some symbol → AreSorts normal symbol.arguments
  argument_sorts f symbol at =
      sorts_front symbol.arguments (result_types symbol.result)
      (all_at (λ (one : Symbol). AreSorts normal (declared_types one)) normal.signature.symbols f
      symbol declared_sorts at)

  pub result_sort : (f : ℕ) (symbol : Symbol) (result : Ty) →
      slice_get normal.signature.symbols f ≡ Some symbol → symbol.result ≡ Some result →
      IsSort normal result
  result_sort f symbol result at gives =
      let declared = all_at (λ (one : Symbol). AreSorts normal (declared_types one))
      normal.signature.symbols f symbol declared_sorts at in
      (subst (λ o. AreSorts normal (result_types o)) gives
      (sorts_back symbol.arguments (result_types symbol.result) declared)).0

  module _ (monomorphic : IsTrue (is_monomorphic normal)) where
    all_pass : {A : Type 0} (test : A → Bool) (items : List A) (i : ℕ) (item : A) →
        IsTrue (list_all test items) → slice_get items i ≡ Some item → IsTrue (test item)
    all_pass test [] i item all at = cc
    all_pass test (x ∷ items) zero item all at =
        let same : x ≡ item = cc in
        ap test (sym same) ∙ (and_parts (test x) (list_all test items) all).0
    all_pass test (x ∷ items) (suc i) item all at =
        all_pass test items i item (and_parts (test x) (list_all test items) all).1 at

    -- a symbol is applied at no types
    pub no_types : (variables f : ℕ) (symbol : Symbol) (result : Option Ty) (types : List Ty) →
        IsInstance normal.signature variables f symbol result types → types ≡ []
    no_types variables f symbol result types instance =
        let parts = and_parts
        (list_all (λ (one : Symbol). eqb one.parameters 0) normal.signature.symbols)
        (list_all (λ (one : NormalFormula). eqb one.type_variables 0) normal.formulas)
        monomorphic in
        let none = eqb-true symbol.parameters 0
        (all_pass (λ (one : Symbol). eqb one.parameters 0) normal.signature.symbols f symbol
        parts.0 instance.at) in
        empty types (instance.count ∙ none)
      where
        empty : (types : List Ty) → length types ≡ 0 → types ≡ []
        empty [] count = refl
        empty (ty ∷ types) count = absurd (omega (arith, count))

    instances_same : (types : List Ty) → types ≡ map (instantiate []) types
    instances_same [] = refl
    instances_same (ty ∷ types) =
        ap (λ x. x ∷ types) (sym (instantiate-none ty))
        ∙ ap (λ others. instantiate [] ty ∷ others) (instances_same types)

    pub place_sorts : (variables f : ℕ) (symbol : Symbol) (result : Option Ty) (types : List Ty) →
        IsInstance normal.signature variables f symbol result types →
        AreSorts normal (map (instantiate types) symbol.arguments)
    place_sorts variables f symbol result types instance =
        subst (λ list. AreSorts normal (map (instantiate list) symbol.arguments))
        (sym (no_types variables f symbol result types instance))
        (subst (AreSorts normal) (instances_same symbol.arguments)
        (argument_sorts f symbol instance.at))

    pub term_sort : (variables : ℕ) (context : List Ty) (t : Term) (ty : Ty) →
        AreSorts normal context → HasType normal.signature variables context t ty →
        IsSort normal ty
    term_sort variables context t ty sorted (of_variable i found at) =
        all_at (IsSort normal) context i ty sorted at
    term_sort variables context t ty sorted (of_apply f symbol result types terms instance have) =
        subst (λ list. IsSort normal (instantiate list result))
        (sym (no_types variables f symbol (Some result) types instance))
        (subst (IsSort normal) (sym (instantiate-none result))
        (result_sort f symbol result instance.at instance.gives))

pub hold_types : SortsHoldTypes
hold_types normal = record {
  declared = declared_sorts normal;
  binders = binder_sorts normal;
  arguments = sort_arguments normal;
  terms = λ monomorphic. term_sort normal monomorphic;
  places = λ monomorphic. place_sorts normal monomorphic;
}
