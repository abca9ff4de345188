-- What a type that is an application is compared with, and instances at no types.
use Rattle.std.proofs.Common.{◌≡◌, ◌↔◌, ◌<◌, ℕ, Bool, true, false, IsTrue, nat_eq, List, [], ◌∷◌, map, length, get_or, refl, sym, ap, ◌∙◌, arith}
use Rattle.std.proofs.lemmas.List.{get_or-map}
use Rattle.std.specs.List.{AllByRecursion}
use Rattle.std.proofs.lemmas.Bool.{false≢true}
use Rattle.std.proofs.lemmas.Bool.Decides.{nat_tests}
use Rattle.tf_core.specs.declared.ty.Ty.{Ty, out-Ty}
use Rattle.tf_core.specs.declared.ty.Ty.TheVariants as type
use Rattle.tf_core.specs.declared.ty.Ty.TheOpen as layer
use Rattle.tf_core.specs.declared.ty.Ty.TheViews.{outs-Var, outs-Apply}
use Rattle.tf_core.specs.Types.{instantiate, same_type}
use Rattle.tf_core.proofs.Induction.{type_induction}
use Rattle.tf_core.proofs.Typed.{same_type-says, same_type-self}
use Rattle.tf_core.proofs.Types.{instantiate-variable, instantiate-apply}

-- applications

variable_differs : (c : ℕ) (types : List Ty) (i : ℕ) → type.Apply c types ≡ type.Var i → ⊥
variable_differs c types i same =
    let out : layer.Apply c types ≡ layer.Var i =
    sym (outs-Apply c types) ∙ ap out-Ty same ∙ outs-Var i in
    cc

apply_parts : (c d : ℕ) (types others : List Ty) → type.Apply c types ≡ type.Apply d others →
    (c ≡ d) × (types ≡ others)
apply_parts c d types others same =
    let out : layer.Apply c types ≡ layer.Apply d others =
    sym (outs-Apply c types) ∙ ap out-Ty same ∙ outs-Apply d others in
    let first : c ≡ d = cc in
    let second : types ≡ others = cc in
    (first, second)

tested : (m n : ℕ) → IsTrue (nat_eq m n) → m ≡ n
tested m n same = grind (arith, nat_tests)

module _ (ty other : Ty) (c : ℕ) (types : List Ty) (is : ty ≡ type.Apply c types) where
  -- an application is no variable
  pub never_variable : (i : ℕ) → other ≡ type.Var i → IsTrue false ↔ (ty ≡ other)
  never_variable i variable = (
    λ no. absurd (false≢true no),
    λ same. absurd (variable_differs c types i (sym is ∙ same ∙ variable)),
  )

  module _ (d : ℕ) (others : List Ty) (other_is : other ≡ type.Apply d others) where
    -- under one constructor the parts decide
    pub parts_decide : (answer : Bool) → c ≡ d → IsTrue answer ↔ (types ≡ others) →
        IsTrue answer ↔ (ty ≡ other)
    parts_decide answer same decides = (
      λ yes. is ∙ ap (λ n. type.Apply n types) same ∙ ap (type.Apply d) (decides.0 yes)
          ∙ sym other_is,
      λ equal. decides.1 (apply_parts c d types others (sym is ∙ equal ∙ other_is)).1,
    )

    -- under two constructors the types differ
    pub constructors_decide : (c ≡ d → ⊥) → IsTrue (nat_eq c d) ↔ (ty ≡ other)
    constructors_decide differs = (
      λ yes. absurd (differs (tested c d yes)),
      λ equal. absurd (differs (apply_parts c d types others (sym is ∙ equal ∙ other_is)).0),
    )

-- the instance of an application
pub instance_is : (types : List Ty) (ty : Ty) (c : ℕ) (arguments : List Ty) →
    ty ≡ type.Apply c arguments →
    instantiate types ty ≡ type.Apply c (map (instantiate types) arguments)
instance_is types ty c arguments is = ap (instantiate types) is ∙ instantiate-apply types c arguments

-- tests

-- two tests that hold together are one
pub same_test : (a b : Bool) → (IsTrue a → IsTrue b) → (IsTrue b → IsTrue a) → a ≡ b
same_test true true there back = refl
same_test false false there back = refl
same_test true false there back = sym (there refl)
same_test false true there back = back refl

-- what decides that two types are equal is their test
pub same_type-decided : (answer : Bool) (ty other : Ty) → IsTrue answer ↔ (ty ≡ other) →
    answer ≡ same_type ty other
same_type-decided answer ty other decides =
    same_test answer (same_type ty other)
    (λ yes. ap (same_type ty) (sym (decides.0 yes)) ∙ same_type-self ty)
    (λ same. decides.1 (same_type-says ty other same))

-- at no types a type is its own instance

mapped : (types : List Ty) → AllByRecursion (λ ty. instantiate [] ty ≡ ty) types →
    map (instantiate []) types ≡ types
mapped [] each = refl
mapped (ty ∷ types) each =
    ap (λ x. x ∷ map (instantiate []) types) each.0 ∙ ap (λ xs. ty ∷ xs) (mapped types each.1)

pub instantiate-none : (ty : Ty) → instantiate [] ty ≡ ty
instantiate-none = type_induction (λ ty. instantiate [] ty ≡ ty)
    (λ i. instantiate-variable [] i)
    (λ c types each. instantiate-apply [] c types ∙ ap (type.Apply c) (mapped types each))

-- lists of instances differ where two of their items do
pub items_differ : (f g : Ty → Ty) (items others : List Ty) (i : ℕ) (item other : Ty) →
    i < length items → i < length others → item ≡ get_or items i item →
    other ≡ get_or others i other → IsTrue false ↔ (f item ≡ g other) →
    IsTrue false ↔ (map f items ≡ map g others)
items_differ f g items others i item other within inside is other_is differs = (
  λ no. absurd (false≢true no),
  λ same. differs.1
      (ap f is ∙ sym (get_or-map f items i item item within)
      ∙ ap (λ xs. get_or xs i item) same
      ∙ get_or-map g others i other item inside ∙ ap g (sym other_is)),
)
