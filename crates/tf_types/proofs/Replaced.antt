-- Instances of a type under two lists of types.
use Rattle.std.specs.Prelude.{ℕ, ◌≡◌, ◌||◌, ◌↔◌, ◌⊎◌, Bool, true, false, IsTrue, List, [], ◌∷◌, map}
use Rattle.std.specs.List.{AllByRecursion}
use Rattle.std.proofs.Common.{refl, sym, ap, subst, ◌∙◌, inl, inr}
use Rattle.std.proofs.lemmas.Bool.{false≢true}
use Rattle.std.proofs.lemmas.Bool.Decides.{Decides-eqb}
use Rattle.tf_core.specs.declared.ty.Ty.{Ty}
use Rattle.tf_core.specs.declared.ty.Ty.TheVariants as type
use Rattle.tf_core.specs.Types.{instantiate}
use Rattle.tf_core.specs.Occurrences.{occurs_in_type, occurs_in_types}
use Rattle.tf_core.proofs.Types.{instantiate-apply}
use Rattle.tf_core.proofs.Induction.{type_induction}
use Rattle.tf_core.proofs.Occurrences.{occurs_in_type-variable, occurs_in_type-apply}
use Rattle.tf_types.proofs.Nodes.{apply_parts}

one_of_two : (a b : Bool) → (a || b) ≡ true → (a ≡ true) ⊎ (b ≡ true)
one_of_two true b is = inl refl
one_of_two false b is = inr is

first_of_two : (a b : Bool) → a ≡ true → (a || b) ≡ true
first_of_two true b is = refl
first_of_two false b is = absurd (false≢true is)

second_of_two : (a b : Bool) → b ≡ true → (a || b) ≡ true
second_of_two true b is = refl
second_of_two false b is = is

module _ (instances others : List Ty) where
  -- the two replace the variables that occur by the same types
  abbrev pub Agree : (ℕ → Bool) → Type 0
  Agree occurs = (j : ℕ) → IsTrue (occurs j) →
      instantiate instances (type.Var j) ≡ instantiate others (type.Var j)

  abbrev IsSame : Ty → Type 0
  IsSame ty =
      (instantiate instances ty ≡ instantiate others ty) ↔ Agree (λ j. occurs_in_type j ty)

  abbrev AreSame : List Ty → Type 0
  AreSame types = (map (instantiate instances) types ≡ map (instantiate others) types)
      ↔ Agree (λ j. occurs_in_types j types)

  same_parts : (types : List Ty) → AllByRecursion IsSame types → AreSame types
  same_parts [] parts = (λ same j is. absurd (false≢true is), λ agree. refl)
  same_parts (ty ∷ types) parts =
      let behind : AreSame types = same_parts types parts.1 in (
        λ same j is.
            let first : instantiate instances ty ≡ instantiate others ty = cc in
            let rest : map (instantiate instances) types ≡ map (instantiate others) types = cc in
            elim (one_of_two (occurs_in_type j ty) (occurs_in_types j types) is) [
              | inl here ↦ parts.0.0 first j here
              | inr there ↦ behind.0 rest j there
            ],
        λ agree.
            ap (λ t. t ∷ map (instantiate instances) types)
            (parts.0.1 (λ j is.
            agree j (first_of_two (occurs_in_type j ty) (occurs_in_types j types) is)))
            ∙ ap (λ ts. instantiate others ty ∷ ts)
            (behind.1 (λ j is.
            agree j (second_of_two (occurs_in_type j ty) (occurs_in_types j types) is))),
      )

  same_variable : (k : ℕ) → IsSame (type.Var k)
  same_variable k = (
    λ same j is.
        subst (λ i. instantiate instances (type.Var i) ≡ instantiate others (type.Var i))
        (sym ((Decides-eqb j k).0 (sym (occurs_in_type-variable j k) ∙ is))) same,
    λ agree. agree k (occurs_in_type-variable k k ∙ (Decides-eqb k k).1 refl),
  )

  same_apply : (c : ℕ) (types : List Ty) → AllByRecursion IsSame types →
      IsSame (type.Apply c types)
  same_apply c types parts =
      let all : AreSame types = same_parts types parts in (
        λ same j is.
            all.0 (apply_parts c c (map (instantiate instances) types)
            (map (instantiate others) types)
            (sym (instantiate-apply instances c types) ∙ same ∙ instantiate-apply others c types)).1
            j (sym (occurs_in_type-apply j c types) ∙ is),
        λ agree.
            instantiate-apply instances c types
            ∙ ap (type.Apply c)
            (all.1 (λ j is. agree j (occurs_in_type-apply j c types ∙ is)))
            ∙ sym (instantiate-apply others c types),
      )

  instances_same : (ty : Ty) → IsSame ty
  instances_same = type_induction IsSame same_variable same_apply

  each_same : (types : List Ty) → AllByRecursion IsSame types
  each_same [] = tt
  each_same (ty ∷ types) = (instances_same ty, each_same types)

  -- instances are equal exactly where the variables that occur are replaced by the same types
  pub all_instances_same : (types : List Ty) → AreSame types
  all_instances_same types = same_parts types (each_same types)
