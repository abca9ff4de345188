-- A type without variables is one member, whatever the members of type variables are.
use Rattle.std.specs.Prelude.{ℕ, ◌≡◌, List, [], ◌∷◌, map, IsTrue}
use Rattle.std.specs.List.{AllByRecursion, list_any}
use Rattle.std.proofs.Common.{refl, sym, ap, ◌∙◌, subst, arith, ⊎_elim}
use Rattle.std.proofs.lemmas.Bool.{or_cases, false≢true}
use Rattle.tf_core.specs.declared.ty.Ty.{Ty}
use Rattle.tf_core.specs.declared.signature.Signature.{Signature}
use Rattle.tf_core.specs.Types.{same_type, type_value}
use Rattle.tf_core.specs.Typing.{IsType, type_variable, type_apply, AreTypes, no_types, more_types}
use Rattle.tf_core.proofs.Typed.{same_type-says}
use Rattle.tf_core.proofs.Types.{type_value-apply}

module _ (g : Signature) (constructor_at : ℕ → List ℕ → ℕ) where
  mutual
    pub type_value-closed : (ty : Ty) (formed : IsType g 0 ty) (members others : List ℕ) →
        type_value constructor_at members ty ≡ type_value constructor_at others ty
    type_value-closed ty (type_variable i within) members others =
        absurd (omega (arith, within))
    type_value-closed ty (type_apply c constructor types at count formed) members others =
        type_value-apply constructor_at members c types
        ∙ ap (constructor_at c) (type_values-closed types formed members others)
        ∙ sym (type_value-apply constructor_at others c types)

    type_values-closed : (types : List Ty) (formed : AreTypes g 0 types)
        (members others : List ℕ) →
        map (type_value constructor_at members) types
        ≡ map (type_value constructor_at others) types
    type_values-closed types no_types members others = refl
    type_values-closed types (more_types ty rest formed more) members others =
        ap (λ x. x ∷ map (type_value constructor_at members) rest)
        (type_value-closed ty formed members others)
        ∙ ap (λ l. type_value constructor_at others ty ∷ l)
        (type_values-closed rest more members others)

-- what holds of each type of a list holds of one that is there
pub type_there : (P : Ty → Type 0) (types : List Ty) (ty : Ty) → AllByRecursion P types →
    IsTrue (list_any (same_type ty) types) → P ty
type_there P [] ty all is = absurd (false≢true is)
type_there P (first ∷ types) ty all is =
    ⊎_elim
    (λ here. subst P (sym (same_type-says ty first here)) all.0)
    (λ there. type_there P types ty all.1 there)
    (or_cases (same_type ty first) (list_any (same_type ty) types) is)
