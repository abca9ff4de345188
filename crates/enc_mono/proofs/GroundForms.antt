-- What holds of the ground formulas that stand for those of a problem.
use Rattle.std.specs.Prelude.{ℕ, zero, suc, ◌≡◌, ◌+◌, Bool, true, false, List, [], ◌∷◌, map, cond, eqb, replicate, IsTrue}
use Rattle.std.specs.List.{AllByRecursion}
use Rattle.std.proofs.Common.{refl, sym, ◌∙◌, subst}
use Rattle.std.proofs.lemmas.Bool.{eqb-true}
use Rattle.enc_base.specs.Tables.{EachBelow}
use Rattle.tf_core.specs.declared.ty.Ty.{Ty}
use Rattle.tf_core.specs.declared.normal.NormalFormula.{NormalFormula}
use Rattle.tf_core.specs.declared.normal.Normal.{Normal}
use Rattle.tf_core.specs.Typing.{IsNnf}
use Rattle.tf_core.specs.Sound.{IsSoundNormal, IsSoundFormula}
use Rattle.tf_core.specs.Structures.{Typed, member_count, member_of, IsStructure}
use Rattle.tf_core.specs.Truth.{normal_truth}
use Rattle.tf_core.specs.Models.{IsNormalSatisfied}
use Rattle.tf_core.proofs.Instances.{truth-substitute_types}
use Rattle.tf_core.proofs.NnfTypingKept.{nnf-substituted}
use Rattle.tf_core.proofs.Values.{types_below}
use Rattle.enc_mono.specs.Rounds.{IsGround, IsAdmitted}
use Rattle.enc_mono.specs.Monomorphised.{AreAdmitted, formula_instance, formula_instances, ground_forms, AreGroundForms, no_forms, more_forms}
use Rattle.enc_mono.proofs.Listed.{all-append, all-contained}

-- what is admitted is ground
pub admitted-ground : (normal : Normal) (rounds : ℕ) (formula : NormalFormula) (types : List Ty) →
    IsAdmitted normal rounds formula types →
    IsGround normal.signature formula.type_variables types
admitted-ground normal zero formula types is = absurd is
admitted-ground normal (suc rounds) formula types is = is.ground

-- what is to hold of a formula, itself and under ground substitutions, holds of what stands for it
module _ (normal : Normal) (rounds : ℕ) (P : NormalFormula → Type 0) where
  pub record HoldsOfForms (formula : NormalFormula) : Type 0 where
    pub itself : formula.type_variables ≡ 0 → P formula
    pub instances : (number : ℕ) (types : List Ty) →
        IsGround normal.signature formula.type_variables types →
        P (formula_instance formula number types)

  of_instances : (formula : NormalFormula) → HoldsOfForms formula → (number : ℕ)
      (substitutions : List (List Ty)) →
      AllByRecursion (IsGround normal.signature formula.type_variables) substitutions →
      AllByRecursion P (formula_instances formula number substitutions)
  of_instances formula holds number [] ground = tt
  of_instances formula holds number (types ∷ substitutions) ground = (
    holds.instances number types ground.0,
    of_instances formula holds (number + 1) substitutions ground.1,
  )

  of_forms : (formula : NormalFormula) → HoldsOfForms formula →
      (substitutions : List (List Ty)) → AreAdmitted normal rounds formula substitutions →
      AllByRecursion P (ground_forms formula substitutions)
  of_forms formula holds substitutions admitted =
      by (eqb formula.type_variables 0) refl
    where
      by : (none : Bool) → eqb formula.type_variables 0 ≡ none →
          AllByRecursion P (cond none (formula ∷ []) (formula_instances formula 0 substitutions))
      by true is = (holds.itself (eqb-true formula.type_variables 0 is), tt)
      by false is =
          of_instances formula holds 0 substitutions
          (all-contained (IsGround normal.signature formula.type_variables) substitutions
          (λ types at. admitted-ground normal rounds formula types ((admitted.exact types).0 at)))

  pub of_ground : (formulas ground : List NormalFormula) →
      AreGroundForms normal rounds formulas ground → AllByRecursion HoldsOfForms formulas →
      AllByRecursion P ground
  of_ground formulas ground no_forms holds = tt
  of_ground formulas ground (more_forms formula others rest substitutions admitted forms) holds =
      all-append P (ground_forms formula substitutions) rest
      (of_forms formula holds.0 substitutions admitted) (of_ground others rest forms holds.1)

-- a ground formula is well typed without type variables, and true in a model
pub record IsTrueGround (normal : Normal) (s : Typed) (formula : NormalFormula) : Type 0 where
  pub no_variables : formula.type_variables ≡ 0
  pub typed : IsNnf normal.signature 0 [] formula.body
  pub holds : IsTrue (normal_truth s [] formula.body [])

module _ (normal : Normal) (rounds : ℕ) (s : Typed) (sound : IsSoundNormal normal)
    (structure : IsStructure normal.signature s)
  where
    true_forms : (formula : NormalFormula) → IsSoundFormula normal.signature formula →
        IsNormalSatisfied s formula →
        HoldsOfForms normal rounds (IsTrueGround normal s) formula
    true_forms formula is satisfied = record {
      itself = λ none. record {
        no_variables = none;
        typed = subst (λ n. IsNnf normal.signature n [] formula.body) none is.typed;
        holds = satisfied [] (subst (λ n. EachBelow (replicate n (member_count s)) [])
            (sym none) tt);
      };
      instances = λ number types ground. record {
        no_variables = refl;
        typed = nnf-substituted normal.signature formula.type_variables 0 types ground.formed
            ground.count sound.signature.typed [] formula.body is.typed;
        holds =
            truth-substitute_types s [] types normal.signature formula.type_variables []
            formula.body is.typed (sym ground.count) []
            ∙ satisfied (map (member_of s []) types)
            (subst (λ n. EachBelow (replicate n (member_count s)) (map (member_of s []) types))
            ground.count
            (types_below normal.signature s sound.signature.typed structure 0 [] tt types
            ground.formed));
      };
    }

    all_true_forms : (formulas : List NormalFormula) →
        AllByRecursion (IsSoundFormula normal.signature) formulas →
        AllByRecursion (IsNormalSatisfied s) formulas →
        AllByRecursion (HoldsOfForms normal rounds (IsTrueGround normal s)) formulas
    all_true_forms [] are satisfied = tt
    all_true_forms (formula ∷ formulas) are satisfied = (
      true_forms formula are.0 satisfied.0,
      all_true_forms formulas are.1 satisfied.1,
    )

    pub ground_are_true : (ground : List NormalFormula) →
        AreGroundForms normal rounds normal.formulas ground →
        AllByRecursion (IsNormalSatisfied s) normal.formulas →
        AllByRecursion (IsTrueGround normal s) ground
    ground_are_true ground forms satisfied =
        of_ground normal rounds (IsTrueGround normal s) normal.formulas ground forms
        (all_true_forms normal.formulas sound.formulas satisfied)
