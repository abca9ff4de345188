-- More ground formulas than a number: said by some substitutions that are admitted, and not by all,
-- so that a refusal speaks of no more instances than it counts.
use Rattle.std.specs.Prelude.{ℕ, ◌<◌, List, [], ◌∷◌, ◌++◌, length}
use Rattle.std.specs.List.{AllByRecursion}
use Rattle.tf_core.specs.declared.ty.Ty.{Ty}
use Rattle.tf_core.specs.declared.normal.NormalFormula.{NormalFormula}
use Rattle.tf_core.specs.declared.normal.Normal.{Normal}
use Rattle.enc_mono.specs.Rounds.{IsAdmitted}
use Rattle.enc_mono.specs.TypeOrder.{AreInOrder}
use Rattle.enc_mono.specs.Monomorphised.{ground_forms}

-- substitutions of a formula that the last of so many rounds admits, each once
pub record AreSomeAdmitted (normal : Normal) (rounds : ℕ) (formula : NormalFormula)
    (substitutions : List (List Ty)) : Type 0 where
  pub in_order : AreInOrder substitutions
  pub each : AllByRecursion (IsAdmitted normal rounds formula) substitutions

-- of formulas, ground formulas under such substitutions
pub data AreSomeForms (normal : Normal) (rounds : ℕ) :
    List NormalFormula → List NormalFormula → Type 0 where
  no_more_forms : AreSomeForms normal rounds [] []
  some_forms : (formula : NormalFormula) (formulas ground : List NormalFormula)
      (substitutions : List (List Ty)) → AreSomeAdmitted normal rounds formula substitutions →
      AreSomeForms normal rounds formulas ground →
      AreSomeForms normal rounds (formula ∷ formulas)
      (ground_forms formula substitutions ++ ground)

-- the problem of instances has more formulas than the number
pub record HasMoreThan (normal : Normal) (rounds number : ℕ) : Type 0 where
  pub ground : List NormalFormula
  pub are : AreSomeForms normal rounds normal.formulas ground
  pub more : number < length ground
