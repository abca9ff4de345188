-- What the definitions of carried models promise one another.
use Rattle.std.specs.Prelude.{ℕ, ◌≡◌, List}
use Rattle.tf_core.specs.declared.problem.Problem.{Problem}
use Rattle.enc_models.specs.Lowered.{lowered}
use Rattle.enc_pipeline.specs.Way.{Preparation}
use Rattle.enc_pipeline.specs.Ready.{IsPrepared}
use Rattle.enc_pipeline.specs.Carried.{written_normal, choices, lifted_model}
use Rattle.enc_pipeline.specs.Carried.{IsTableOfModel, IsTableOfUntypedModel}
use Rattle.enc_pipeline.specs.Carried.{IsNoModel, IsCheckedTo, IsUnlowered, IsLoweredTo}
use Rattle.enc_pipeline.specs.Carried.{IsUnlifted, IsLiftedTo}
use Rattle.enc_pipeline.specs.declared.fault.Fault.{Fault}

-- ---- one answer

-- there is at most one output, or one refusal, and not both
pub record HasOneAnswer (Refuses : Fault → Type 0) (Writes : List ℕ → Type 0) : Type 0 where
  pub one_refusal : (reason other : Fault) → Refuses reason → Refuses other → reason ≡ other
  pub one_output : (output other : List ℕ) → Writes output → Writes other → output ≡ other
  pub not_both : (reason : Fault) (output : List ℕ) → Refuses reason → Writes output → ⊥

-- of a table for a problem, whether checked, lowered or lifted

abbrev pub CheckingHasOneAnswer : Type 0
CheckingHasOneAnswer = (problem : Problem) (table : List ℕ) →
    HasOneAnswer (IsNoModel problem table) (IsCheckedTo problem table)

abbrev pub LoweringHasOneAnswer : Type 0
LoweringHasOneAnswer = (p : Preparation) (table : List ℕ) →
    HasOneAnswer (IsUnlowered p table) (IsLoweredTo p table)

abbrev pub LiftingHasOneAnswer : Type 0
LiftingHasOneAnswer = (p : Preparation) (table : List ℕ) →
    HasOneAnswer (IsUnlifted p table) (IsLiftedTo p table)

-- ---- what is written is read

-- What is written for a typed table that is lowered is an untyped table of a model of the
-- translation: the lowered structure.
abbrev pub LoweredTablesAreOfModels : Type 0
LoweredTablesAreOfModels = (p : Preparation) (table output : List ℕ) → IsPrepared p →
    (done : IsLoweredTo p table output) →
    IsTableOfUntypedModel output p (lowered (choices p) (written_normal p) done.extension)

-- What is written for an untyped table that is lifted is a typed table of a model of the problem:
-- the lifted structure without the fresh constructors.
abbrev pub LiftedTablesAreOfModels : Type 0
LiftedTablesAreOfModels = (p : Preparation) (table output : List ℕ) → IsPrepared p →
    (done : IsLiftedTo p table output) → IsTableOfModel output p.problem (lifted_model p done.model)
