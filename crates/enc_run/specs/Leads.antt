-- What the texts of a job lead to: a refusal, or an output.
use Rattle.std.specs.Prelude.{◌≡◌, ◌≢◌, ◌<◌, ◌≤◌, ℕ, Bool, true, false, List, Result, Ok, Err}
use Rattle.std.specs.Prelude.{Option, Some, None, IfSome, IsSomeAnd}
use Rattle.enc_base.specs.Counts.{in_64_bits}
use Rattle.tf_core.specs.declared.problem.Problem.{Problem}
use Rattle.tf_nnf.specs.NormalForm.{normal_of}
use Rattle.tf_nnf.specs.Refusal.{most_nodes}
use Rattle.enc_marks.specs.declared.refusal.Refusal.{Refusal}
use Rattle.enc_marks.specs.declared.scheme.Scheme.{Scheme}
use Rattle.enc_marks.specs.Applies.{Applies, IsRefused}
use Rattle.enc_pipeline.specs.declared.fault.Fault.{Fault}
use Rattle.enc_pipeline.specs.declared.fault.Fault.TheVariants as fault
use Rattle.enc_pipeline.specs.Carried.{IsNoModel, IsCheckedTo}
use Rattle.enc_pipeline.specs.Carried.{IsLoweredTo, IsUnlowered, IsLiftedTo, IsUnlifted}
use Rattle.enc_pipeline.specs.Causes.{IsSchemeRefusal, IsUnreadable, nodes_of}
use Rattle.enc_pipeline.specs.Output.{output}
use Rattle.enc_pipeline.specs.Reading.{HasProblem}
use Rattle.enc_pipeline.specs.Way.{Preparation}
use Rattle.enc_pipeline.specs.declared.how.How.{How}
use Rattle.enc_run.specs.declared.job.Task.{Task}
use Rattle.enc_run.specs.declared.job.Task.TheVariants.{Encode, Check, Lower, Lift}

-- ---- schemes

-- a scheme doesn't apply to a problem, whose normal problem is within the limit
pub record IsUnapplied (which : Scheme) (problem : Problem) : Type 0 where
  pub within : nodes_of problem ≤ most_nodes
  pub unapplied : Applies which (normal_of problem) → ⊥

-- and this is the reason for which it is refused
abbrev pub RefusesBy : Scheme → Problem → Refusal → Type 0
RefusesBy which problem reason =
    IsUnapplied which problem × IsSchemeRefusal reason
    × IsRefused which (normal_of problem) reason

-- the problem and the way in which it is prepared
abbrev pub preparation : How → Problem → Preparation
preparation how problem = record { problem = problem; how = how }

-- ---- what a problem's source leads to

-- a problem, or the reason for which there is none
abbrev pub Lead : Type 0
Lead = Result Problem Fault

-- what a text leads to; want of memory is no reason
abbrev pub LeadsTo : List ℕ → Lead → Type 0
LeadsTo text (Ok problem) = HasProblem text problem
LeadsTo text (Err reason) = (reason ≢ fault.Memory) × IsUnreadable text reason

-- the scheme of a task, where it has one
abbrev pub task_scheme : Task → Option Scheme
task_scheme (Encode how) = Some how.scheme
task_scheme (Check table) = None
task_scheme (Lower table how) = Some how.scheme
task_scheme (Lift table how) = Some how.scheme

-- whether a task rests on the normal problem, whose nodes are limited
abbrev pub is_normalised : Task → Bool
is_normalised (Check table) = false
is_normalised _ = true

-- The problem is refused for this reason: its normal problem has too many nodes, or else the task's
-- scheme doesn't apply to it.
abbrev pub RefusesProblem : Task → Problem → Fault → Type 0
RefusesProblem task problem (fault.TooLarge nodes) =
    (is_normalised task ≡ true) × (most_nodes < nodes_of problem)
    × (nodes ≡ in_64_bits (nodes_of problem))
RefusesProblem task problem (fault.Scheme reason) =
    IsSomeAnd (task_scheme task) (λ which. RefusesBy which problem reason)
RefusesProblem task problem _ = ⊥

-- The problem's source is refused for this reason. Neither want of memory nor a failed write is a
-- refusal.
abbrev pub IsRefusedBy : Task → Fault → Lead → Type 0
IsRefusedBy task reason (Ok problem) = RefusesProblem task problem reason
IsRefusedBy task reason (Err other) = reason ≡ other

-- the source leads to a problem to which the task's scheme doesn't apply
abbrev pub IsUnsuited : Task → Lead → Type 0
IsUnsuited task (Ok problem) = IsSomeAnd (task_scheme task) (λ which. IsUnapplied which problem)
IsUnsuited task (Err reason) = ⊥

-- The problem is within the limits, and the task's scheme applies to it: nothing is refused before a
-- table is read.
pub record IsAccepted (task : Task) (problem : Problem) : Type 0 where
  pub within : is_normalised task ≡ true → nodes_of problem ≤ most_nodes
  pub applies : IfSome (task_scheme task) (λ which. Applies which (normal_of problem))

-- the source leads to such a problem
abbrev pub IsAcceptable : Task → Lead → Type 0
IsAcceptable task (Ok problem) = IsAccepted task problem
IsAcceptable task (Err reason) = ⊥

-- ---- a table's text

-- the text is refused as the task's table for this reason
abbrev pub RefusesTable : Task → Problem → List ℕ → Fault → Type 0
RefusesTable (Encode how) problem table reason = ⊥
RefusesTable (Check name) problem table reason = IsNoModel problem table reason
RefusesTable (Lower name how) problem table reason =
    IsUnlowered (preparation how problem) table reason
RefusesTable (Lift name how) problem table reason =
    IsUnlifted (preparation how problem) table reason

-- what a task writes for a problem and a table's text
abbrev pub Writes : Task → Problem → List ℕ → List ℕ → Type 0
Writes (Encode how) problem table written = written ≡ output (preparation how problem)
Writes (Check name) problem table written = IsCheckedTo problem table written
Writes (Lower name how) problem table written =
    IsLoweredTo (preparation how problem) table written
Writes (Lift name how) problem table written =
    IsLiftedTo (preparation how problem) table written

-- the source is accepted, and the table is refused for this reason
abbrev pub IsTableRefusedBy : Task → Fault → Lead → List ℕ → Type 0
IsTableRefusedBy task reason (Ok problem) table =
    IsAccepted task problem × RefusesTable task problem table reason
IsTableRefusedBy task reason (Err other) table = ⊥

-- the source is accepted, and this is the output for its problem and the table's text
abbrev pub IsOutputOf : Task → List ℕ → Lead → List ℕ → Type 0
IsOutputOf task written (Ok problem) table =
    IsAccepted task problem × Writes task problem table written
IsOutputOf task written (Err reason) table = ⊥
