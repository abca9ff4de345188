-- What a run rests on: the texts of its job, its reads, and what the texts lead to.
use Rattle.std.specs.Prelude.{◌≡◌, ◌≤◌, ◌⊎◌, ℕ, List, Some, None, IsSome}
use Rattle.enc_base.specs.Counts.{one_more}
use Rattle.enc_base.specs.Library.{IsHeld}
use Rattle.enc_pipeline.specs.declared.fault.Fault.{Fault}
use Rattle.enc_run.specs.Job.{table_name}
use Rattle.enc_run.specs.Leads.{Lead, IsRefusedBy, IsTableRefusedBy, IsAcceptable, IsOutputOf}
use Rattle.enc_run.specs.Source.{Source}
use Rattle.enc_run.specs.Work.{Work, Rises, OwnRises, HasTable, IsNameOf}
use Rattle.enc_run.specs.declared.job.Job.{Job}
use Rattle.enc_run.specs.declared.job.Task.{Task}

-- ---- sources and texts

-- the words give a job, and this holds of its task and of what its problem may come from
abbrev pub OfSource : Work → (Task → Lead → Type 0) → Type 0
OfSource w Holding =
    (job : Job) × (w.job ≡ Some job)
    × ((source : Lead) × Source w job source × Holding job.task source)

-- the same, and of a text that may be its table's
abbrev pub OfTexts : Work → (Task → Lead → List ℕ → Type 0) → Type 0
OfTexts w Holding = OfSource w (λ task source.
    (table : List ℕ) × HasTable w task table × Holding task source table)

-- the job's problem or its table is refused for this reason
abbrev pub IsRefused : Work → Fault → Type 0
IsRefused w reason =
    OfSource w (λ task. IsRefusedBy task reason) ⊎ OfTexts w (λ task. IsTableRefusedBy task reason)

-- this is the job's output
abbrev pub IsOutput : Work → List ℕ → Type 0
IsOutput w output = OfTexts w (λ task. IsOutputOf task output)

-- ---- reads

-- a read of the name failed, by the library's count, and by the name's own where it is held
pub record Fails (w : Work) (name : List ℕ) : Type 0 where
  pub rises : Rises w.faults
  pub own : IsHeld w.held name → OwnRises w name

-- the name is that of the job's problem, and there was no second read, or it is that of its table,
-- where the problem's source is accepted
abbrev pub IsInput : Work → List ℕ → Type 0
IsInput w name =
    ((job : Job) × (w.job ≡ Some job) × IsNameOf job name
    × (w.reads.after ≤ one_more w.reads.before))
    ⊎ OfSource w (λ task source. (table_name task ≡ Some name) × IsAcceptable task source)

-- No read where the words give no job, and at most two in all: the second only of a table, and
-- where the problem's source is accepted.
pub record ReadsAsNeeded (w : Work) : Type 0 where
  pub most : w.reads.after ≤ one_more (one_more w.reads.before)
  pub none : w.job ≡ None → w.reads.after ≡ w.reads.before
  pub second : (w.reads.after ≤ one_more w.reads.before)
      ⊎ OfSource w (λ task source. IsSome (table_name task) × IsAcceptable task source)
