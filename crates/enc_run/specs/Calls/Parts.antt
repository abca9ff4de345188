-- How the parts of a run end: the encoding of a text, and a task on one. This need not be believed:
-- no promise of a run cites it.
use Rattle.std.specs.Prelude.{◌≡◌, ◌≤◌, ◌⊎◌, ℕ, List, [], Option, Some, Result}
use Rattle.std.specs.Prelude.{Ok, Err}
use Rattle.std.specs.Io.KnownBytes.{Appends}
use Rattle.enc_base.specs.Counts.{one_more}
use Rattle.enc_base.specs.Sink.{AppendsPrefix}
use Rattle.tf_core.specs.declared.problem.Problem.{Problem}
use Rattle.tf_nnf.specs.NormalForm.{normal_of}
use Rattle.tf_nnf.specs.Refusal.{most_nodes}
use Rattle.enc_marks.specs.Applies.{Applies}
use Rattle.enc_pipeline.specs.Causes.{nodes_of}
use Rattle.enc_pipeline.specs.Reading.{HasProblem}
use Rattle.enc_pipeline.specs.Way.{Preparation, plain_way}
use Rattle.enc_pipeline.specs.declared.how.How.{How}
use Rattle.enc_run.specs.Texts.{Fails}
use Rattle.enc_run.specs.Job.{table_name}
use Rattle.enc_run.specs.Leads.{Lead, LeadsTo, IsRefusedBy, IsTableRefusedBy}
use Rattle.enc_run.specs.Leads.{IsAcceptable, IsOutputOf, preparation}
use Rattle.enc_run.specs.Work.{Change, Work, Rises, Untouched, HasTable}
use Rattle.enc_run.specs.declared.job.Task.{Task}
use Rattle.enc_run.specs.declared.job.Task.TheVariants.{Encode, Check, Lower, Lift}
use Rattle.enc_run.specs.declared.stop.Stop.{Stop}
use Rattle.enc_run.specs.declared.stop.Stop.TheVariants.{NotBuilt, Unread, Refused, Unwritten}
use Rattle.enc_run.specs.declared.stop.Stop.TheVariants.{Memory}

-- the task is in a way in which nothing is asked for but a scheme
abbrev pub IsPlainTask : Task → Type 0
IsPlainTask (Encode how) = how ≡ plain_way how.scheme
IsPlainTask (Check table) = Unit {0}
IsPlainTask (Lower table how) = how ≡ plain_way how.scheme
IsPlainTask (Lift table how) = how ≡ plain_way how.scheme

-- ---- a text

-- the text leads to this
abbrev pub Led : List ℕ → (Lead → Type 0) → Type 0
Led text Holding = (source : Lead) × LeadsTo text source × Holding source

-- the text is accepted, and this is the output for it and the table's
abbrev pub LedToOutput : Task → List ℕ → List ℕ → List ℕ → Type 0
LedToOutput task output text table = Led text (λ source. IsOutputOf task output source table)

module _ (how : How) (text : List ℕ) (out : Change (Option (List ℕ))) (faults : Change ℕ) where
  -- how the encoding of a text ends
  abbrev pub EncodingEnds : Result (Unit {0}) Stop → Type 0
  EncodingEnds (Ok done) =
      (output : List ℕ) × LedToOutput (Encode how) output text []
      × Appends out.before out.after output
  EncodingEnds (Err Unwritten) =
      (output : List ℕ) × LedToOutput (Encode how) output text []
      × AppendsPrefix out.before out.after output × Rises faults
  EncodingEnds (Err (Refused reason)) =
      Led text (IsRefusedBy (Encode how) reason) × Untouched out faults
  EncodingEnds (Err Memory) = Untouched out faults
  EncodingEnds (Err (Unread name)) = ⊥
  EncodingEnds (Err NotBuilt) = ⊥

-- why a task is stopped by its problem's text
abbrev pub TextStops : Task → List ℕ → Stop → Type 0
TextStops task text (Refused reason) = Led text (IsRefusedBy task reason)
TextStops task text Memory = Unit {0}
TextStops task text _ = ⊥

-- the text has the problem, which is within the limits, and it is prepared in a way whose scheme
-- applies to it
pub record HasPrepared (how : How) (text : List ℕ) (prepared : Preparation) : Type 0 where
  pub problem : Problem
  pub has : HasProblem text problem
  pub within : nodes_of problem ≤ most_nodes
  pub applies : Applies how.scheme (normal_of problem)
  pub is : prepared ≡ preparation how problem

-- How a task on a problem's text ends, as seen from the read of that text on: `w` is what is seen
-- of the rest of the run.
module _ (task : Task) (text : List ℕ) (w : Work) where
  -- the text of the task's table leads to this
  abbrev pub WithTable : (List ℕ → Type 0) → Type 0
  WithTable Leads = (table : List ℕ) × HasTable w task table × Leads table

  abbrev pub TextEnds : Result (Unit {0}) Stop → Type 0
  TextEnds (Ok done) =
      (output : List ℕ) × WithTable (LedToOutput task output text)
      × Appends w.out.before w.out.after output
  TextEnds (Err Unwritten) =
      (output : List ℕ) × WithTable (LedToOutput task output text)
      × AppendsPrefix w.out.before w.out.after output × Rises w.out_faults
  TextEnds (Err (Refused reason)) =
      (Led text (IsRefusedBy task reason)
      ⊎ WithTable (λ table. Led text (λ source. IsTableRefusedBy task reason source table)))
      × Untouched w.out w.out_faults
  TextEnds (Err (Unread name)) =
      (table_name task ≡ Some name) × Led text (IsAcceptable task) × Fails w name
      × Untouched w.out w.out_faults
  TextEnds (Err Memory) = Untouched w.out w.out_faults
  TextEnds (Err NotBuilt) = ⊥

  -- the table is read at most once, and only where the problem's text is accepted
  abbrev pub ReadsTable : Type 0
  ReadsTable =
      (w.reads.after ≡ w.reads.before)
      ⊎ ((name : List ℕ) × (table_name task ≡ Some name) × Led text (IsAcceptable task)
      × (w.reads.after ≡ one_more w.reads.before))
