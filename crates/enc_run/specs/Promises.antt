-- What a run promises, one promise a definition. A text is told where the library tells its files.
use Rattle.std.specs.Prelude.{◌≡◌, ◌≢◌, ◌⊎◌, ◌↔◌, ◌++◌, ℕ, List, Option, Some, None}
use Rattle.std.specs.Io.KnownBytes.{Appends}
use Rattle.enc_base.specs.Library.{Files, IsHeld}
use Rattle.enc_base.specs.Sink.{AppendsPrefix}
use Rattle.tptp_syntax.specs.declared.entry.File.{File}
use Rattle.tptp_syntax.specs.Files.{Spells}
use Rattle.tf_check.specs.Typing.{IsTyped}
use Rattle.tf_core.specs.declared.problem.Problem.{Problem}
use Rattle.tf_core.specs.TypedTables.{HasFiniteModel}
use Rattle.fof_text.specs.States.{TextHasFiniteModel}
use Rattle.enc_pipeline.specs.declared.fault.Fault.{Fault}
use Rattle.enc_pipeline.specs.declared.how.How.{How}
use Rattle.enc_pipeline.specs.Output as outputs
use Rattle.enc_pipeline.specs.RefusalNumbers.{number_of}
use Rattle.enc_run.specs.Source.{IsToldSource, AreToldSource}
use Rattle.enc_run.specs.Texts.{OfSource, IsRefused, IsOutput, IsInput, Fails}
use Rattle.enc_run.specs.Job.{table_name}
use Rattle.enc_run.specs.Leads.{Lead, IsRefusedBy, IsTableRefusedBy, IsUnsuited, IsAcceptable}
use Rattle.enc_run.specs.Leads.{IsOutputOf, preparation}
use Rattle.enc_run.specs.Note.{line, number_word, not_built, cannot_read, cannot_write, no_memory}
use Rattle.enc_run.specs.Statuses.{status_of_refusal}
use Rattle.enc_run.specs.Work.{Change, Work, Rises, OwnRises, Untouched, Adds, IsTold}
use Rattle.enc_run.specs.Work.{IsNameOf, ProblemStands, NoneFails, KeepsCounts}
use Rattle.enc_run.specs.declared.job.Job.{Job}
use Rattle.enc_run.specs.declared.job.Task.TheVariants.{Encode}

-- the status is want of memory, which may stand in the place of any other, or this one
abbrev pub IsOrMemory : ℕ → ℕ → Type 0
IsOrMemory wanted status = (status ≡ wanted) ⊎ (status ≡ 8)

-- ---- the headline

-- The text spells one file, which is well typed with one problem. What was written has a finite
-- model, as a text of first-order logic, exactly when the problem has a finite typed model.
pub record HaveModels (text : List ℕ) (out : Change (Option (List ℕ))) : Type 0 where
  pub file : File
  pub spells : Spells text file
  pub only_file : (other : File) → Spells text other → other ≡ file
  pub problem : Problem
  pub typed : IsTyped file problem
  pub only_problem : (other : Problem) → IsTyped file other → other ≡ problem
  pub output : List ℕ
  pub written : Appends out.before out.after output
  pub models : TextHasFiniteModel output ↔ HasFiniteModel problem

abbrev pub Models : Work → ℕ → Type 0
Models w status =
    (job : Job) (how : How) (text : List ℕ) → IsTold w job text → job.task ≡ Encode how
    → status ≡ 0 → HaveModels text w.out

-- and that output is the text of the problem's encoding in this way
pub record IsTranslated (how : How) (text : List ℕ) (out : Change (Option (List ℕ)))
    : Type 0 where
  pub together : HaveModels text out
  pub is : together.output ≡ outputs.output (preparation how together.problem)

abbrev pub Translated : Work → ℕ → Type 0
Translated w status =
    (job : Job) (how : How) (text : List ℕ) → IsTold w job text → job.task ≡ Encode how
    → status ≡ 0 → IsTranslated how text w.out

-- ---- completeness

-- Where the texts have an output and neither their files nor the output fails, the run is done.
abbrev pub Complete : Work → ℕ → Type 0
Complete w status =
    (job : Job) (source : Lead) (table output : List ℕ) → AreToldSource w job source table
    → IsOutputOf job.task output source table → NoneFails w job → (Rises w.out_faults → ⊥)
    → IsOrMemory 0 status

-- ---- the causes

-- 9 comes exactly where the words give no job
pub record NotBuiltExactly (w : Work) (status : ℕ) : Type 0 where
  pub at_words : w.job ≡ None → IsOrMemory 9 status
  pub only : status ≡ 9 → w.job ≡ None

-- the status is that of a refusal: of a text, by the scheme, of a table, or by a limit
abbrev pub IsOfRefusal : ℕ → Type 0
IsOfRefusal status = (status ≡ 1) ⊎ (status ≡ 3) ⊎ (status ≡ 4) ⊎ (status ≡ 5)

-- 1, 3, 4 and 5 come exactly where the problem or the table is refused, by the status of the reason
pub record RefusedExactly (w : Work) (status : ℕ) : Type 0 where
  pub at_source : (job : Job) (source : Lead) (reason : Fault) → IsToldSource w job source
      → ProblemStands w job → IsRefusedBy job.task reason source
      → IsOrMemory (status_of_refusal reason) status
  pub at_table : (job : Job) (source : Lead) (table : List ℕ) (reason : Fault)
      → AreToldSource w job source table → NoneFails w job
      → IsTableRefusedBy job.task reason source table
      → IsOrMemory (status_of_refusal reason) status
  pub only : IsOfRefusal status
      → (reason : Fault) × IsRefused w reason × (status_of_refusal reason ≡ status)

-- 3 comes exactly where the job's scheme doesn't apply to its problem, and nothing refuses that before
pub record UnsuitedExactly (w : Work) (status : ℕ) : Type 0 where
  pub at_source : (job : Job) (source : Lead) → IsToldSource w job source → ProblemStands w job
      → IsUnsuited job.task source → IsOrMemory 3 status
  pub only : status ≡ 3 → OfSource w IsUnsuited

-- 6 comes only where a read of the problem failed, or one of the table, which comes only where
-- nothing before it refuses; no other name's count changed. At any other status no read failed.
pub record UnreadExactly (w : Work) (status : ℕ) : Type 0 where
  pub only : status ≡ 6
      → (name : List ℕ) × IsInput w name × Fails w name
      × ((other : List ℕ) → other ≢ name → w.own.after other ≡ w.own.before other)
  pub kept : (status ≡ 6 → ⊥) → KeepsCounts w.faults w.own

-- 6 comes where the library tells its files and none under the problem's name, or none under the
-- table's where nothing before it refuses
pub record UnheldIsUnread (w : Work) (status : ℕ) : Type 0 where
  pub problem : (job : Job) (name : List ℕ) (files : Files) → w.job ≡ Some job
      → IsNameOf job name → w.held ≡ Some files → (IsHeld w.held name → ⊥)
      → IsOrMemory 6 status
  pub table : (job : Job) (source : Lead) (name : List ℕ) → IsToldSource w job source
      → ProblemStands w job → IsAcceptable job.task source → table_name job.task ≡ Some name
      → (IsHeld w.held name → ⊥) → IsOrMemory 6 status

-- 7 comes only where the output's faults rose
abbrev pub UnwrittenOnly : Work → ℕ → Type 0
UnwrittenOnly w status = status ≡ 7 → Rises w.out_faults

-- there is no other status
abbrev pub IsStatus : ℕ → Type 0
IsStatus status =
    (status ≡ 0) ⊎ (status ≡ 1) ⊎ (status ≡ 3) ⊎ (status ≡ 4) ⊎ (status ≡ 5) ⊎ (status ≡ 6)
    ⊎ (status ≡ 7) ⊎ (status ≡ 8) ⊎ (status ≡ 9)

-- ---- what is written

-- The output is whole at 0, a prefix at 7, and untouched at any other status.
pub record OutHolds (w : Work) (status : ℕ) : Type 0 where
  pub whole : status ≡ 0
      → (output : List ℕ) × IsOutput w output × Appends w.out.before w.out.after output
  pub prefix : status ≡ 7
      → (output : List ℕ) × IsOutput w output × AppendsPrefix w.out.before w.out.after output
  pub untouched : (status ≡ 0 → ⊥) → (status ≡ 7 → ⊥) → Untouched w.out w.out_faults

-- Nothing is noted at 0. At any other status one note is: a line that the status and the names of
-- the job decide, or one that begins with the number of the reason for which an input is refused.
-- It is added whole, or up to a write of it that failed.
pub record NotesHold (w : Work) (notes : Change (Option (List ℕ))) (notes_faults : Change ℕ)
    (status : ℕ) : Type 0 where
  pub none : status ≡ 0
      → (notes.after ≡ notes.before) × (notes_faults.after ≡ notes_faults.before)
  pub unbuilt : status ≡ 9 → Adds notes notes_faults (line not_built)
  pub unread : status ≡ 6
      → (name : List ℕ) × IsInput w name × (IsHeld w.held name → OwnRises w name)
      × Adds notes notes_faults (line (cannot_read ++ name))
  pub unwritten : status ≡ 7 → Adds notes notes_faults (line cannot_write)
  pub memory : status ≡ 8 → Adds notes notes_faults (line no_memory)
  pub refused : IsOfRefusal status
      → (reason : Fault) × IsRefused w reason × (status_of_refusal reason ≡ status)
      × ((rest : List ℕ) × Adds notes notes_faults (line (number_word (number_of reason) ++ rest)))
