-- The texts of a job where the library tells its files.
use Rattle.std.proofs.Common.{◌≡◌, inl, inr, ℕ, List, Option, Some, None, refl, sym, ap, subst, ◌∙◌, is_some}
use Rattle.std.specs.Prelude.{[], IsSome, IsSomeAnd}
use Rattle.std.specs.FinMap.{get}
use Rattle.std.proofs.lemmas.Option.{same_Some}
use Rattle.enc_base.specs.Library.{Files, Holds, Gives, IsHeld}
use Rattle.enc_run.specs.Source.{IsToldSource, AreToldSource}
use Rattle.enc_run.specs.Texts.{OfSource, OfTexts, Fails, IsInput}
use Rattle.enc_run.specs.Job.{table_name}
use Rattle.enc_run.specs.Leads.{Lead, LeadsTo, IsAcceptable}
use Rattle.enc_run.specs.Work.{Work, HasText, HasTable, Tells, OfName, OwnRises, AreTold, IsNameOf, ProblemStands}
use Rattle.enc_run.specs.declared.job.Job.{Job}
use Rattle.enc_run.specs.declared.job.Task.{Task}
use Rattle.enc_run.proofs.Exclusive.{one_lead}

-- ---- jobs

pub same_job : (w : Work) (a b : Job) → w.job ≡ Some a → w.job ≡ Some b → a ≡ b
same_job w a b is_a is_b = same_Some a b (sym is_a ∙ is_b)

pub no_job : (w : Work) (job : Job) → w.job ≡ None → w.job ≡ Some job → ⊥
no_job w job none some = cc

-- ---- told texts

-- a told text is the one that is read
same_text : (held : Option Files) (name text read : List ℕ) → Gives held name [] read
    → Holds held name text → read ≡ text
same_text None name text read gives holds = absurd holds
same_text (Some files) name text read gives holds =
    subst (λ (found : Option (List ℕ)). IsSomeAnd found (λ bytes. read ≡ bytes)) holds gives

-- what holds of what the job's problem may come from holds of what the told text leads to
pub told_at : (w : Work) (Holding : Task → Lead → Type 0) (job : Job) (text : List ℕ)
    → OfSource w Holding → w.job ≡ Some job → Tells w job.problem text
    → (source : Lead) × LeadsTo text source × Holding job.task source
told_at w Holding job text of is_job is_told =
    let same = same_job w job of.0 is_job of.1 in
    let read = of.2.1 in
    let holds = subst (λ (j : Job). Holds w.held j.problem text) same is_told in (
      of.2.0,
      subst (λ (t : List ℕ). LeadsTo t of.2.0)
          (same_text w.held of.0.problem text read.0 read.1 holds) read.2,
      subst (λ (j : Job). Holding j.task of.2.0) (sym same) of.2.2,
    )

-- and of the source that is told
pub told : (w : Work) (Holding : Task → Lead → Type 0) (job : Job) (source : Lead)
    → OfSource w Holding → IsToldSource w job source → Holding job.task source
told w Holding job source of is_told =
    let has = told_at w Holding job is_told.text of is_told.job_is is_told.holds in
    subst (λ (l : Lead). Holding job.task l)
    (one_lead is_told.text has.0 source has.1 is_told.leads) has.2

-- so is the table that is told, where there is one
same_table : (w : Work) (name : Option (List ℕ)) (table read : List ℕ)
    → OfName name (HasText w) read → OfName name (Tells w) table → read ≡ table
same_table w None table read is_read is_told = is_read ∙ sym is_told
same_table w (Some name) table read is_read is_told =
    same_text w.held name table read is_read is_told

-- what holds of the job's source and table holds of those that are told
pub told_both : (w : Work) (Holding : Task → Lead → List ℕ → Type 0) (job : Job) (source : Lead)
    (table : List ℕ) → OfTexts w Holding → AreToldSource w job source table
    → Holding job.task source table
told_both w Holding job source table of are_told =
    let has = told w
    (λ task lead. (found : List ℕ) × HasTable w task found × Holding task lead found) job source
    of are_told.told in
    subst (Holding job.task source)
    (same_table w (table_name job.task) table has.0 has.1 are_told.holds_table) has.2

-- the table apart
pub told_text : (w : Work) (Holding : Task → Lead → List ℕ → Type 0) (job : Job)
    (source : Lead) → OfTexts w Holding → IsToldSource w job source
    → (table : List ℕ) × HasTable w job.task table × Holding job.task source table
told_text w Holding job source of is_told =
    told w (λ task lead. (found : List ℕ) × HasTable w task found × Holding task lead found) job
    source of is_told

-- by the told texts
pub told_texts : (w : Work) (Holding : Task → Lead → List ℕ → Type 0) (job : Job)
    (text table : List ℕ) → OfTexts w Holding → AreTold w job text table
    → (source : Lead) × LeadsTo text source × Holding job.task source table
told_texts w Holding job text table of are_told =
    let has = told_at w
    (λ task lead. (found : List ℕ) × HasTable w task found × Holding task lead found) job text of
    are_told.told.job_is are_told.told.holds in (
      has.0,
      has.1,
      subst (Holding job.task has.0)
          (same_table w (table_name job.task) table has.2.0 has.2.1 are_told.holds_table) has.2.2,
    )

-- ---- held names

is_held : (held : Option Files) (name text : List ℕ) → Holds held name text → IsHeld held name
is_held None name text holds = absurd holds
is_held (Some files) name text holds = ap is_some holds

is_some_of : (found : Option (List ℕ)) (P : List ℕ → Type 0) → IsSomeAnd found P → IsSome found
is_some_of None P some = absurd some
is_some_of (Some bytes) P some = refl

-- a text that is read from a library that tells its files is held
read_is_held : (held : Option Files) (files : Files) (name read : List ℕ) → held ≡ Some files
    → Gives held name [] read → IsHeld held name
read_is_held None files name read is_told gives = absurd cc
read_is_held (Some told_files) files name read is_told gives =
    is_some_of (get told_files name) (λ bytes. read ≡ bytes) gives

pub text_is_held : (w : Work) (Holding : Task → Lead → Type 0) (job : Job) (files : Files)
    → w.job ≡ Some job → w.held ≡ Some files → OfSource w Holding → IsHeld w.held job.problem
text_is_held w Holding job files is_job is_told of =
    let same = same_job w of.0 job of.1 is_job in
    subst (λ (j : Job). IsHeld w.held j.problem) same
    (read_is_held w.held files of.0.problem of.2.1.0 is_told of.2.1.1)

-- a library that tells a text tells its files
files_of : (held : Option Files) (name text : List ℕ) → Holds held name text
    → (files : Files) × (held ≡ Some files)
files_of None name text holds = absurd holds
files_of (Some files) name text holds = (files, refl)

-- a table that is read is held, where the problem's text is told
pub table_is_held : (w : Work) (job : Job) (source : Lead) (name table : List ℕ)
    → IsToldSource w job source → table_name job.task ≡ Some name → HasTable w job.task table
    → IsHeld w.held name
table_is_held w job source name table is_told is_name has =
    let files = files_of w.held job.problem is_told.text is_told.holds in
    let gives : HasText w name table = subst (λ n. OfName n (HasText w) table) is_name has in
    read_is_held w.held files.0 name table files.1 gives

-- ---- failed reads

-- a failed read of a problem that is held raises its own count
problem_fails : (w : Work) (name : List ℕ) (job read : Job) (source : Lead) → w.job ≡ Some read
    → IsNameOf read name → Fails w name → IsToldSource w job source → OwnRises w job.problem
problem_fails w name job read source is_job is_name fails is_told =
    let same = same_job w job read is_told.job_is is_job in
    let name_is : job.problem ≡ name = ap (λ (j : Job). j.problem) same ∙ is_name in
    let held = is_held w.held job.problem is_told.text is_told.holds in
    subst (λ n. OwnRises w n) (sym name_is) (fails.own (subst (λ n. IsHeld w.held n) name_is held))

-- where no read of a told problem failed, the read that failed is that of the table, and the
-- problem's source is accepted
pub table_unread : (w : Work) (name : List ℕ) (job : Job) (source : Lead) → IsInput w name
    → Fails w name → IsToldSource w job source → ProblemStands w job
    → (table_name job.task ≡ Some name) × IsAcceptable job.task source
table_unread w name job source input fails is_told untroubled = elim input [
  | inl of ↦ absurd (untroubled job.problem refl
      (problem_fails w name job of.0 source of.1 of.2 fails is_told))
  | inr of ↦ told w (λ task lead. (table_name task ≡ Some name) × IsAcceptable task lead) job source
      of is_told
]

-- and where the table is told too, its own count rose
pub table_fails : (w : Work) (name : List ℕ) (job : Job) (source : Lead) (table : List ℕ)
    → AreToldSource w job source table → table_name job.task ≡ Some name → Fails w name
    → OwnRises w name
table_fails w name job source table are_told is_name fails =
    let holds : Tells w name table =
    subst (λ n. OfName n (Tells w) table) is_name are_told.holds_table in
    fails.own (is_held w.held name table holds)
