-- A run as its caller sees it.
use Rattle.std.specs.Prelude.{◌≡◌, ◌≤◌, ◌⊎◌, ℕ, List, [], map, Option, Some, None, string_bytes}
use Rattle.std.specs.declared.string.String.{String}
use Rattle.std.specs.Io.KnownBytes.{Appends, Keeps}
use Rattle.enc_base.specs.Counts.{Rose}
use Rattle.enc_base.specs.Sink.{AppendsPrefix}
use Rattle.enc_base.specs.Library.{Files, Holds, Gives}
use Rattle.enc_base.specs.declared.library.Library as library
use Rattle.enc_base.specs.declared.sink.Sink as sink
use Rattle.enc_run.specs.Job.{job_of, table_name}
use Rattle.enc_run.specs.declared.job.Job.{Job}
use Rattle.enc_run.specs.declared.job.Task.{Task}

-- a value before a call and after it
pub record Change (A : Type 0) : Type 0 where
  pub before : A
  pub after : A

-- what a sink tells of its bytes, and its count of faults, before a call and after it

abbrev pub bytes_of : {O : Type 0} → sink.Ghosts O → O → O → Change (Option (List ℕ))
bytes_of o before after = record { before = o.bytes before; after = o.bytes after }

abbrev pub faults_of : {O : Type 0} → sink.Ghosts O → O → O → Change ℕ
faults_of o before after = record { before = o.faults before; after = o.faults after }

-- What is seen of a run but the notes and the status: the job that the words give, the files that
-- the library tells, its counts, the bytes that the output tells and its count of faults.
pub record Work : Type 0 where
  pub job : Option Job
  pub held : Option Files
  pub faults : Change ℕ
  pub reads : Change ℕ
  pub own : Change (List ℕ → ℕ)
  pub out : Change (Option (List ℕ))
  pub out_faults : Change ℕ

-- what was seen of a library and a sink before a run and after it, and the job
abbrev pub seen_of : {L O : Type 0} → library.Ghosts L → sink.Ghosts O → Option Job → L → L → O → O
    → Work
seen_of l o job files files_after out out_after = record {
  job = job;
  held = l.held files;
  faults = record { before = l.faults files; after = l.faults files_after };
  reads = record { before = l.reads files; after = l.reads files_after };
  own = record { before = l.own_faults files; after = l.own_faults files_after };
  out = bytes_of o out out_after;
  out_faults = faults_of o out out_after;
}

-- the same of a library's count of faults, and of its counts for each name

abbrev pub read_faults_of : {L : Type 0} → library.Ghosts L → L → L → Change ℕ
read_faults_of l before after = record { before = l.faults before; after = l.faults after }

abbrev pub own_faults_of : {L : Type 0} → library.Ghosts L → L → L → Change (List ℕ → ℕ)
own_faults_of l before after = record { before = l.own_faults before; after = l.own_faults after }

-- a run with these words
abbrev pub run_of : {L O A : Type 0} → library.Ghosts L → sink.Ghosts O → List (String A) → L → L
    → O → O → Work
run_of l o words = seen_of l o (job_of (map string_bytes words))

-- a run as seen from the read of its problem on, which asks for no job
abbrev pub rest_of : {L O : Type 0} → library.Ghosts L → sink.Ghosts O → L → L → O → O → Work
rest_of l o = seen_of l o None

-- the count rose in the run
abbrev pub Rises : Change ℕ → Type 0
Rises count = Rose count.before count.after

-- the count of faults of this name rose in the run
abbrev pub OwnRises : Work → List ℕ → Type 0
OwnRises w name = Rose (w.own.before name) (w.own.after name)

-- ---- sinks, by the bytes that they tell and their counts of faults

-- the sink is as it was
abbrev pub Untouched : Change (Option (List ℕ)) → Change ℕ → Type 0
Untouched bytes faults = Keeps bytes.before bytes.after × (faults.after ≡ faults.before)

-- the text was added whole and no fault was counted, or a prefix of it was, and the count rose
abbrev pub Adds : Change (Option (List ℕ)) → Change ℕ → List ℕ → Type 0
Adds bytes faults text =
    (Appends bytes.before bytes.after text × (faults.after ≡ faults.before))
    ⊎ (AppendsPrefix bytes.before bytes.after text × Rises faults)

-- ---- files

-- a library's counts of faults, its own and each name's, are what they were
pub record KeepsCounts (faults : Change ℕ) (own : Change (List ℕ → ℕ)) : Type 0 where
  pub same : faults.after ≡ faults.before
  pub own_same : (name : List ℕ) → own.after name ≡ own.before name

-- what no read changes: the files, and that no count falls
pub record GoesOn (w : Work) (held_after : Option Files) : Type 0 where
  pub same_files : held_after ≡ w.held
  pub later : w.faults.before ≤ w.faults.after
  pub own_later : (name : List ℕ) → w.own.before name ≤ w.own.after name

-- ---- texts

-- The text stands under the name, as far as the library tells it: a library that tells its files
-- holds it under that name.
abbrev pub HasText : Work → List ℕ → List ℕ → Type 0
HasText w name text = Gives w.held name [] text

-- the library tells that the text stands under the name
abbrev pub Tells : Work → List ℕ → List ℕ → Type 0
Tells w name text = Holds w.held name text

-- this holds of the text and the name of a table, where a task has one; else the text is empty
abbrev pub OfName : Option (List ℕ) → (List ℕ → List ℕ → Type 0) → List ℕ → Type 0
OfName None Holding text = text ≡ []
OfName (Some name) Holding text = Holding name text

-- the text is that of the task's table, as far as the library tells it
abbrev pub HasTable : Work → Task → List ℕ → Type 0
HasTable w task table = OfName (table_name task) (HasText w) table

-- the words give the job, and the library tells that this text stands under its problem's name
pub record IsTold (w : Work) (job : Job) (text : List ℕ) : Type 0 where
  pub job_is : w.job ≡ Some job
  pub holds : Tells w job.problem text

-- the same of the problem's text and the table's
pub record AreTold (w : Work) (job : Job) (text table : List ℕ) : Type 0 where
  pub told : IsTold w job text
  pub holds_table : OfName (table_name job.task) (Tells w) table

-- ---- names

-- the name is one under which the job's problem is read
abbrev pub IsNameOf : Job → List ℕ → Type 0
IsNameOf job name = job.problem ≡ name

-- no read of the job's problem failed by the library's count
abbrev pub ProblemStands : Work → Job → Type 0
ProblemStands w job = (name : List ℕ) → IsNameOf job name → OwnRises w name → ⊥

-- no read of a file of the job failed by the library's count
pub record NoneFails (w : Work) (job : Job) : Type 0 where
  pub problem : ProblemStands w job
  pub table : (name : List ℕ) → table_name job.task ≡ Some name → OwnRises w name → ⊥
