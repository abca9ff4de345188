-- Where the problem of a job comes from: a file of the library. Another kind of source is one more
-- case of each definition here, and of the names in `Work`.
use Rattle.std.specs.Prelude.{◌≡◌, ℕ, List, Some}
use Rattle.enc_run.specs.Job.{table_name}
use Rattle.enc_run.specs.Leads.{Lead, LeadsTo}
use Rattle.enc_run.specs.Work.{Work, HasText, Tells, OfName}
use Rattle.enc_run.specs.declared.job.Job.{Job}

-- the job's problem comes from this, as far as the library tells it
abbrev pub Source : Work → Job → Lead → Type 0
Source w job source = (text : List ℕ) × HasText w job.problem text × LeadsTo text source

-- the words give the job, and by what the library tells its problem comes from this
pub record IsToldSource (w : Work) (job : Job) (source : Lead) : Type 0 where
  pub job_is : w.job ≡ Some job
  pub text : List ℕ
  pub holds : Tells w job.problem text
  pub leads : LeadsTo text source

-- the same, and by what it tells this is the text of the job's table
pub record AreToldSource (w : Work) (job : Job) (source : Lead) (table : List ℕ) : Type 0 where
  pub told : IsToldSource w job source
  pub holds_table : OfName (table_name job.task) (Tells w) table
