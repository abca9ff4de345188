-- What a run promises of the models that it reads from tables and carries.
use Rattle.std.specs.Prelude.{◌≡◌, ℕ, List, Option}
use Rattle.std.specs.Io.KnownBytes.{Appends}
use Rattle.tf_core.specs.declared.problem.Problem.{Problem}
use Rattle.tf_core.specs.TypedTables.{AreModel}
use Rattle.tf_models.specs.declared.structure.TypedStructure.{TypedStructure}
use Rattle.tf_models.specs.Reading.{tables}
use Rattle.fof_models.specs.Models as untyped
use Rattle.model_tables.specs.Typed.{IsTypedTable}
use Rattle.model_tables.specs.Untyped.{IsUntypedTable}
use Rattle.enc_models.specs.Lowered.{lowered}
use Rattle.enc_pipeline.specs.Carried.{IsTableOfModel, IsLoweredTo, IsLiftedTo, lifted_model}
use Rattle.enc_pipeline.specs.Carried.{model_line}
use Rattle.enc_pipeline.specs.Carried.{written_normal, choices, translation, names}
use Rattle.enc_pipeline.specs.Reading.{HasProblem}
use Rattle.enc_pipeline.specs.declared.how.How.{How}
use Rattle.enc_run.specs.Leads.{preparation}
use Rattle.enc_run.specs.Work.{Change, Work, AreTold}
use Rattle.enc_run.specs.declared.job.Job.{Job}
use Rattle.enc_run.specs.declared.job.Task.TheVariants.{Check, Lower, Lift}

-- ---- check

-- the text has one problem, the table is that of a model of it, and `model` was written
pub record IsChecked (text table : List ℕ) (out : Change (Option (List ℕ))) : Type 0 where
  pub problem : Problem
  pub has : HasProblem text problem
  pub only : (other : Problem) → HasProblem text other → other ≡ problem
  pub model : TypedStructure
  pub is_model : IsTableOfModel table problem model
  pub written : Appends out.before out.after model_line

abbrev pub Checks : Work → ℕ → Type 0
Checks w status =
    (job : Job) (text table name : List ℕ) → AreTold w job text table → job.task ≡ Check name
    → status ≡ 0 → IsChecked text table w.out

-- ---- lower

-- The text has one problem, and the table is that of a model of it. What was written is the untyped
-- table of the lowered structure of the model's extension, which is a model of what is written for
-- the problem by `encode`.
pub record IsLowered (how : How) (text table : List ℕ) (out : Change (Option (List ℕ)))
    : Type 0 where
  pub problem : Problem
  pub has : HasProblem text problem
  pub only : (other : Problem) → HasProblem text other → other ≡ problem
  pub output : List ℕ
  pub carried : IsLoweredTo (preparation how problem) table output
  pub written : Appends out.before out.after output
  pub is_table : IsUntypedTable output (translation (preparation how problem))
      (names (preparation how problem))
      (lowered (choices (preparation how problem)) (written_normal (preparation how problem))
      carried.extension)
  pub is_model : untyped.AreModel (translation (preparation how problem))
      (lowered (choices (preparation how problem)) (written_normal (preparation how problem))
      carried.extension)

abbrev pub Lowers : Work → ℕ → Type 0
Lowers w status =
    (job : Job) (how : How) (text table name : List ℕ) → AreTold w job text table
    → job.task ≡ Lower name how → status ≡ 0 → IsLowered how text table w.out

-- ---- lift

-- The text has one problem, and the table is that of a model of what is written for it by `encode`.
-- What was written is the typed table of the lifted structure without the fresh constructors, which
-- is a model of the problem.
pub record IsLifted (how : How) (text table : List ℕ) (out : Change (Option (List ℕ)))
    : Type 0 where
  pub problem : Problem
  pub has : HasProblem text problem
  pub only : (other : Problem) → HasProblem text other → other ≡ problem
  pub output : List ℕ
  pub carried : IsLiftedTo (preparation how problem) table output
  pub written : Appends out.before out.after output
  pub is_table : IsTypedTable output problem.signature
      (lifted_model (preparation how problem) carried.model)
  pub is_model : AreModel problem (tables (lifted_model (preparation how problem) carried.model))

abbrev pub Lifts : Work → ℕ → Type 0
Lifts w status =
    (job : Job) (how : How) (text table name : List ℕ) → AreTold w job text table
    → job.task ≡ Lift name how → status ≡ 0 → IsLifted how text table w.out
