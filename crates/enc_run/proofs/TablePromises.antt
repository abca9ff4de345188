-- What a run promises of models that it reads from tables and carries follows from how it ended.
use Rattle.std.proofs.Common.{◌≡◌, ◌∙◌, ℕ, List, Option, Ok, Err, refl, subst}
use Rattle.std.specs.Io.KnownBytes.{Appends}
use Rattle.enc_pipeline.specs.declared.how.How.{How}
use Rattle.enc_pipeline.proofs.Rewritten.{lowered_tables_are_of_models, lifted_tables_are_of_models}
use Rattle.enc_run.specs.Calls.Ending.{Ended}
use Rattle.enc_run.specs.Leads.{Lead, LeadsTo, IsOutputOf, preparation}
use Rattle.enc_run.specs.TablePromises.{IsChecked, Checks, IsLowered, Lowers, IsLifted, Lifts}
use Rattle.enc_run.specs.Work.{Change, Work, AreTold}
use Rattle.enc_run.specs.declared.job.Job.{Job}
use Rattle.enc_run.specs.declared.job.Task.{Task}
use Rattle.enc_run.specs.declared.job.Task.TheVariants.{Check, Lower, Lift}
use Rattle.enc_run.proofs.Exclusive.{same_problem}
use Rattle.enc_run.proofs.Readings.{whole}
use Rattle.enc_run.proofs.TableLaws.{is_prepared}
use Rattle.enc_run.proofs.Told.{told_texts}

-- ---- one output

checked : (name text table output : List ℕ) (source : Lead) (out : Change (Option (List ℕ)))
    → LeadsTo text source → IsOutputOf (Check name) output source table
    → Appends out.before out.after output → IsChecked text table out
checked name text table output (Err reason) out has is written = absurd is
checked name text table output (Ok problem) out has is written = record {
  problem = problem;
  has = has;
  only = λ other others. same_problem text other problem others has;
  model = is.1.model;
  is_model = is.1.is_table;
  written = subst (λ line. Appends out.before out.after line) is.1.output_is written;
}

module _ (how : How) (name text table output : List ℕ) (out : Change (Option (List ℕ))) where
  lowered_to : (source : Lead) → LeadsTo text source → IsOutputOf (Lower name how) output source table
      → Appends out.before out.after output → IsLowered how text table out
  lowered_to (Err reason) has is written = absurd is
  lowered_to (Ok problem) has is written =
      let prepared = is_prepared how text problem has (is.0.within refl) is.0.applies in
      let model = lowered_tables_are_of_models (preparation how problem) table output prepared is.1 in
      record {
        problem = problem;
        has = has;
        only = λ other others. same_problem text other problem others has;
        output = output;
        carried = is.1;
        written = written;
        is_table = model.is_table;
        is_model = model.is_model;
      }

  lifted_to : (source : Lead) → LeadsTo text source → IsOutputOf (Lift name how) output source table
      → Appends out.before out.after output → IsLifted how text table out
  lifted_to (Err reason) has is written = absurd is
  lifted_to (Ok problem) has is written =
      let prepared = is_prepared how text problem has (is.0.within refl) is.0.applies in
      let model = lifted_tables_are_of_models (preparation how problem) table output prepared is.1 in
      record {
        problem = problem;
        has = has;
        only = λ other others. same_problem text other problem others has;
        output = output;
        carried = is.1;
        written = written;
        is_table = model.is_table;
        is_model = model.is_model;
      }

-- ---- a run

module _
    (w : Work) (notes : Change (Option (List ℕ))) (notes_faults : Change ℕ) (status : ℕ)
    (ended : Ended w notes notes_faults status)
  where
    -- where the texts are told, what was written is the output for them
    abbrev IsWritten : Task → List ℕ → List ℕ → Type 0
    IsWritten task text table =
        (source : Lead) × LeadsTo text source
        × ((output : List ℕ) × IsOutputOf task output source table
        × Appends w.out.before w.out.after output)

    told_output : (job : Job) (task : Task) (text table : List ℕ) → AreTold w job text table
        → job.task ≡ task → status ≡ 0 → IsWritten task text table
    told_output job task text table are_told is_task is =
        let done = whole w ended.end ended.ends (ended.status_is ∙ is) in
        let has = told_texts w (λ t. IsOutputOf t done.0) job text table done.1 are_told in (
          has.0,
          has.1,
          (
            done.0,
            subst (λ (t : Task). IsOutputOf t done.0 has.0 table) is_task has.2,
            done.2,
          ),
        )

    pub checks : Checks w status
    checks job text table name are_told is_task is =
        let done = told_output job (Check name) text table are_told is_task is in
        checked name text table done.2.0 done.0 w.out done.1 done.2.1 done.2.2

    pub lowers : Lowers w status
    lowers job how text table name are_told is_task is =
        let done = told_output job (Lower name how) text table are_told is_task is in
        lowered_to how name text table done.2.0 w.out done.0 done.1 done.2.1 done.2.2

    pub lifts : Lifts w status
    lifts job how text table name are_told is_task is =
        let done = told_output job (Lift name how) text table are_told is_task is in
        lifted_to how name text table done.2.0 w.out done.0 done.1 done.2.1 done.2.2
