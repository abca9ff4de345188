-- The headline: what was written has a finite model exactly when the problem has a finite typed one.
use Rattle.std.proofs.Common.{◌∙◌, ℕ, List, refl, sym, subst}
use Rattle.std.specs.Prelude.{Option, Ok, Err}
use Rattle.std.specs.Io.KnownBytes.{Appends}
use Rattle.tptp_syntax.proofs.OneAnswer.{one_file}
use Rattle.tf_check.proofs.FileGives.{typed-problem_of}
use Rattle.tf_check.proofs.SoundFiles.{typed_sound}
use Rattle.fof_text.specs.States.{TextHasFiniteModel}
use Rattle.enc_pipeline.specs.declared.how.How.{How}
use Rattle.enc_pipeline.proofs.FileProblems.{spells_of, is_within, has_writable_names}
use Rattle.enc_pipeline.proofs.Encoded.{encoded_headline}
use Rattle.enc_run.specs.Leads.{Lead, LeadsTo, IsOutputOf}
use Rattle.enc_run.specs.Work.{Change, Work, HasTable}
use Rattle.enc_run.specs.Calls.Ending.{Ended}
use Rattle.enc_run.specs.Promises.{IsTranslated, Models, Translated}
use Rattle.enc_run.specs.declared.job.Task.{Task}
use Rattle.enc_run.specs.declared.job.Task.TheVariants.{Encode}
use Rattle.enc_run.proofs.Readings.{whole}
use Rattle.enc_run.proofs.Told.{told_at}

encoded : (how : How) (text table output : List ℕ) (source : Lead)
    (out : Change (Option (List ℕ))) → LeadsTo text source
    → IsOutputOf (Encode how) output source table → Appends out.before out.after output
    → IsTranslated how text out
encoded how text table output (Err reason) out has is written = absurd is
encoded how text table output (Ok problem) out has is written =
    let file = has.0 in
    let spells = spells_of text file has.1 in
    let sound = typed_sound file problem (is_within text file has.1) has.2 in
    let writable = has_writable_names text problem has in
    let together =
    encoded_headline how.scheme problem sound writable (is.0.within refl) is.0.applies in
    record {
      together = record {
        file = file;
        spells = spells;
        only_file = λ other spelled. one_file text other file spelled spells;
        problem = problem;
        typed = has.2;
        only_problem = λ other typed.
            typed-problem_of file other typed ∙ sym (typed-problem_of file problem has.2);
        output = output;
        written = written;
        models = (
          λ m. together.0 (subst TextHasFiniteModel is.1 m),
          λ m. subst TextHasFiniteModel (sym is.1) (together.1 m),
        );
      };
      is = is.1;
    }

pub translated : (w : Work) (notes : Change (Option (List ℕ))) (notes_faults : Change ℕ)
    (status : ℕ) → Ended w notes notes_faults status → Translated w status
translated w notes notes_faults status ended job how text is_told is_task is =
    let done = whole w ended.end ended.ends (ended.status_is ∙ is) in
    let has = told_at w
    (λ task lead. (found : List ℕ) × HasTable w task found × IsOutputOf task done.0 lead found) job
    text done.1 is_told.job_is is_told.holds in
    encoded how text has.2.0 done.0 has.0 w.out has.1
    (subst (λ (task : Task). IsOutputOf task done.0 has.0 has.2.0) is_task has.2.2) done.2

pub have_models : (w : Work) (notes : Change (Option (List ℕ))) (notes_faults : Change ℕ)
    (status : ℕ) → Ended w notes notes_faults status → Models w status
have_models w notes notes_faults status ended job how text is_told is_task is =
    (translated w notes notes_faults status ended job how text is_told is_task is).together
