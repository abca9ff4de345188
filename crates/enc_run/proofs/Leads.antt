-- What schemes lead to: each is refused exactly for the problems to which it doesn't apply.
use Rattle.std.proofs.Common.{◌≡◌, ◌≤◌, ℕ, List, Some, true, refl}
use Rattle.tf_check.proofs.SoundFiles.{typed_sound}
use Rattle.tf_core.specs.declared.problem.Problem.{Problem}
use Rattle.tf_core.specs.Sound.{IsSound}
use Rattle.tf_nnf.specs.NormalForm.{normal_of}
use Rattle.tf_nnf.specs.Refusal.{most_nodes}
use Rattle.tf_nnf.proofs.SoundNormal.{normal_sound}
use Rattle.enc_marks.specs.declared.refusal.Refusal.{Refusal}
use Rattle.enc_marks.specs.declared.scheme.Scheme.{Scheme}
use Rattle.enc_marks.specs.Applies.{IsRefused}
use Rattle.enc_laws.proofs.SoundNormal.{normal_typed}
use Rattle.enc_pipeline.specs.Causes.{IsSchemeRefusal, nodes_of}
use Rattle.enc_pipeline.specs.Reading.{HasProblem}
use Rattle.enc_pipeline.proofs.Applied.{refused_unapplied, unapplied_refused}
use Rattle.enc_pipeline.proofs.FileProblems.{is_within}
use Rattle.enc_run.specs.Leads.{IsUnapplied, RefusesBy, is_normalised, task_scheme}
use Rattle.enc_run.specs.declared.job.Task.{Task}
use Rattle.enc_run.specs.declared.job.Task.TheVariants.{Encode, Check, Lower, Lift}

-- a task with a scheme rests on the normal problem
pub rests_on_normal : (task : Task) (which : Scheme) → task_scheme task ≡ Some which
    → is_normalised task ≡ true
rests_on_normal (Encode how) which is = refl
rests_on_normal (Check table) which is = absurd cc
rests_on_normal (Lower table how) which is = refl
rests_on_normal (Lift table how) which is = refl

-- the problem of a text is sound
pub sound_problem : (text : List ℕ) (problem : Problem) → HasProblem text problem → IsSound problem
sound_problem text problem has = typed_sound has.0 problem (is_within text has.0 has.1) has.2

-- a problem for which a scheme is refused is one to which it doesn't apply
pub is_refused : (which : Scheme) (problem : Problem) → IsSound problem
    → nodes_of problem ≤ most_nodes → (reason : Refusal) → IsSchemeRefusal reason
    → IsRefused which (normal_of problem) reason → RefusesBy which problem reason
is_refused which problem sound within reason is why = (
  record {
    within = within;
    unapplied =
        refused_unapplied which (normal_of problem)
        (normal_typed (normal_of problem) (normal_sound problem sound within)) reason is why;
  },
  is,
  why,
)

-- and a problem to which it doesn't apply is one for which it is refused
pub some_refusal : (which : Scheme) (problem : Problem) → IsSound problem
    → IsUnapplied which problem → (reason : Refusal) × RefusesBy which problem reason
some_refusal which problem sound unapplied =
    let found = unapplied_refused which (normal_of problem)
    (normal_typed (normal_of problem) (normal_sound problem sound unapplied.within))
    unapplied.unapplied in
    (found.0, (unapplied, found.1, found.2))
