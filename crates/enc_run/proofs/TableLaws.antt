-- What a table's text leads to for a problem: one thing alone, and what is carried is a model.
use Rattle.std.proofs.Common.{◌≡◌, ◌≤◌, ℕ, List}
use Rattle.tf_core.specs.declared.problem.Problem.{Problem}
use Rattle.tf_nnf.specs.NormalForm.{normal_of}
use Rattle.tf_nnf.specs.Refusal.{most_nodes}
use Rattle.enc_marks.specs.Applies.{Applies}
use Rattle.enc_pipeline.specs.declared.fault.Fault.{Fault}
use Rattle.enc_pipeline.specs.declared.how.How.{How}
use Rattle.enc_pipeline.specs.Causes.{nodes_of}
use Rattle.enc_pipeline.specs.Reading.{HasProblem}
use Rattle.enc_pipeline.specs.Ready.{IsPrepared}
use Rattle.enc_pipeline.proofs.DistinctNames.{has_distinct_names}
use Rattle.enc_pipeline.proofs.FileProblems.{has_writable_names}
use Rattle.enc_pipeline.proofs.OneAnswer.{checking_has_one_answer, lowering_has_one_answer, lifting_has_one_answer}
use Rattle.enc_run.specs.Leads.{RefusesTable, Writes, preparation}
use Rattle.enc_run.specs.declared.job.Task.{Task}
use Rattle.enc_run.specs.declared.job.Task.TheVariants.{Encode, Check, Lower, Lift}
use Rattle.enc_run.proofs.Leads.{sound_problem}

-- ---- one answer

-- a table is refused for one reason
pub one_refusal : (task : Task) (problem : Problem) (table : List ℕ) (a b : Fault)
    → RefusesTable task problem table a → RefusesTable task problem table b → a ≡ b
one_refusal (Encode how) problem table a b is_a is_b = absurd is_a
one_refusal (Check name) problem table a b is_a is_b =
    (checking_has_one_answer problem table).one_refusal a b is_a is_b
one_refusal (Lower name how) problem table a b is_a is_b =
    (lowering_has_one_answer (preparation how problem) table).one_refusal a b is_a is_b
one_refusal (Lift name how) problem table a b is_a is_b =
    (lifting_has_one_answer (preparation how problem) table).one_refusal a b is_a is_b

-- nothing is written for a table that is refused
pub not_both : (task : Task) (problem : Problem) (table : List ℕ) (reason : Fault)
    (output : List ℕ) → RefusesTable task problem table reason → Writes task problem table output
    → ⊥
not_both (Encode how) problem table reason output refused written = refused
not_both (Check name) problem table reason output refused written =
    (checking_has_one_answer problem table).not_both reason output refused written
not_both (Lower name how) problem table reason output refused written =
    (lowering_has_one_answer (preparation how problem) table).not_both reason output refused
    written
not_both (Lift name how) problem table reason output refused written =
    (lifting_has_one_answer (preparation how problem) table).not_both reason output refused written

-- ---- what is carried

-- a text's problem within the limit is prepared in a way whose scheme applies to it
pub is_prepared : (how : How) (text : List ℕ) (problem : Problem) → HasProblem text problem
    → nodes_of problem ≤ most_nodes → Applies how.scheme (normal_of problem)
    → IsPrepared (preparation how problem)
is_prepared how text problem has within applies = record {
  sound = sound_problem text problem has;
  named = has_writable_names text problem has;
  distinct = has_distinct_names text problem has;
  within = within;
  applies = applies;
}
