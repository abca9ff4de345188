-- What holds of a prepared problem: it can be encoded in the way, and all that was made of it is
-- determined by the problem and the way.
use Rattle.std.specs.Prelude.{ℕ, ◌≤◌, ◌≡◌, List}
use Rattle.tf_check.specs.Writable.{HasWritableNames}
use Rattle.tf_core.specs.declared.problem.Problem.{Problem}
use Rattle.tf_core.specs.declared.normal.Normal.{Normal}
use Rattle.tf_core.specs.Sound.{IsSound}
use Rattle.tf_nnf.specs.NormalForm.{normal_of}
use Rattle.tf_nnf.specs.Refusal.{most_nodes}
use Rattle.fof_text.specs.Names.{chosen_names}
use Rattle.enc_marks.specs.declared.encoded.Encoded.{Encoded}
use Rattle.enc_marks.specs.Applies.{Applies}
use Rattle.enc_pipeline.specs.declared.how.How.{How}
use Rattle.enc_pipeline.specs.Way.{Preparation}
use Rattle.enc_pipeline.specs.Output.{translated}
use Rattle.enc_pipeline.specs.Causes.{nodes_of}
use Rattle.enc_pipeline.specs.Distinct.{HasDistinctNames}

-- The problem can be encoded: it is sound, its names can be written and tell its symbols apart, and
-- its normal problem is within the limit. The scheme applies to that.
pub record IsPrepared (p : Preparation) : Type 0 where
  pub sound : IsSound p.problem
  pub named : HasWritableNames p.problem
  pub distinct : HasDistinctNames p.problem
  pub within : nodes_of p.problem ≤ most_nodes
  pub applies : Applies p.how.scheme (normal_of p.problem)

pub record IsReady (problem : Problem) (how : How) (normal : Normal) (made : Encoded)
    (names : List (List ℕ)) : Type 0 where
  pub prepared : IsPrepared (record { problem = problem; how = how })
  pub normal_is : normal ≡ normal_of problem
  pub made_is : made ≡ translated how.scheme problem
  pub names_are : names ≡ chosen_names made.problem.signature
