-- A problem and the way in which it is to be encoded.
use Rattle.std.specs.Prelude.{◌≤◌, ◌≡◌, false}
use Rattle.tf_core.specs.declared.problem.Problem.{Problem}
use Rattle.enc_marks.specs.declared.scheme.Scheme.{Scheme}
use Rattle.enc_pipeline.specs.declared.how.How.{How}

-- what a prepared problem is seen as: the rest of it is determined by these two
pub record Preparation : Type 0 where
  pub problem : Problem
  pub how : How

-- the numbers are those that the command line takes
pub record IsInRange (how : How) : Type 0 where
  pub rounds : how.rounds ≤ 8
  pub some : 1 ≤ how.cap
  pub cap : how.cap ≤ 100000

-- the way by a scheme where nothing else is asked for, which is without instances
abbrev pub plain_way : Scheme → How
plain_way which = record { scheme = which; mono = false; rounds = 3; cap = 2000 }

-- the problem is encoded as it is, and not by its instances
abbrev pub IsWithoutInstances : How → Type 0
IsWithoutInstances how = how.mono ≡ false
