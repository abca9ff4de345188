use Rattle.std.proofs.Common.{sym, subst}
use Rattle.tf_check.specs.Typing.{IsTyped}
use Rattle.tf_check.proofs.FileGives.{typed-faults, typed-problem_of}
use Rattle.tf_check.proofs.FileClean.{faultless-typed}
use Rattle.tf_check.proofs.laws.faults_say_all.Goals as goal

pub returns : goal.returns
returns c file p = (
  λ typed. (typed-faults file p typed, typed-problem_of file p typed),
  λ is. subst (IsTyped file) (sym is.1) (faultless-typed file is.0),
)
