use Rattle.std.proofs.Common.{sym, ◌∙◌}
use Rattle.tf_check.proofs.FileGives.{typed-problem_of}
use Rattle.tf_check.proofs.laws.a_file_has_one_problem.Goals as goal

pub returns : goal.returns
returns c file p q first second = typed-problem_of file p first ∙ sym (typed-problem_of file q second)
