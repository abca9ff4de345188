use Rattle.std.proofs.Common.{map, take, Ok}
use Rattle.tf_check.specs.Answers.{Answers, appended}
use Rattle.tf_check.specs.Context.{type_in}
use Rattle.tf_check.specs.Types.{arguments_of_all}
use Rattle.tf_check.proofs.types.+arguments_of.Given as goal

abbrev pub invariant-arguments_of_all-loop-part : goal.invariant-arguments_of_all-loop-part
invariant-arguments_of_all-loop-part l =
    Answers
    (appended l.fn.types (arguments_of_all (map (type_in l.context) (take l.part-index l.parts))
    l.scope.names))
    (Ok l.types)
