use Rattle.std.proofs.Common.{map, take, Ok}
use Rattle.tf_check.specs.Answers.{Answers}
use Rattle.tf_check.specs.Context.{type_in}
use Rattle.tf_check.specs.Types.{types_of_all}
use Rattle.tf_check.specs.Visited.{in_turn}
use Rattle.tf_check.proofs.types.+type_of.Given as goal

abbrev pub invariant-types_of-loop-part : goal.invariant-types_of-loop-part
invariant-types_of-loop-part l =
    Answers
    (in_turn (types_of_all (map (type_in l.context) (take l.part-index l.parts)) l.scope.names))
    (Ok l.types)
