use Rattle.std.proofs.Common.{map, take, Ok}
use Rattle.tf_check.specs.Answers.{Answers}
use Rattle.tf_check.specs.Context.{term_in}
use Rattle.tf_check.specs.Visited.{in_turn}
use Rattle.tf_check.proofs.terms.+type_argument.Given as goal

abbrev pub invariant-type_arguments-loop-part : goal.invariant-type_arguments-loop-part
invariant-type_arguments-loop-part l =
    Answers (in_turn (map (λ part. (term_in l.context part).as_type l.scope.names) (take l.part-index l.parts)))
    (Ok l.types)
