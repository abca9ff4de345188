use Rattle.std.proofs.Common.{◌≡◌, ◌+◌, length, map, take, Ok}
use Rattle.tf_check.specs.Answers.{Answers}
use Rattle.tf_check.specs.Types.{bind_parameters, bound_reading}
use Rattle.tf_check.proofs.types.bind_parameters.Given as goal

abbrev pub invariant-loop-bound : goal.invariant-loop-bound
invariant-loop-bound l =
    record {
      bound : Answers
          (bind_parameters l.context.entry
          (map (bound_reading l.context.entry l.context.table.now.constructors)
          (take l.bound-index l.bounds))
          l.fn.scope.names)
          (Ok l.scope.names);
      size : length l.scope.names ≡ length l.fn.scope.names + l.bound-index;
    }
