use Rattle.std.proofs.Common.{map, take, drop, Ok}
use Rattle.tf_types.specs.Numbers.{type_at}
use Rattle.tf_check.specs.Answers.{Answers}
use Rattle.tf_check.specs.Bound.{Keeps}
use Rattle.tf_check.specs.Visited.{in_turn}
use Rattle.tf_check.proofs.TermAnswers.{placed}
use Rattle.tf_check.proofs.terms.+term_of.Given as goal

abbrev pub invariant-terms_in_places-loop-i : goal.invariant-terms_in_places-loop-i
invariant-terms_in_places-loop-i l =
    record {
      before : Answers
          (in_turn (placed l.context.entry l.context.table.now l.fn.scope.names
          (take l.i (map (type_at l.fn.scope.types) l.places)) (take l.i (drop l.first l.parts))))
          (Ok l.terms);
      kept : Keeps l.fn.scope l.scope;
    }
