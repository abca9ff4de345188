use Rattle.std.proofs.Common.{◌≡◌, ◌≤◌, ◌+◌, length, take}
use Rattle.tf_check.specs.Scope.{meaning, type_variables}
use Rattle.tf_check.specs.Bound.{scope_of}
use Rattle.tf_check.proofs.ScopeLemmas.{raised}
use Rattle.tf_check.proofs.scope.Scope.meaning.Given as goal

abbrev pub decreases-loop-left : goal.decreases-loop-left
decreases-loop-left l = l.left

abbrev pub invariant-loop-left : goal.invariant-loop-left
invariant-loop-left l =
    record {
      within : l.terms + l.left ≤ length l.self-inside.bindings.items;
      counted : l.types ≡ type_variables (scope_of l.self-inside.types (take l.left l.self-inside.bindings.items));
      passed : meaning l.self.names l.name
          ≡ raised l.terms (meaning (scope_of l.self-inside.types (take l.left l.self-inside.bindings.items)) l.name);
    }
