use Rattle.std.proofs.Common.{◌≡◌, map, drop}
use Rattle.tf_core.specs.Types.{instantiate, pass_in_order}
use Rattle.tf_core.specs.TypingTests.{has_type}
use Rattle.tf_core.proofs.terms.+typed.Given as goal

abbrev pub invariant-have_types-loop-i : goal.invariant-have_types-loop-i
invariant-have_types-loop-i l =
    pass_in_order (map (has_type l.scope.signature.now l.scope.variables l.context) l.terms)
    (map (instantiate l.types) l.declared)
    ≡ pass_in_order (map (has_type l.scope.signature.now l.scope.variables l.context) (drop l.i l.terms))
    (map (instantiate l.types) (drop l.i l.declared))
