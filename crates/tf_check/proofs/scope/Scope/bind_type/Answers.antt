use Rattle.std.proofs.Common.{arith}
use Rattle.std.proofs.Math.Facts.{Fits-of_lt}
use Rattle.tf_check.specs.Bound.{scope_of}
use Rattle.tf_check.proofs.ScopeLemmas.{type_variables_within, length-scope_of}
use Rattle.tf_check.proofs.scope.Scope.bind_type.Goals as goal

pub overflow_add-self : goal.overflow_add-self
overflow_add-self c =
    let below = type_variables_within (scope_of c.self.inside.types c.self.inside.bindings.items) in
    let size = length-scope_of c.self.inside.types c.self.inside.bindings.items in
    Fits-of_lt (omega (arith, below, size, c.self.invariant.counted, c.self.invariant.within))
