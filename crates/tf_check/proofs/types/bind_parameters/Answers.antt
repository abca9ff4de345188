use Rattle.std.proofs.Common.{◌≡◌, ◌∷◌, true, false, length, sym, ap, arith}
use Rattle.tf_check.specs.Kinds.{is_type_kind}
use Rattle.tf_check.specs.Scope.{Scope, TypeVariable}
use Rattle.tf_check.specs.Bound.{Scoped}
use Rattle.tf_check.proofs.ProfileSteps.{parameters_none, parameters_next, parameters_break}
use Rattle.tf_check.proofs.types.bind_parameters.Goals as goal

pub loop-bound-init : goal.loop-bound-init
loop-bound-init c =
    record {
      bound = parameters_none c.args.context.now.entry c.args.scope.now.names;
      size = omega arith;
    }

pub returns-then-not-binds_type : goal.returns-then-not-binds_type
returns-then-not-binds_type c =
    let other : is_type_kind c.bound-item.result.kind ≡ false = sym c.if-not-binds_type.ensures in
    parameters_break c.args.context.now.entry c.args.context.now.table.now.constructors
    c.args.scope.now.names c.loop-bound.scope.names c.args.bounds.now c.loop-bound.bound-index
    c.bound-item.result
    c.loop-bound-test.true c.bound-item.is c.loop-bound.invariant.bound other

pub loop-bound-preserved : goal.loop-bound-preserved
loop-bound-preserved c =
    let typed : is_type_kind c.bound-item.result.kind ≡ true = sym c.if-not-binds_type.ensures in
    let grown : c.bind_type.new.self.names
    ≡ TypeVariable c.bound-item.result.name ∷ c.loop-bound.scope.names =
    rw c.as_slice.ensures at (ap (λ (s : Scoped). s.names) c.in_ok-bind_type.ensures) in
    record {
      bound = rw grown
          (parameters_next c.args.context.now.entry c.args.context.now.table.now.constructors
          c.args.scope.now.names c.loop-bound.scope.names c.args.bounds.now c.loop-bound.bound-index
          c.bound-item.result c.loop-bound-test.true c.bound-item.is c.loop-bound.invariant.bound
          typed);
      size = omega (arith, ap (λ (s : Scope). length s) grown, c.loop-bound.invariant.size);
    }
