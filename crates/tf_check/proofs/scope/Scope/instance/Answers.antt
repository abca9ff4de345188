use Rattle.std.proofs.Common.{map, ap}
use Rattle.tf_core.specs.declared.ty.Ty.TheVariants.{Apply}
use Rattle.tf_core.specs.Types.{instantiate}
use Rattle.tf_types.specs.Numbers.{type_at}
use Rattle.tf_check.specs.Bound.{Scoped}
use Rattle.tf_check.proofs.ScopedLemmas.{denoted_is, denoted_number, AreScoped-extended, Keeps-extended}
use Rattle.tf_check.proofs.scope.Scope.instance.Goals as goal

pub invariant_of-self : goal.invariant_of-self
invariant_of-self c =
    AreScoped-extended c.self.inside.types c.instance.new.self c.instance.ensures.kept
    c.self.inside.bound_types c.self.inside.bindings.items c.self.inside.symbols.items
    c.self.invariant

pub returns-clause-exact : goal.returns-clause-exact
returns-clause-exact c =
    rw (ap (λ (s : Scoped). s.types) c.self.view_is) at
    (denoted_is c.instance.new.self (instantiate (map (type_at c.self.inside.types) c.args.types.now) (type_at c.self.inside.types c.args.id)) c.instance.result c.instance.ensures.denoted)

pub returns-clause-number : goal.returns-clause-number
returns-clause-number c =
    denoted_number c.instance.new.self (instantiate (map (type_at c.self.inside.types) c.args.types.now) (type_at c.self.inside.types c.args.id)) c.instance.result c.instance.ensures.denoted

pub returns-clause-kept : goal.returns-clause-kept
returns-clause-kept c =
    Keeps-extended c.self.inside.types c.instance.new.self c.instance.ensures.kept
    c.self.inside.bound_types c.self.inside.bindings.items c.self.inside.symbols.items
    c.self.invariant c.args.self.now c.self.view_is
