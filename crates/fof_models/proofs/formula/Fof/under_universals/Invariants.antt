use Rattle.std.proofs.Common.{◌≡◌}
use Rattle.fof_models.specs.Prefix.{under_universals}
use Rattle.fof_models.proofs.formula.Fof.under_universals.Given as goal

abbrev pub invariant-loop : goal.invariant-loop
invariant-loop l = l.made ≡ under_universals l.counter l.fn.self
