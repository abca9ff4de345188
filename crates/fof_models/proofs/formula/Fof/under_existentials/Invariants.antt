use Rattle.std.proofs.Common.{◌≡◌}
use Rattle.fof_models.specs.Prefix.{under_existentials}
use Rattle.fof_models.proofs.formula.Fof.under_existentials.Given as goal

abbrev pub invariant-loop : goal.invariant-loop
invariant-loop l = l.made ≡ under_existentials l.counter l.fn.self
