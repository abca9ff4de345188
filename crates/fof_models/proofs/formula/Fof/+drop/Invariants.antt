use Rattle.std.proofs.Common.{◌≤◌}
use Rattle.fof_models.specs.declared.formula.Fof.{size-Fof}
use Rattle.fof_models.proofs.formula.Fof.+drop.Given as goal

-- what is left is no deeper than the whole
abbrev pub invariant-loop-self : goal.invariant-loop-self
invariant-loop-self l = size-Fof l.self ≤ size-Fof l.initial.self
