use Rattle.std.proofs.Common.{◌≡◌, map, take}
use Rattle.tf_core.specs.Substitution.{shift}
use Rattle.tf_core.proofs.term.+shift.Given as goal

abbrev pub invariant-shifted-loop-term : goal.invariant-shifted-loop-term
invariant-shifted-loop-term l = l.made ≡ map (shift l.by l.from) (take l.term-index l.terms)
