use Rattle.std.proofs.Common.{◌≡◌}
use Rattle.enc_marks.specs.Axioms as specs
use Rattle.enc_marks.proofs.open_formula.closed.Given as goal

abbrev pub invariant-loop-binder : goal.invariant-loop-binder
invariant-loop-binder l = l.made ≡ specs.closed l._binder l.initial.made
