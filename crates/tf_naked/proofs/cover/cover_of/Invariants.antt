use Rattle.std.proofs.Common.{ℕ, ◌≡◌, ◌<◌, map, get_or, None, false}
use Rattle.tf_naked.specs.Covers.{is_parameter, parameter_of}
use Rattle.tf_naked.proofs.cover.cover_of.Given as goal

abbrev pub invariant-loop-i : goal.invariant-loop-i
invariant-loop-i l = (k : ℕ) → k < l.i →
    is_parameter l.parameter (get_or (map parameter_of l.ty-items) k None) ≡ false
