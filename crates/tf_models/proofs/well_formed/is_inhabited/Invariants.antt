use Rattle.std.proofs.Common.{ℕ, ◌<◌}
use Rattle.std.specs.Prelude.{slice_index}
use Rattle.tf_models.proofs.well_formed.is_inhabited.Given as goal

abbrev pub invariant-loop-size : goal.invariant-loop-size
invariant-loop-size l = (i : ℕ) → i < l.size-index → 0 < slice_index l.sizes i
