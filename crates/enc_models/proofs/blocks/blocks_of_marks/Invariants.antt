use Rattle.std.proofs.Common.{length, ◌≡◌, ◌<◌, ℕ, slice_get, Some, get_or, []}
use Rattle.enc_marks.specs.declared.mark.Mark.{Mark}
use Rattle.enc_models.specs.Calls.Blocks.{AreBlocksAt}
use Rattle.enc_models.proofs.blocks.blocks_of_marks.Given as goal

abbrev pub invariant-loop-mark : goal.invariant-loop-mark
invariant-loop-mark l = record {
  count : length l.blocks ≡ l.mark-index;
  each : (at : ℕ) (marked : Mark) → at < l.mark-index → slice_get l.marks at ≡ Some marked →
      AreBlocksAt l.signature l.model marked (get_or l.blocks at []);
}
