use Rattle.std.proofs.Common.{length, ◌-◌, ◌≡◌, ◌≤◌, ℕ, slice_get, Some}
use Rattle.enc_base.specs.Tables.{sum_below}
use Rattle.tf_models.specs.Reading.{tables}
use Rattle.tf_models.specs.Fit.{block_count, length_at}
use Rattle.enc_models.specs.declared.blocks.Block.{Block}
use Rattle.enc_models.specs.Calls.Blocks.{IsKept}
use Rattle.enc_models.proofs.blocks.blocks_of_symbol.Given as goal

abbrev pub invariant-loop-start : goal.invariant-loop-start
invariant-loop-start l = record {
  within : length l.blocks ≤ block_count (tables l.model) l.symbol;
  start_is : l.start ≡ sum_below (length l.blocks) (length_at (tables l.model) l.symbol);
  each : (number : ℕ) (block : Block) → slice_get l.blocks number ≡ Some block →
      IsKept l.model l.symbol number block;
}

abbrev pub decreases-loop-start : goal.decreases-loop-start
decreases-loop-start l = length l.table - l.start
