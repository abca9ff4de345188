use Rattle.std.proofs.Common.{◌≡◌, ◌≤◌, ◌-◌, length, drop}
use Rattle.std.specs.Prelude.{slice_index}
use Rattle.enc_base.specs.Tables.{sum_below}
use Rattle.tf_models.specs.Reading.{tables}
use Rattle.tf_models.specs.Fit.{length_at, block_count}
use Rattle.model_tables.specs.Faults.{first_over}
use Rattle.model_tables.specs.Typed.{symbol_bounds}
use Rattle.model_tables.proofs.blocks.first_out_of_range.Given as goal

abbrev pub invariant-walk : goal.invariant-walk
invariant-walk l = record {
  start_is : l.start ≡ sum_below l.number (length_at (tables l.structure) l.symbol);
  known : l.number ≤ block_count (tables l.structure) l.symbol;
  clean : first_over (λ i. slice_index (symbol_bounds (tables l.structure) l.symbol) i) 0 l.entries
      ≡ first_over (λ i. slice_index (symbol_bounds (tables l.structure) l.symbol) i) l.start
      (drop l.start l.entries);
}

abbrev pub decreases-walk : goal.decreases-walk
decreases-walk l = length l.entries - l.start
