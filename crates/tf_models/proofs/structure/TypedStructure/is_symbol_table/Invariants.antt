use Rattle.std.proofs.Common.{ℕ, ◌≡◌, ◌<◌, ◌≤◌, ◌+◌, length}
use Rattle.std.specs.Prelude.{slice_index}
use Rattle.enc_base.specs.Tables.{sum_below}
use Rattle.tf_models.specs.Reading.{tables}
use Rattle.tf_models.specs.Fit.{length_at, bound_at, parameters_at}
use Rattle.tf_models.proofs.structure.TypedStructure.is_symbol_table.Given as goal

abbrev pub invariant-loop-number : goal.invariant-loop-number
invariant-loop-number l = record {
  start_is : l.start ≡ sum_below l.number (length_at (tables l.self) l.symbol);
  within : l.start ≤ length l.table;
  below : (number i : ℕ) → number < l.number → i < length_at (tables l.self) l.symbol number →
      slice_index l.table (sum_below number (length_at (tables l.self) l.symbol) + i)
      < bound_at (tables l.self) l.symbol.result (parameters_at (tables l.self) l.symbol number);
}
