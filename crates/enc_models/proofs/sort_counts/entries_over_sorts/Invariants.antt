use Rattle.std.proofs.Common.{◌≡◌, ◌+◌, length, replicate, take}
use Rattle.std.specs.Prelude.{sum, sum_by}
use Rattle.enc_base.specs.Counts.{in_64_bits}
use Rattle.enc_base.specs.Tables.{tuple_count}
use Rattle.enc_models.specs.Calls.SortNumbers.{sizes_among, AreNumbered}
use Rattle.enc_models.proofs.sort_counts.entries_over_sorts.Given as goal

abbrev pub invariant-loop-symbol : goal.invariant-loop-symbol
invariant-loop-symbol l = record {
  counted : l.entries
      ≡ in_64_bits (sum l.sizes
      + sum_by (λ constructor. tuple_count (replicate constructor.arity (length l.sizes)))
      l.signature.constructors
      + sum_by (λ symbol. tuple_count (sizes_among l.sorts l.sizes symbol.arguments))
      (take l.symbol-index l.signature.symbols));
  numbered : AreNumbered l.numbers (length l.sorts) l.sorts;
}
