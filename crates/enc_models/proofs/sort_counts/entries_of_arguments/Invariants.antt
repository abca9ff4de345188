use Rattle.std.proofs.Common.{◌≡◌, length, take}
use Rattle.enc_base.specs.Counts.{in_64_bits}
use Rattle.enc_base.specs.Tables.{tuple_count}
use Rattle.enc_models.specs.Calls.SortNumbers.{sizes_among, AreNumbered}
use Rattle.enc_models.proofs.sort_counts.entries_of_arguments.Given as goal

abbrev pub invariant-loop-ty : goal.invariant-loop-ty
invariant-loop-ty l = record {
  counted : l.entries
      ≡ in_64_bits (tuple_count (take l.ty-index (sizes_among l.sorts l.sizes l.types)));
  numbered : AreNumbered l.numbers (length l.sorts) l.sorts;
}
