use Rattle.std.proofs.Common.{◌≡◌, ◌*◌, slice_index}
use Rattle.enc_base.specs.Tables.{sum_below}
use Rattle.enc_base.specs.Counts.{in_64_bits}
use Rattle.structure_tables.proofs.ways.add_products.Given as goal

abbrev pub invariant-loop-i : goal.invariant-loop-i
invariant-loop-i l =
    l.entries
    ≡ in_64_bits (sum_below l.i (λ member. slice_index l.counts member * slice_index l.sizes member))
