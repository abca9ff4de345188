use Rattle.std.proofs.Common.{◌≡◌, ◌+◌, take, length}
use Rattle.std.specs.Prelude.{sum, sum_by}
use Rattle.enc_base.specs.Counts.{in_64_bits}
use Rattle.enc_mono.proofs.restricting.count_kept.Given as goal

abbrev pub invariant-loop-table : goal.invariant-loop-table
invariant-loop-table l =
    l.entries
    ≡ in_64_bits (sum l.model.sizes + sum_by length (take l.table-index l.table-items))
