use Rattle.std.proofs.Common.{◌≡◌, ◌+◌, take}
use Rattle.std.specs.Prelude.{sum_by}
use Rattle.enc_base.specs.Counts.{in_64_bits}
use Rattle.tf_models.specs.Reading.{tables}
use Rattle.enc_mono.proofs.CountedEntries.{kept_count, block_count_of}
use Rattle.enc_mono.proofs.restricting.count_entries.Given as goal

abbrev pub invariant-loop-origin : goal.invariant-loop-origin
invariant-loop-origin l =
    l.entries
    ≡ in_64_bits (kept_count (tables l.model)
    + sum_by (block_count_of l.signature (tables l.model)) (take l.origin-index l.origins))
