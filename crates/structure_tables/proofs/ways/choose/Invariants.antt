use Rattle.std.proofs.Common.{◌≡◌, take}
use Rattle.enc_base.specs.Counts.{in_64_bits}
use Rattle.structure_tables.specs.CountedWays.{choices_at, counts_at}
use Rattle.structure_tables.proofs.ways.choose.Given as goal

abbrev pub invariant-loop-i : goal.invariant-loop-i
invariant-loop-i l = record {
  chosen : l.chosen.items ≡ choices_at (take l.i l.parts) l.numbers;
  counted : l.tuples ≡ in_64_bits (counts_at (take l.i l.parts) l.numbers);
}
