use Rattle.std.proofs.Common.{◌≡◌, ◌*◌, ◌-◌, ℕ, length, map, slice_index}
use Rattle.enc_base.specs.Tables.{EachBelow, tuple_count, place, begins}
use Rattle.enc_base.specs.Counts.{in_64_bits}
use Rattle.structure_tables.specs.TypeWays.{one_at}
use Rattle.structure_tables.specs.CountedWays.{choices_of, choices_at, counts_at}
use Rattle.structure_tables.proofs.ways.count_ways.Given as goal

abbrev pub invariant-loop-chosen : goal.invariant-loop-chosen
invariant-loop-chosen g l = record {
  below : EachBelow (map (choices_of l.members) l.parts) l.numbers.items;
  long : length l.counts.items ≡ l.members;
  so_far : (member : ℕ) → slice_index l.counts.items member
      ≡ in_64_bits (begins (map (choices_of l.members) l.parts)
      (λ numbers. counts_at l.parts numbers
      * one_at (g.F.TupleFunction.gives l.function (choices_at l.parts numbers)) member)
      l.numbers.items);
}

abbrev pub decreases-loop-chosen : goal.decreases-loop-chosen
decreases-loop-chosen g l =
    tuple_count (map (choices_of l.members) l.parts)
    - place (map (choices_of l.members) l.parts) l.numbers.items
