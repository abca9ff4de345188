use Rattle.std.proofs.Common.{◌≡◌, map, take}
use Rattle.structure_tables.specs.CountedWays.{choices_of}
use Rattle.structure_tables.proofs.ways.choices_of_parts.Given as goal

abbrev pub invariant-loop-part : goal.invariant-loop-part
invariant-loop-part l = l.bounds.items ≡ map (choices_of l.members) (take l.part-index l.parts)
