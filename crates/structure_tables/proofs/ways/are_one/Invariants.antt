use Rattle.std.proofs.Common.{◌≡◌, true, take}
use Rattle.std.specs.List.{All}
use Rattle.structure_tables.specs.CountedWays.{is_one}
use Rattle.structure_tables.proofs.ways.are_one.Given as goal

abbrev pub invariant-loop-part : goal.invariant-loop-part
invariant-loop-part l = All (λ part. is_one part ≡ true) (take l.part-index l.parts)
