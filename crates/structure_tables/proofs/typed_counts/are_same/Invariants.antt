use Rattle.std.proofs.Common.{◌≡◌, take, slice_index}
use Rattle.std.specs.List.{All}
use Rattle.structure_tables.proofs.typed_counts.are_same.Given as goal

abbrev pub invariant-loop-size : goal.invariant-loop-size
invariant-loop-size l = All (λ size. size ≡ slice_index l.sizes 0) (take l.size-index l.sizes)
