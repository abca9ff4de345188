use Rattle.std.proofs.Common.{map, take}
use Rattle.tf_core.specs.Sorts.{joined}
use Rattle.tf_naked.specs.Naked.{equations_of}
use Rattle.tf_naked.specs.Calls.Frames.{kinds_of}
use Rattle.tf_naked.specs.Calls.Sets.{Adds}
use Rattle.tf_naked.specs.Calls.NakedTypes.{naked_types}
use Rattle.tf_naked.proofs.free.+mark.Given as goal

abbrev pub invariant-mark_in_parts-loop-part : goal.invariant-mark_in_parts-loop-part
invariant-mark_in_parts-loop-part l =
    Adds l.initial.set l.set
    (joined (map (λ part. naked_types (equations_of part (kinds_of l.frames)))
    (take l.part-index l.parts)))
