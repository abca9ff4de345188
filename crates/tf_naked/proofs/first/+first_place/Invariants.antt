use Rattle.std.proofs.Common.{◌≡◌, ◌+◌, map, drop, length}
use Rattle.tf_core.specs.Sorts.{joined}
use Rattle.tf_naked.specs.Naked.{equations_of}
use Rattle.tf_naked.specs.Calls.Frames.{kinds_of}
use Rattle.tf_naked.specs.Calls.Walked.{walked}
use Rattle.tf_naked.proofs.first.+first_place.Given as goal

abbrev pub invariant-first_in_parts-loop-part : goal.invariant-first_in_parts-loop-part
invariant-first_in_parts-loop-part l =
    record {
      walked : walked l.formula l.next
          (joined (map (λ part. equations_of part (kinds_of l.frames))
          (drop l.part-index l.parts)))
          ≡ walked l.initial.formula l.initial.number
          (joined (map (λ part. equations_of part (kinds_of l.frames)) l.parts));
      counted : l.next
          + length (joined (map (λ part. equations_of part (kinds_of l.frames))
          (drop l.part-index l.parts)))
          ≡ l.initial.number
          + length (joined (map (λ part. equations_of part (kinds_of l.frames)) l.parts));
    }
