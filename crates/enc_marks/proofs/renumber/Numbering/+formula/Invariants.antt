use Rattle.std.proofs.Common.{◌≡◌, map, take}
use Rattle.enc_marks.specs.Calls.Flags.{number_of}
use Rattle.enc_marks.specs.Occurrence.{renumber}
use Rattle.enc_marks.proofs.renumber.Numbering.+formula.Given as goal

abbrev pub invariant-formulas-loop-part : goal.invariant-formulas-loop-part
invariant-formulas-loop-part l =
    l.made ≡ map (renumber (number_of l.self)) (take l.part-index l.parts)
