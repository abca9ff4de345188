use Rattle.std.proofs.Common.{◌≡◌, map, take}
use Rattle.enc_marks.specs.Calls.Flags.{number_of}
use Rattle.enc_marks.specs.Occurrence.{renumber_term}
use Rattle.enc_marks.proofs.renumber.Numbering.+term.Given as goal

abbrev pub invariant-terms-loop-term : goal.invariant-terms-loop-term
invariant-terms-loop-term l =
    l.made ≡ map (renumber_term (number_of l.self)) (take l.term-index l.terms)
