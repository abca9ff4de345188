use Rattle.enc_models.specs.Calls.Lifting.{parts_of, mark_in, gives_below, AreNoted}
use Rattle.enc_models.proofs.marked.Marked.note_marks.Given as goal

abbrev pub invariant-loop-number : goal.invariant-loop-number
invariant-loop-number g l =
    AreNoted (gives_below (mark_in (parts_of g.C.Choices.choices l.self) l.member) l.number)
    l.fn.given l.given
