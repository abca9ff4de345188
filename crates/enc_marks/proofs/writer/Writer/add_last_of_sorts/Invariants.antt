use Rattle.std.proofs.Common.{◌≡◌, ◌++◌, take}
use Rattle.enc_marks.specs.Calls.Closures.{closures}
use Rattle.enc_marks.specs.Encoded.{sort_axioms}
use Rattle.enc_marks.proofs.writer.Writer.add_last_of_sorts.Given as goal

abbrev pub invariant-loop-sort : goal.invariant-loop-sort
invariant-loop-sort g l =
    closures l.made
    ≡ closures l.initial.made
    ++ sort_axioms (g.C.Choices.choices l.self.choices.now) l.self.types.normal.now
    (take l.sort-index l.sorts)
