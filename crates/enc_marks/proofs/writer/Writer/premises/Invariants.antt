use Rattle.std.proofs.Common.{◌≡◌, length, take}
use Rattle.tf_naked.specs.Covers.{covers}
use Rattle.enc_marks.specs.Calls.Writing.{premises_in}
use Rattle.enc_marks.proofs.writer.Writer.premises.Given as goal

abbrev pub invariant-loop-i : goal.invariant-loop-i
invariant-loop-i g l =
    let symbol = l.shape.symbol.now in
    l.made ≡ premises_in (g.C.Choices.choices l.self.choices.now) l.self.types.normal.now l.depth
    (covers symbol) (take l.i symbol.arguments) (length symbol.arguments)
