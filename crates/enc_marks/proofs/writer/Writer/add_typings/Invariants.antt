use Rattle.std.proofs.Common.{◌≡◌, ◌++◌, take}
use Rattle.enc_marks.specs.Calls.Closures.{closures}
use Rattle.enc_marks.specs.Encoded as specs
use Rattle.enc_marks.proofs.writer.Writer.add_typings.Given as goal

abbrev pub invariant-loop-f : goal.invariant-loop-f
invariant-loop-f g l =
    let normal = l.self.types.normal.now in
    closures l.made ≡ closures l.initial.made
    ++ specs.typing_axioms (g.C.Choices.choices l.self.choices.now) normal 0 (take l.f
    normal.signature.symbols)
