use Rattle.std.proofs.Common.{◌≡◌, map, take}
use Rattle.enc_marks.specs.Calls.Closures.{closures}
use Rattle.enc_marks.specs.Encoded as specs
use Rattle.enc_marks.proofs.writer.Writer.translation.Given as goal

abbrev pub invariant-loop-formula : goal.invariant-loop-formula
invariant-loop-formula g l =
    let normal = l.self.types.normal.now in
    closures l.made
    ≡ map (specs.stated (g.C.Choices.choices l.self.choices.now) normal) (take l.formula-index
    normal.formulas)
