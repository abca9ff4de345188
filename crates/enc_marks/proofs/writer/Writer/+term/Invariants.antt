use Rattle.std.proofs.Common.{◌≡◌, ◌++◌, map, take}
use Rattle.tf_core.specs.Types.{instantiate}
use Rattle.tf_naked.specs.Covers.{covers}
use Rattle.enc_marks.specs.Encoded.{all_numbers}
use Rattle.enc_marks.specs.Translation.{placed_all}
use Rattle.enc_marks.specs.Calls.Writing.{bare_in}
use Rattle.enc_marks.proofs.writer.Writer.+term.Given as goal

abbrev pub invariant-applied-loop-i : goal.invariant-applied-loop-i
invariant-applied-loop-i g l =
    let choices = g.C.Choices.choices l.self.choices.now in
    let normal = l.self.types.normal.now in
    l.made ≡ l.initial.made
    ++ placed_all choices (all_numbers normal) normal.signature l.depth (covers l.shape.symbol.now)
    (take l.i (map (instantiate l.types) l.shape.symbol.now.arguments))
    (take l.i (map (bare_in choices normal l.depth l.kinds) l.terms))
