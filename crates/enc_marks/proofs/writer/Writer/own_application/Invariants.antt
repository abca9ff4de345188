use Rattle.std.proofs.Common.{◌≡◌, ◌++◌, length, take}
use Rattle.tf_naked.specs.Covers.{covers}
use Rattle.enc_marks.specs.Axioms.{own_variables}
use Rattle.enc_marks.specs.Encoded.{all_numbers}
use Rattle.enc_marks.specs.Translation.{placed_all}
use Rattle.enc_marks.proofs.writer.Writer.own_application.Given as goal

abbrev pub invariant-loop-i : goal.invariant-loop-i
invariant-loop-i g l =
    let choices = g.C.Choices.choices l.self.choices.now in
    let normal = l.self.types.normal.now in
    let symbol = l.shape.symbol.now in
    l.arguments ≡ l.initial.arguments
    ++ placed_all choices (all_numbers normal) normal.signature l.depth (covers symbol)
    (take l.i symbol.arguments) (take l.i (own_variables (length symbol.arguments)))
