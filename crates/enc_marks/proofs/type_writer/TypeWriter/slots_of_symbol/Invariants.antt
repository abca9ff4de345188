use Rattle.std.proofs.Common.{◌≡◌, take}
use Rattle.tf_naked.specs.Covers.{covers}
use Rattle.enc_marks.specs.Calls.Slots.{slots_in}
use Rattle.enc_marks.proofs.type_writer.TypeWriter.slots_of_symbol.Given as goal

abbrev pub invariant-loop-i : goal.invariant-loop-i
invariant-loop-i g l =
    l.slots
    ≡ slots_in (g.C.Choices.choices l.choices) l.self.normal.now (covers l.symbol)
    (take l.i l.symbol.arguments)
