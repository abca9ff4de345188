use Rattle.std.proofs.Common.{◌≡◌, map, take}
use Rattle.enc_marks.specs.Calls.Slots.{slots_of}
use Rattle.enc_marks.proofs.type_writer.TypeWriter.slots_of_symbols.Given as goal

abbrev pub invariant-loop-f : goal.invariant-loop-f
invariant-loop-f g l =
    l.slots
    ≡ map (slots_of (g.C.Choices.choices l.choices) l.self.normal.now)
    (take l.f l.self.normal.now.signature.symbols)
