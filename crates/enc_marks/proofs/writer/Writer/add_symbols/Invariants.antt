use Rattle.std.proofs.Common.{take}
use Rattle.enc_marks.specs.Encoded.{marked_symbols}
use Rattle.enc_marks.specs.Calls.Flags.{is_set}
use Rattle.enc_marks.specs.Calls.Marked.{MarksAdded}
use Rattle.enc_marks.specs.Occurrence.{passing}
use Rattle.enc_marks.proofs.writer.Writer.add_symbols.Given as goal

abbrev pub invariant-loop-f : goal.invariant-loop-f
invariant-loop-f g l =
    MarksAdded l.initial.marked l.marked
    (passing (is_set l.occurring) 0
    (marked_symbols (g.C.Choices.choices l.self.choices.now) 0 (take l.f
    l.self.types.normal.now.signature.symbols)))
