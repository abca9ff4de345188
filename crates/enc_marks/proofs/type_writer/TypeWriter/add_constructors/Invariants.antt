use Rattle.std.proofs.Common.{length, take}
use Rattle.enc_marks.specs.Encoded.{marked_constructors}
use Rattle.enc_marks.specs.Calls.Flags.{is_set}
use Rattle.enc_marks.specs.Calls.Marked.{MarksAdded}
use Rattle.enc_marks.specs.Occurrence.{passing}
use Rattle.enc_marks.proofs.type_writer.TypeWriter.add_constructors.Given as goal

abbrev pub invariant-loop-i : goal.invariant-loop-i
invariant-loop-i l =
    MarksAdded l.initial.marked l.marked
    (passing (is_set l.occurring) (length l.self.normal.now.signature.symbols)
    (marked_constructors l.self.normal.now 0 (take l.i l.constructors)))
