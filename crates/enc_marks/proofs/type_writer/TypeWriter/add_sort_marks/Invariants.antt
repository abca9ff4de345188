use Rattle.std.proofs.Common.{◌+◌, length, take}
use Rattle.enc_marks.specs.Encoded.{sort_marks}
use Rattle.enc_marks.specs.Calls.Flags.{is_set}
use Rattle.enc_marks.specs.Calls.Marked.{MarksAdded}
use Rattle.enc_marks.specs.Occurrence.{passing}
use Rattle.enc_marks.proofs.type_writer.TypeWriter.add_sort_marks.Given as goal

abbrev pub invariant-loop-s : goal.invariant-loop-s
invariant-loop-s l =
    MarksAdded l.initial.marked l.marked
    (passing (is_set l.occurring) (length l.self.normal.now.signature.symbols
    + length l.self.normal.now.signature.constructors)
    (sort_marks l.self.normal.now l.binding 0 (take l.s l.sorts)))
