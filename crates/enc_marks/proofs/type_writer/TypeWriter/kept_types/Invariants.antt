use Rattle.std.proofs.Common.{◌≡◌, map, take}
use Rattle.enc_marks.specs.Translation.{selected}
use Rattle.enc_marks.specs.Calls.Writing.{type_term_in}
use Rattle.enc_marks.proofs.type_writer.TypeWriter.kept_types.Given as goal

abbrev pub invariant-loop-i : goal.invariant-loop-i
invariant-loop-i l =
    l.made ≡ map (type_term_in l.self.normal.now l.depth) (selected l.kept (take l.i l.types))
