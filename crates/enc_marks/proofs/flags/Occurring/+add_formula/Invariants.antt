use Rattle.std.proofs.Common.{take}
use Rattle.std.specs.List.{list_any}
use Rattle.enc_marks.specs.Calls.Flags.{is_set}
use Rattle.enc_marks.specs.Occurrence.{occurs}
use Rattle.enc_marks.proofs.Added.{Added}
use Rattle.enc_marks.proofs.flags.Occurring.+add_formula.Given as goal

abbrev pub invariant-add_formulas-loop-part : goal.invariant-add_formulas-loop-part
invariant-add_formulas-loop-part l =
    Added (is_set l.initial.self) (is_set l.self)
    (λ m. list_any (occurs m) (take l.part-index l.parts))
