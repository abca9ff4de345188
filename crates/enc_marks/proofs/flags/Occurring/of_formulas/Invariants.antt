use Rattle.std.proofs.Common.{◌≡◌, ℕ, take}
use Rattle.std.specs.List.{list_any}
use Rattle.enc_marks.specs.Calls.Flags.{is_set}
use Rattle.enc_marks.specs.Occurrence.{occurs}
use Rattle.enc_marks.proofs.flags.Occurring.of_formulas.Given as goal

abbrev pub invariant-loop-formula : goal.invariant-loop-formula
invariant-loop-formula l =
    (m : ℕ) → is_set l.occurring m ≡ list_any (λ formula. occurs m formula.body)
    (take l.formula-index l.formulas)
