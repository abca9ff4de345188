use Rattle.std.proofs.Common.{ℕ, ◌≡◌, take, true}
use Rattle.fof_models.specs.Sound.{are_formulas}
use Rattle.fof_models.specs.Counted.{Counts}
use Rattle.fof_models.proofs.is_sound.+formula.Given as goal

abbrev pub invariant-are_formulas-loop-part : goal.invariant-are_formulas-loop-part
invariant-are_formulas-loop-part l =
    (n : ℕ) → Counts l.binders n → are_formulas l.signature (take l.part-index l.parts) n ≡ true
