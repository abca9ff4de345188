use Rattle.std.proofs.Common.{ℕ, ◌≡◌, take, true}
use Rattle.fof_models.specs.Sound.{are_terms}
use Rattle.fof_models.specs.Counted.{Counts}
use Rattle.fof_models.proofs.is_sound.+term.Given as goal

abbrev pub invariant-are_terms-loop-term : goal.invariant-are_terms-loop-term
invariant-are_terms-loop-term l =
    (n : ℕ) → Counts l.binders n → are_terms l.signature (take l.term-index l.terms) n ≡ true
