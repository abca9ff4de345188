use Rattle.std.proofs.Common.{ℕ, ◌≡◌, take, false}
use Rattle.tf_core.specs.Occurrences.{occurs_in_types}
use Rattle.tf_models.proofs.occurring.+is_closed.Given as goal

abbrev pub invariant-are_closed-loop-ty : goal.invariant-are_closed-loop-ty
invariant-are_closed-loop-ty l = (i : ℕ) → occurs_in_types i (take l.ty-index l.types) ≡ false
