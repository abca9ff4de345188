use Rattle.std.proofs.Common.{ℕ, ◌≡◌, ◌≤◌, ◌<◌, false}
use Rattle.tf_core.specs.Occurrences.{occurs_in}
use Rattle.tf_models.proofs.occurring.used_types.Given as goal

abbrev pub invariant-loop-i : goal.invariant-loop-i
invariant-loop-i l = (j : ℕ) → l.i ≤ j → j < l.count → occurs_in j l.formula ≡ false
