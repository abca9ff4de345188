use Rattle.std.proofs.Common.{ℕ, ◌≤◌, ◌-◌, Bool, length}
use Rattle.enc_marks.specs.Occurrence.{count_below}
use Rattle.enc_models.specs.Calls.Lifting.{ArePicked}
use Rattle.enc_models.proofs.rows.rank_of.Given as goal

abbrev pub invariant-loop-low : goal.invariant-loop-low
invariant-loop-low l = record {
  ordered : l.low ≤ l.high;
  within : l.high ≤ length l.picked;
  above : (test : ℕ → Bool) (bound : ℕ) → ArePicked test bound l.picked → l.number ≤ bound →
      l.low ≤ count_below l.number test;
  below : (test : ℕ → Bool) (bound : ℕ) → ArePicked test bound l.picked → l.number ≤ bound →
      count_below l.number test ≤ l.high;
}

abbrev pub decreases-loop-low : goal.decreases-loop-low
decreases-loop-low l = l.high - l.low
