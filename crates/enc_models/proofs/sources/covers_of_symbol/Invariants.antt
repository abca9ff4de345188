use Rattle.std.proofs.Common.{ℕ, ◌≡◌, ◌≤◌, ◌<◌, ◌+◌, length, map, drop, get_or}
use Rattle.tf_naked.specs.Covers.{parameter_of}
use Rattle.enc_models.specs.Calls.Sources.{cover_from}
use Rattle.enc_models.proofs.sources.covers_of_symbol.Given as goal

abbrev pub invariant-loop-left : goal.invariant-loop-left
invariant-loop-left l = record {
  long : length l.covers.items ≡ l.count;
  within : l.left ≤ length l.arguments;
  each : (parameter : ℕ) → parameter < l.count →
      get_or l.covers.items parameter 0
      ≡ cover_from parameter (l.first + l.left) (map parameter_of (drop l.left l.arguments));
}

abbrev pub decreases-loop-left : goal.decreases-loop-left
decreases-loop-left l = l.left
