use Rattle.std.proofs.Common.{◌≡◌, ◌<◌, ℕ, length, get_or, None}
use Rattle.enc_marks.specs.Occurrence.{count_below}
use Rattle.enc_models.specs.Calls.Lifting.{occurs_in, place_in}
use Rattle.enc_models.proofs.marked.places_of_marks.Given as goal

abbrev pub invariant-loop-number : goal.invariant-loop-number
invariant-loop-number g l = record {
  at_is : l.at ≡ count_below l.number (occurs_in (g.C.Choices.choices l.choices) l.normal);
  length_is : length l.places ≡ l.number;
  each : (m : ℕ) → m < l.number → get_or l.places m None ≡ place_in (occurs_in (g.C.Choices.choices l.choices) l.normal) m;
}
