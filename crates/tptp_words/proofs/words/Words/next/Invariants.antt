use Rattle.std.proofs.Common.{◌≡◌, ◌≤◌, length}
use Rattle.tptp_words.specs.Scanning.{left}
use Rattle.tptp_words.proofs.words.Words.next.Given as goal

abbrev pub invariant-loop-count : goal.invariant-loop-count
invariant-loop-count l = record {
  same : l.fn.self ≡ left (length l.self-inside.text.now) l.rest;
  within : length l.rest ≤ length l.self-inside.text.now;
  unmoved : l.self-inside ≡ l.initial.self-inside;
}

abbrev pub decreases-loop-count : goal.decreases-loop-count
decreases-loop-count l = length l.rest
