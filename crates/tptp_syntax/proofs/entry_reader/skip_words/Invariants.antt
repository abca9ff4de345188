use Rattle.std.proofs.Common.{◌≡◌, ◌+◌, ◌≤◌, length}
use Rattle.std.specs.Prelude.{codes}
use Rattle.tptp_phrases.specs.Readers.{skip_balanced, seen}
use Rattle.tptp_syntax.specs.Descent as descent
use Rattle.tptp_syntax.proofs.SkippedWords.{skip}
use Rattle.tptp_syntax.proofs.entry_reader.skip_words.Given as goal

-- What is skipped from here on is what is skipped in all, and each bracket that is open is one of
-- the words that were taken.
abbrev pub invariant-words : goal.invariant-words
invariant-words l = record {
  skips : skip_balanced (descent.sees (codes "(")) (descent.sees (codes ")")) l.fn.reader
      ≡ skip l.count l.some l.reader;
  taken : l.count + length (seen l.reader) ≤ length (seen l.fn.reader);
}

abbrev pub decreases-words : goal.decreases-words
decreases-words l = length (seen l.reader)
