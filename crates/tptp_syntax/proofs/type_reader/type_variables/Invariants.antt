use Rattle.std.proofs.Common.{◌<◌, length}
use Rattle.std.specs.Prelude.{codes}
use Rattle.tptp_words.specs.Words.{mark}
use Rattle.tptp_phrases.specs.Readers.{behind, seen}
use Rattle.tptp_phrases.proofs.Turns.{Turning}
use Rattle.tptp_syntax.specs.Descent as descent
use Rattle.tptp_syntax.proofs.type_reader.type_variables.Given as goal

abbrev pub invariant-variables : goal.invariant-variables
invariant-variables l = record {
  some : 0 < length l.found;
  rest : Turning (descent.sees (codes ",")) (behind (mark (codes ",")) descent.type_variable_at)
      (descent.listed_at descent.type_variable_at l.fn.reader) l.found l.reader;
}

abbrev pub decreases-variables : goal.decreases-variables
decreases-variables l = length (seen l.reader)
