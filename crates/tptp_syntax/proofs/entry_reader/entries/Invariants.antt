use Rattle.std.proofs.Common.{[], length}
use Rattle.tptp_phrases.specs.Readers.{many_at, seen}
use Rattle.tptp_phrases.proofs.Turns.{Turning}
use Rattle.tptp_syntax.specs.Descent as descent
use Rattle.tptp_syntax.proofs.entry_reader.entries.Given as goal

abbrev pub invariant-items : goal.invariant-items
invariant-items l =
    Turning descent.any_word (descent.entry_at 400)
    (many_at descent.any_word (descent.entry_at 400) [] l.fn.reader) l.found l.reader

abbrev pub decreases-items : goal.decreases-items
decreases-items l = length (seen l.reader)
