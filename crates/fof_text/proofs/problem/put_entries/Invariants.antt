use Rattle.std.proofs.Common.{take}
use Rattle.enc_base.specs.Pending.{Puts}
use Rattle.tptp_words.specs.Layout.{written}
use Rattle.fof_text.specs.Written.{problem_words, before, after}
use Rattle.fof_text.proofs.problem.put_entries.Given as goal

abbrev pub invariant-loop-entry : goal.invariant-loop-entry
invariant-loop-entry g l =
    Puts g.O.Sink.bytes g.O.Sink.faults l.initial.pending l.pending l.initial.out l.out
    (written before after (problem_words l.names (take l.entry-index l.entries)))
