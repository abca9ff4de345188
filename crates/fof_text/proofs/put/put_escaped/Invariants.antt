use Rattle.std.proofs.Common.{take}
use Rattle.enc_base.specs.Pending.{Puts}
use Rattle.tptp_words.specs.Text.{escaped}
use Rattle.fof_text.proofs.put.put_escaped.Given as goal

abbrev pub invariant-loop-byte : goal.invariant-loop-byte
invariant-loop-byte g l =
    Puts g.O.Sink.bytes g.O.Sink.faults l.initial.pending l.pending l.initial.out l.out
    (escaped 39 (take l.byte-index l.bytes))
