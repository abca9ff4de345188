use Rattle.std.proofs.Common.{take, []}
use Rattle.enc_base.specs.Pending.{Puts}
use Rattle.model_tables.specs.Written.{laid, numbers}
use Rattle.model_tables.proofs.lines.put_numbers.Given as goal

abbrev pub invariant-loop-number : goal.invariant-loop-number
invariant-loop-number g l =
    Puts g.O.Sink.bytes g.O.Sink.faults l.initial.pending l.pending l.initial.out l.out
    (laid (numbers (take l.number-index l.numbers) []))
