use Rattle.std.proofs.Common.{take, []}
use Rattle.enc_base.specs.Pending.{Puts}
use Rattle.model_tables.specs.Written.{laid, item_lines, constructor_headings}
use Rattle.model_tables.proofs.lines.put_constructors.Given as goal

abbrev pub invariant-loop-i : goal.invariant-loop-i
invariant-loop-i g l =
    Puts g.O.Sink.bytes g.O.Sink.faults l.initial.pending l.pending l.initial.out l.out
    (laid (item_lines (take l.i (constructor_headings 0 l.constructors)) (take l.i l.tables) []))
