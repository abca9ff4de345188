use Rattle.std.proofs.Common.{take, []}
use Rattle.enc_base.specs.Pending.{Puts}
use Rattle.model_tables.specs.Written.{laid, item_lines, fof_headings}
use Rattle.model_tables.proofs.lines.put_fof_symbols.Given as goal

abbrev pub invariant-loop-i : goal.invariant-loop-i
invariant-loop-i g l =
    Puts g.O.Sink.bytes g.O.Sink.faults l.initial.pending l.pending l.initial.out l.out
    (laid (item_lines (take l.i (fof_headings l.signature l.names)) (take l.i l.tables) []))
