use Rattle.std.proofs.Common.{take, map}
use Rattle.enc_base.specs.Pending.{Puts}
use Rattle.fof_text.specs.Pieces.{part, in_row}
use Rattle.fof_text.specs.Written.{formula_words}
use Rattle.fof_text.proofs.formula.+formulas.Given as goal

abbrev pub invariant-put_chain-loop-i : goal.invariant-put_chain-loop-i
invariant-put_chain-loop-i g l =
    Puts g.O.Sink.bytes g.O.Sink.faults l.initial.pending l.pending l.initial.out l.out
    (in_row l.piece (map (λ u. part ((formula_words l.names u).is l.depth)) (take l.i l.parts)))
