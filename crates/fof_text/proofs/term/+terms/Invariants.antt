use Rattle.std.proofs.Common.{take, map, codes}
use Rattle.enc_base.specs.Pending.{Puts}
use Rattle.fof_text.specs.Pieces.{part, in_row}
use Rattle.fof_text.specs.Written.{term_words}
use Rattle.fof_text.proofs.term.+terms.Given as goal

abbrev pub invariant-put_applied-loop-i : goal.invariant-put_applied-loop-i
invariant-put_applied-loop-i g l =
    Puts g.O.Sink.bytes g.O.Sink.faults l.initial.pending l.pending l.initial.out l.out
    (in_row (codes ",") (map (λ t. part (term_words l.names t l.depth)) (take l.i l.terms)))
