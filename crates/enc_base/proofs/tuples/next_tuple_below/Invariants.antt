use Rattle.std.proofs.Common.{length, replicate}
use Rattle.enc_base.proofs.TupleOrder.{IsStepping}
use Rattle.enc_base.proofs.tuples.next_tuple_below.Given as goal

abbrev pub invariant-loop-i : goal.invariant-loop-i
invariant-loop-i l =
    IsStepping (replicate (length l.initial.values) l.bound) l.initial.values l.values l.i
