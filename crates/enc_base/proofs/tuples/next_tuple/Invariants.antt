use Rattle.enc_base.proofs.TupleOrder.{IsStepping}
use Rattle.enc_base.proofs.tuples.next_tuple.Given as goal

abbrev pub invariant-loop-i : goal.invariant-loop-i
invariant-loop-i l = IsStepping l.bounds l.initial.values l.values l.i
