use Rattle.tf_check.proofs.PassLemmas.{ConstructorsDone}
use Rattle.tf_check.proofs.declarations.declare_constructors.Given as goal

abbrev pub invariant-loop-i : goal.invariant-loop-i
invariant-loop-i l = ConstructorsDone l.entries l.i l.table
