use Rattle.tf_check.proofs.PassLemmas.{SymbolsDone}
use Rattle.tf_check.proofs.declarations.declare_symbols.Given as goal

abbrev pub invariant-loop-i : goal.invariant-loop-i
invariant-loop-i l = SymbolsDone l.entries l.i l.table
