use Rattle.std.proofs.Common.{length}
use Rattle.enc_models.specs.Calls.SortNumbers.{AreEntered, AreNumbered}
use Rattle.enc_models.proofs.sort_tables.tables_over_sorts.Given as goal

abbrev pub invariant-loop-number : goal.invariant-loop-number
invariant-loop-number l = record {
  entered : AreEntered l.signature l.sorts l.number l.tables;
  numbered : AreNumbered l.numbers (length l.sorts) l.sorts;
}
