use Rattle.std.proofs.Common.{◌≡◌, ◌++◌, ◌-◌, take}
use Rattle.enc_base.specs.Tables.{EachBelow, tuple_count, place, table}
use Rattle.structure_tables.proofs.tuples.append_table.Given as goal

abbrev pub invariant-loop-values : goal.invariant-loop-values
invariant-loop-values g l = record {
  below : EachBelow l.bounds l.values.items;
  so_far : l.entries
      ≡ l.initial.entries
      ++ take (place l.bounds l.values.items)
      (table l.bounds (g.F.TupleFunction.gives l.function));
}

abbrev pub decreases-loop-values : goal.decreases-loop-values
decreases-loop-values g l = tuple_count l.bounds - place l.bounds l.values.items
