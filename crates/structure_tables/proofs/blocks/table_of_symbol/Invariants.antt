use Rattle.std.proofs.Common.{◌≡◌, ◌-◌, replicate}
use Rattle.enc_base.specs.Tables.{EachBelow, tuple_count, place}
use Rattle.tf_core.specs.Structures.{member_count}
use Rattle.structure_tables.specs.TypedTabled.{symbol_block}
use Rattle.structure_tables.proofs.BlockOrder.{blocks_before}
use Rattle.structure_tables.proofs.blocks.table_of_symbol.Given as goal

abbrev pub invariant-loop-entries : goal.invariant-loop-entries
invariant-loop-entries g l = record {
  below : EachBelow (replicate l.symbol.parameters (member_count (g.S.TypedSource.structure l.source)))
      l.members.items;
  so_far : l.entries
      ≡ blocks_before (member_count (g.S.TypedSource.structure l.source)) l.symbol.parameters
      (symbol_block (g.S.TypedSource.structure l.source) l.symbol l.f) l.members.items;
}

abbrev pub decreases-loop-entries : goal.decreases-loop-entries
decreases-loop-entries g l =
    tuple_count (replicate l.symbol.parameters (member_count (g.S.TypedSource.structure l.source)))
    - place (replicate l.symbol.parameters (member_count (g.S.TypedSource.structure l.source)))
    l.members.items
