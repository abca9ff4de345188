use Rattle.std.proofs.Common.{arith, length, ap}
use Rattle.enc_base.proofs.Placing.{placed_within}
use Rattle.fof_models.proofs.Places.{symbol_within, table_length}
use Rattle.fof_models.proofs.structure.Structure.holds_at.Goals as goal

pub table-table-requires : goal.table-table-requires
table-table-requires c = symbol_within _ _ _ _ _ c.requires.ready.well_formed c.requires.symbol

pub place_in-at-requires-clause-entries : goal.place_in-at-requires-clause-entries
place_in-at-requires-clause-entries c =
    rw c.table-table.ensures (table_length _ _ _ _ _ c.requires.ready.well_formed c.requires.symbol)

pub offset_bounds-table-at : goal.offset_bounds-table-at
offset_bounds-table-at c =
    omega (
      arith,
      placed_within _ _ _ c.place_in-at.ensures,
      table_length _ _ _ _ _ c.requires.ready.well_formed c.requires.symbol,
      ap length c.table-table.ensures,
    )

pub bounds-table-at : goal.bounds-table-at
bounds-table-at c =
    omega (
      arith,
      placed_within _ _ _ c.place_in-at.ensures,
      table_length _ _ _ _ _ c.requires.ready.well_formed c.requires.symbol,
      ap length c.table-table.ensures,
    )
