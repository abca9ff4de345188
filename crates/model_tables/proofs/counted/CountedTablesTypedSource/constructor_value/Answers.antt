use Rattle.std.proofs.Common.{length, sym, ap, subst, ◌∙◌, ◌≤◌, arith, replicate, get_or, []}
use Rattle.std.specs.Prelude.{slice_index}
use Rattle.enc_base.specs.Tables.{EachBelow, tuple_count}
use Rattle.enc_base.specs.Tuples.{IsPlaced}
use Rattle.tf_models.proofs.FitTables.{list_read}
use Rattle.model_tables.proofs.CountedFacts.{value_within, value_below, value_long, value_inside}
use Rattle.model_tables.proofs.counted.CountedTablesTypedSource.constructor_value.Goals as goal

pub place_of-requires-clause-members : goal.place_of-requires-clause-members
place_of-requires-clause-members c =
    let it = c.args.self.now in
    subst (λ z. EachBelow (replicate (length c.args.members.now) (length z)) c.args.members.now)
    (sym c.as_slice-count.ensures)
    (value_below it.signature.now it.structure.now c.requires.ready c.args.constructor
    c.args.members.now c.requires.within)

pub place_of-requires-clause-entries : goal.place_of-requires-clause-entries
place_of-requires-clause-entries c =
    let it = c.args.self.now in
    let table = list_read it.structure.now.constructors c.as_slice.result.now c.args.constructor
    c.index-as_slice-constructor.result c.as_slice-table.result.now c.as_slice.ensures
    (value_within it.signature.now it.structure.now c.requires.ready c.args.constructor
    c.args.members.now c.requires.within) c.index-as_slice-constructor.is c.as_slice-table.ensures in
    subst (λ z. tuple_count (replicate (length c.args.members.now) (length z))
    ≤ length c.as_slice-table.result.now) (sym c.as_slice-count.ensures)
    (omega (
      arith,
      ap length table,
      value_long it.signature.now it.structure.now c.requires.ready c.args.constructor
          c.args.members.now c.requires.within,
    ))

pub bounds-table-place_of : goal.bounds-table-place_of
bounds-table-place_of c =
    let it = c.args.self.now in
    let table = list_read it.structure.now.constructors c.as_slice.result.now c.args.constructor
    c.index-as_slice-constructor.result c.as_slice-table.result.now c.as_slice.ensures
    (value_within it.signature.now it.structure.now c.requires.ready c.args.constructor
    c.args.members.now c.requires.within) c.index-as_slice-constructor.is c.as_slice-table.ensures in
    let placed = subst (λ z. IsPlaced (replicate (length c.args.members.now) (length z))
    c.args.members.now c.place_of.result) c.as_slice-count.ensures c.place_of.ensures in
    omega (
      arith,
      ap length table,
      value_inside it.signature.now it.structure.now c.requires.ready c.args.constructor
          c.args.members.now c.requires.within c.place_of.result placed,
    )

pub offset_bounds-table-place_of : goal.offset_bounds-table-place_of
offset_bounds-table-place_of c =
    let it = c.args.self.now in
    let table = list_read it.structure.now.constructors c.as_slice.result.now c.args.constructor
    c.index-as_slice-constructor.result c.as_slice-table.result.now c.as_slice.ensures
    (value_within it.signature.now it.structure.now c.requires.ready c.args.constructor
    c.args.members.now c.requires.within) c.index-as_slice-constructor.is c.as_slice-table.ensures in
    let placed = subst (λ z. IsPlaced (replicate (length c.args.members.now) (length z))
    c.args.members.now c.place_of.result) c.as_slice-count.ensures c.place_of.ensures in
    omega (
      arith,
      c.as_slice-table.type_inv,
      ap length table,
      value_inside it.signature.now it.structure.now c.requires.ready c.args.constructor
          c.args.members.now c.requires.within c.place_of.result placed,
    )

pub returns : goal.returns
returns c =
    let it = c.args.self.now in
    let table = list_read it.structure.now.constructors c.as_slice.result.now c.args.constructor
    c.index-as_slice-constructor.result c.as_slice-table.result.now c.as_slice.ensures
    (value_within it.signature.now it.structure.now c.requires.ready c.args.constructor
    c.args.members.now c.requires.within) c.index-as_slice-constructor.is c.as_slice-table.ensures in
    let placed = subst (λ z. IsPlaced (replicate (length c.args.members.now) (length z))
    c.args.members.now c.place_of.result) c.as_slice-count.ensures c.place_of.ensures in
    ap (λ t. slice_index t c.place_of.result) table
    ∙ ap (slice_index (get_or it.structure.now.constructors c.args.constructor [])) placed.place_is
