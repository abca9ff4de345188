use Rattle.std.proofs.Common.{arith, ap, ◌∙◌, length, slice_index}
use Rattle.enc_base.proofs.Placing.{placed_within}
use Rattle.enc_models.specs.Calls.Collapsing.{parts_of}
use Rattle.enc_models.proofs.CollapsedSymbols.{constructor_fits, constructor_is, constructor_table}
use Rattle.enc_models.proofs.collapsing.Collapsing.constructor_member.Goals as goal

pub place_of_members-at-requires-clause-entries : goal.place_of_members-at-requires-clause-entries
place_of_members-at-requires-clause-entries g c =
    let table = constructor_table (parts_of g.C.Choices.choices c.args.self.now) c.requires.ready c.args.c c.args.values.now
    c.requires.constructor c.as_slice.result.now c.as_slice-table.result.now
    c.index-as_slice-c.result c.as_slice.ensures c.index-as_slice-c.is c.as_slice-table.ensures in
    omega (
      arith,
      ap length table,
      constructor_fits (parts_of g.C.Choices.choices c.args.self.now) c.requires.ready c.args.c c.args.values.now
          c.requires.constructor,
    )

pub offset_bounds-table-at : goal.offset_bounds-table-at
offset_bounds-table-at g c =
    let table = constructor_table (parts_of g.C.Choices.choices c.args.self.now) c.requires.ready c.args.c c.args.values.now
    c.requires.constructor c.as_slice.result.now c.as_slice-table.result.now
    c.index-as_slice-c.result c.as_slice.ensures c.index-as_slice-c.is c.as_slice-table.ensures in
    omega (
      arith,
      ap length table,
      constructor_fits (parts_of g.C.Choices.choices c.args.self.now) c.requires.ready c.args.c c.args.values.now
          c.requires.constructor,
      placed_within _ _ c.place_of_members-at.result
          c.place_of_members-at.ensures.exact,
    )

pub bounds-table-at : goal.bounds-table-at
bounds-table-at g c =
    let table = constructor_table (parts_of g.C.Choices.choices c.args.self.now) c.requires.ready c.args.c c.args.values.now
    c.requires.constructor c.as_slice.result.now c.as_slice-table.result.now
    c.index-as_slice-c.result c.as_slice.ensures c.index-as_slice-c.is c.as_slice-table.ensures in
    omega (
      arith,
      ap length table,
      constructor_fits (parts_of g.C.Choices.choices c.args.self.now) c.requires.ready c.args.c c.args.values.now
          c.requires.constructor,
      placed_within _ _ c.place_of_members-at.result
          c.place_of_members-at.ensures.exact,
    )

pub returns : goal.returns
returns g c =
    let table = constructor_table (parts_of g.C.Choices.choices c.args.self.now) c.requires.ready c.args.c c.args.values.now
    c.requires.constructor c.as_slice.result.now c.as_slice-table.result.now
    c.index-as_slice-c.result c.as_slice.ensures c.index-as_slice-c.is c.as_slice-table.ensures in
    record {
      exact = ap (λ entries. slice_index entries c.place_of_members-at.result) table
          ∙ constructor_is (parts_of g.C.Choices.choices c.args.self.now) c.requires.ready c.args.c c.args.values.now
          c.requires.constructor c.place_of_members-at.result
          c.place_of_members-at.ensures.exact;
    }
