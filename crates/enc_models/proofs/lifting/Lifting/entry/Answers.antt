use Rattle.std.proofs.Common.{arith}
use Rattle.enc_models.proofs.LiftedValues.{symbol_in, symbol_fills, symbol_inside, symbol_is}
use Rattle.enc_models.specs.Calls.Lifting.{parts_of}
use Rattle.enc_models.proofs.lifting.Lifting.entry.Goals as goal

pub place_of_arguments-requires-clause-entries : goal.place_of_arguments-requires-clause-entries
place_of_arguments-requires-clause-entries g c =
    let m = (parts_of g.C.Choices.choices c.args.self.now.marked.now) in
    let typed = symbol_in m c.requires.ready.marked c.args.f c.args.symbol.now c.requires.at in
    omega (
      arith,
      symbol_fills m c.requires.ready.marked c.requires.ready.fits c.args.symbol.now typed c.args.members.now
          c.args.elements.now c.requires.arguments c.args.f c.requires.at
          c.table-table.result.now c.table-table.ensures c.if-table-eq0.false,
    )

pub bounds-table-place_of_arguments : goal.bounds-table-place_of_arguments
bounds-table-place_of_arguments g c =
    let m = (parts_of g.C.Choices.choices c.args.self.now.marked.now) in
    let typed = symbol_in m c.requires.ready.marked c.args.f c.args.symbol.now c.requires.at in
    symbol_inside m c.requires.ready.marked c.requires.ready.fits c.args.symbol.now typed c.args.members.now
    c.args.elements.now c.requires.arguments c.args.f c.requires.at c.table-table.result.now
    c.table-table.ensures c.place_of_arguments.result c.if-table-eq0.false
    c.place_of_arguments.ensures

pub offset_bounds-table-place_of_arguments : goal.offset_bounds-table-place_of_arguments
offset_bounds-table-place_of_arguments g c =
    let m = (parts_of g.C.Choices.choices c.args.self.now.marked.now) in
    let typed = symbol_in m c.requires.ready.marked c.args.f c.args.symbol.now c.requires.at in
    omega (
      arith,
      c.table-table.type_inv,
      symbol_inside m c.requires.ready.marked c.requires.ready.fits c.args.symbol.now typed c.args.members.now
          c.args.elements.now c.requires.arguments c.args.f c.requires.at
          c.table-table.result.now c.table-table.ensures c.place_of_arguments.result
          c.if-table-eq0.false c.place_of_arguments.ensures,
    )

pub returns : goal.returns
returns g c =
    let m = (parts_of g.C.Choices.choices c.args.self.now.marked.now) in
    let typed = symbol_in m c.requires.ready.marked c.args.f c.args.symbol.now c.requires.at in
    symbol_is m c.requires.ready.marked c.requires.ready.fits c.args.symbol.now typed c.args.members.now
    c.args.elements.now c.requires.arguments c.args.f c.requires.at c.table-table.result.now
    c.table-table.ensures c.place_of_arguments.result c.place_of_arguments.ensures

pub place_of_arguments-requires-clause-typed : goal.place_of_arguments-requires-clause-typed
place_of_arguments-requires-clause-typed g c =
    symbol_in (parts_of g.C.Choices.choices c.args.self.now.marked.now)
    c.requires.ready.marked c.args.f c.args.symbol.now c.requires.at
