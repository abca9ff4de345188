use Rattle.std.proofs.Common.{arith, length, replicate}
use Rattle.enc_base.proofs.Placing.{placed_within}
use Rattle.enc_models.proofs.LiftedValues.{constructor_members, constructor_fills, constructor_none, constructor_is}
use Rattle.enc_models.specs.Calls.Lifting.{parts_of, members_in}
use Rattle.enc_models.proofs.lifting.LiftingTypedSource.constructor_value.Goals as goal

pub place_of_members-requires-clause-members : goal.place_of_members-requires-clause-members
place_of_members-requires-clause-members g c =
    let m = (parts_of g.C.Choices.choices c.args.self.now.marked.now) in
    let facts = constructor_members m c.requires.ready.marked c.requires.ready.fits c.requires.within.constructor.arity
    c.args.members.now c.requires.within.below in
    facts.0

pub place_of_members-requires-clause-entries : goal.place_of_members-requires-clause-entries
place_of_members-requires-clause-entries g c =
    let m = (parts_of g.C.Choices.choices c.args.self.now.marked.now) in
    let facts = constructor_members m c.requires.ready.marked c.requires.ready.fits c.requires.within.constructor.arity
    c.args.members.now c.requires.within.below in
    omega (
      arith,
      constructor_fills m c.requires.ready.marked c.requires.ready.fits c.args.constructor c.requires.within.constructor
          c.requires.within.at c.constructor_table-table.result.now c.constructor_table-table.ensures
          c.args.members.now facts.2 c.if-table-eq0.false,
    )

pub bounds-table-place_of_members : goal.bounds-table-place_of_members
bounds-table-place_of_members g c =
    let m = (parts_of g.C.Choices.choices c.args.self.now.marked.now) in
    let facts = constructor_members m c.requires.ready.marked c.requires.ready.fits c.requires.within.constructor.arity
    c.args.members.now c.requires.within.below in
    omega (
      arith,
      constructor_fills m c.requires.ready.marked c.requires.ready.fits c.args.constructor c.requires.within.constructor
          c.requires.within.at c.constructor_table-table.result.now c.constructor_table-table.ensures
          c.args.members.now facts.2 c.if-table-eq0.false,
      placed_within (replicate (length c.args.members.now) (members_in m)) c.args.members.now c.place_of_members.result c.place_of_members.ensures,
    )

pub offset_bounds-table-place_of_members : goal.offset_bounds-table-place_of_members
offset_bounds-table-place_of_members g c =
    let m = (parts_of g.C.Choices.choices c.args.self.now.marked.now) in
    let facts = constructor_members m c.requires.ready.marked c.requires.ready.fits c.requires.within.constructor.arity
    c.args.members.now c.requires.within.below in
    omega (
      arith,
      c.constructor_table-table.type_inv,
      constructor_fills m c.requires.ready.marked c.requires.ready.fits c.args.constructor c.requires.within.constructor
          c.requires.within.at c.constructor_table-table.result.now c.constructor_table-table.ensures
          c.args.members.now facts.2 c.if-table-eq0.false,
      placed_within (replicate (length c.args.members.now) (members_in m)) c.args.members.now c.place_of_members.result c.place_of_members.ensures,
    )

pub returns-then-table-eq0 : goal.returns-then-table-eq0
returns-then-table-eq0 g c =
    let m = (parts_of g.C.Choices.choices c.args.self.now.marked.now) in
    let facts = constructor_members m c.requires.ready.marked c.requires.ready.fits c.requires.within.constructor.arity
    c.args.members.now c.requires.within.below in
    constructor_none m c.requires.ready.marked c.requires.ready.fits c.args.constructor c.requires.within.constructor
    c.requires.within.at c.constructor_table-table.result.now c.constructor_table-table.ensures
    c.args.members.now facts.2 c.if-table-eq0.true

pub returns : goal.returns
returns g c =
    let m = (parts_of g.C.Choices.choices c.args.self.now.marked.now) in
    let facts = constructor_members m c.requires.ready.marked c.requires.ready.fits c.requires.within.constructor.arity
    c.args.members.now c.requires.within.below in
    constructor_is m c.requires.ready.marked c.requires.ready.fits c.args.constructor c.requires.within.constructor
    c.requires.within.at c.constructor_table-table.result.now c.constructor_table-table.ensures
    c.args.members.now facts.2 c.place_of_members.result c.place_of_members.ensures.place_is
