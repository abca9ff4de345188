use Rattle.std.proofs.Common.{List, rules, ap, ◌∙◌, sym, length, arith}
use Rattle.std.proofs.lemmas.Option.{slice_get_within}
use Rattle.tf_core.specs.declared.signature.Symbol.{Symbol}
use Rattle.tf_models.proofs.Inversion.{variable_parts}
use Rattle.tf_core.specs.declared.ty.Ty.TheViews.{the_lemmas}
use Rattle.tf_core.specs.Structures.{member_of}
use Rattle.enc_base.proofs.Placing.{get_or-mapped}
use Rattle.tf_models.proofs.TypeMembers.{type_at}
use Rattle.structure_tables.proofs.MembersOfTypes.{member_of-variable}
use Rattle.enc_models.specs.Calls.Lifting.{members_in, parts_of, typed_in}
use Rattle.enc_models.proofs.Folding.{fold-step, fold-fits, fold-placed}
use Rattle.enc_models.proofs.LiftedValues.{members_small, applied_parts, applied_fills, applied_none, applied_inside, applied_is}
use Rattle.enc_models.proofs.lifting.Lifting.+member_of.Goals as goal

pub member_of-returns-then-table-eq0 : goal.member_of-returns-then-table-eq0
member_of-returns-then-table-eq0 g t c =
    applied_none (parts_of g.C.Choices.choices c.args.self.now.marked.now) c.requires.ready.marked c.requires.ready.fits (length c.args.members.now)
    c.args.members.now c.args.ty.now c.in-Apply.c c.in-Apply.types c.in-Apply.is c.requires.typed
    c.requires.members c.constructor_table-table.result.now
    c.constructor_table-table.ensures c.if-table-eq0.true

pub member_of-place_of_types-at-requires : goal.member_of-place_of_types-at-requires
member_of-place_of_types-at-requires g t c = λ κs lives. (
  search (rules, the_lemmas),
  (
    lives,
    (
      c.requires.ready,
      (
        c.requires.members,
        (
          rw c.as_slice.ensures
              (applied_parts (parts_of g.C.Choices.choices c.args.self.now.marked.now) c.requires.ready.marked c.requires.ready.fits
              (length c.args.members.now) c.args.members.now c.args.ty.now c.in-Apply.c
              c.in-Apply.types c.in-Apply.is c.requires.typed).3,
          rw c.as_slice.ensures
              (omega (
                arith,
                applied_fills (parts_of g.C.Choices.choices c.args.self.now.marked.now) c.requires.ready.marked c.requires.ready.fits
                    (length c.args.members.now) c.args.members.now c.args.ty.now c.in-Apply.c
                    c.in-Apply.types c.in-Apply.is c.requires.typed c.requires.members
                    c.constructor_table-table.result.now c.constructor_table-table.ensures
                    c.if-table-eq0.false,
              )),
        ),
      ),
    ),
  ),
)

pub member_of-bounds-table-at : goal.member_of-bounds-table-at
member_of-bounds-table-at g t c =
    applied_inside (parts_of g.C.Choices.choices c.args.self.now.marked.now) c.requires.ready.marked c.requires.ready.fits (length c.args.members.now)
    c.args.members.now c.args.ty.now c.in-Apply.c c.in-Apply.types c.in-Apply.is c.requires.typed
    c.requires.members c.constructor_table-table.result.now
    c.constructor_table-table.ensures c.place_of_types-at.result c.if-table-eq0.false
    (rw c.as_slice.ensures at c.place_of_types-at.ensures)

pub member_of-offset_bounds-table-at : goal.member_of-offset_bounds-table-at
member_of-offset_bounds-table-at g t c =
    omega (
      arith,
      c.constructor_table-table.type_inv,
      applied_inside (parts_of g.C.Choices.choices c.args.self.now.marked.now) c.requires.ready.marked c.requires.ready.fits
          (length c.args.members.now) c.args.members.now c.args.ty.now c.in-Apply.c
          c.in-Apply.types c.in-Apply.is c.requires.typed c.requires.members
          c.constructor_table-table.result.now c.constructor_table-table.ensures
          c.place_of_types-at.result c.if-table-eq0.false
          (rw c.as_slice.ensures at c.place_of_types-at.ensures),
    )

pub member_of-returns-in-Var : goal.member_of-returns-in-Var
member_of-returns-in-Var g t c =
    member_of-variable (typed_in (parts_of g.C.Choices.choices c.args.self.now.marked.now)) c.args.members.now c.args.ty.now
    c.in-Var.i c.in-Var.is

pub member_of-returns-else-table-eq0 : goal.member_of-returns-else-table-eq0
member_of-returns-else-table-eq0 g t c =
    applied_is (parts_of g.C.Choices.choices c.args.self.now.marked.now) c.requires.ready.marked c.requires.ready.fits (length c.args.members.now)
    c.args.members.now c.args.ty.now c.in-Apply.c c.in-Apply.types c.in-Apply.is c.requires.typed
    c.requires.members c.constructor_table-table.result.now
    c.constructor_table-table.ensures c.place_of_types-at.result
    (rw c.as_slice.ensures at c.place_of_types-at.ensures)

pub place_of_types-member_of-member-requires : goal.place_of_types-member_of-member-requires
place_of_types-member_of-member-requires g t c = λ κs lives. (
  search (rules, the_lemmas),
  (
    lives,
    (
      c.requires.ready,
      (
        c.requires.members,
        type_at (parts_of g.C.Choices.choices c.args.self.now.marked.now).normal.signature (length c.args.members.now)
            c.loop-ty.ty-index c.args.types.now c.ty-item.result c.loop-ty-test.true c.ty-item.is
            c.requires.typed,
      ),
    ),
  ),
)

pub place_of_types-overflow_mul-at : goal.place_of_types-overflow_mul-at
place_of_types-overflow_mul-at g t c =
    rw c.requires.ready.rows.picked_count
    (omega (
      arith,
      c.requires.entries,
      fold-fits (length c.args.types.now) (members_in (parts_of g.C.Choices.choices c.args.self.now.marked.now)) _
          (members_small (parts_of g.C.Choices.choices c.args.self.now.marked.now) c.requires.ready.marked c.requires.ready.fits
          (length c.args.members.now) c.args.members.now c.args.types.now c.requires.typed
          c.requires.members) c.loop-ty.ty-index c.loop-ty.at c.member_of-member.result
          c.loop-ty-test.true
          (c.member_of-member.ensures
          ∙ sym (get_or-mapped
          (member_of (typed_in (parts_of g.C.Choices.choices c.args.self.now.marked.now)) c.args.members.now) c.args.types.now
          c.loop-ty.ty-index c.ty-item.result c.loop-ty-test.true c.ty-item.is))
          c.loop-ty.invariant,
    ))

pub place_of_types-overflow_add-at : goal.place_of_types-overflow_add-at
place_of_types-overflow_add-at g t c =
    rw c.requires.ready.rows.picked_count
    (omega (
      arith,
      c.requires.entries,
      fold-fits (length c.args.types.now) (members_in (parts_of g.C.Choices.choices c.args.self.now.marked.now)) _
          (members_small (parts_of g.C.Choices.choices c.args.self.now.marked.now) c.requires.ready.marked c.requires.ready.fits
          (length c.args.members.now) c.args.members.now c.args.types.now c.requires.typed
          c.requires.members) c.loop-ty.ty-index c.loop-ty.at c.member_of-member.result
          c.loop-ty-test.true
          (c.member_of-member.ensures
          ∙ sym (get_or-mapped
          (member_of (typed_in (parts_of g.C.Choices.choices c.args.self.now.marked.now)) c.args.members.now) c.args.types.now
          c.loop-ty.ty-index c.ty-item.result c.loop-ty-test.true c.ty-item.is))
          c.loop-ty.invariant,
    ))

pub place_of_types-loop-ty-preserved : goal.place_of_types-loop-ty-preserved
place_of_types-loop-ty-preserved g t c =
    rw c.requires.ready.rows.picked_count
    (fold-step (length c.args.types.now) (members_in (parts_of g.C.Choices.choices c.args.self.now.marked.now)) _
    (members_small (parts_of g.C.Choices.choices c.args.self.now.marked.now) c.requires.ready.marked c.requires.ready.fits
    (length c.args.members.now) c.args.members.now c.args.types.now c.requires.typed
    c.requires.members) c.loop-ty.ty-index c.loop-ty.at c.member_of-member.result
    c.loop-ty-test.true
    (c.member_of-member.ensures
    ∙ sym (get_or-mapped
    (member_of (typed_in (parts_of g.C.Choices.choices c.args.self.now.marked.now)) c.args.members.now) c.args.types.now
    c.loop-ty.ty-index c.ty-item.result c.loop-ty-test.true c.ty-item.is))
    c.loop-ty.invariant)

pub place_of_types-returns : goal.place_of_types-returns
place_of_types-returns g t c =
    fold-placed (length c.args.types.now) (members_in (parts_of g.C.Choices.choices c.args.self.now.marked.now)) _
    (members_small (parts_of g.C.Choices.choices c.args.self.now.marked.now) c.requires.ready.marked c.requires.ready.fits
    (length c.args.members.now) c.args.members.now c.args.types.now c.requires.typed
    c.requires.members) c.loop-ty.ty-index c.loop-ty.at (omega (arith, c.loop-ty-test.false))
    c.loop-ty.invariant

pub member_of-bounds-members-i : goal.member_of-bounds-members-i
member_of-bounds-members-i g t c =
    variable_parts (parts_of g.C.Choices.choices c.args.self.now.marked.now).normal.signature (length c.args.members.now) c.args.ty.now c.in-Var.i
    c.in-Var.is c.requires.typed

pub member_of-constructor_table-table-requires-clause-constructor :
    goal.member_of-constructor_table-table-requires-clause-constructor
member_of-constructor_table-table-requires-clause-constructor g t c =
    let parts = applied_parts (parts_of g.C.Choices.choices c.args.self.now.marked.now) c.requires.ready.marked c.requires.ready.fits
    (length c.args.members.now) c.args.members.now c.args.ty.now c.in-Apply.c c.in-Apply.types
    c.in-Apply.is c.requires.typed in
    slice_get_within (parts_of g.C.Choices.choices c.args.self.now.marked.now).normal.signature.constructors c.in-Apply.c parts.0 parts.1
