use Rattle.std.proofs.Common.{rules, rules, ◌∙◌, length, arith}
use Rattle.tf_core.specs.declared.ty.Ty.TheViews.{the_lemmas}
use Rattle.tf_models.specs.Evaluation.{listed}
use Rattle.tf_models.proofs.TypeMembers.{variable_is, applied_within, applied_types, applied_long, applied_inside, applied_is, type_at, types-step, types-fit, types_placed}
use Rattle.tf_models.proofs.structure.TypedStructure.+member_of.Goals as goal

pub member_of-constructor_table-table-requires : goal.member_of-constructor_table-table-requires
member_of-constructor_table-table-requires t c =
    applied_within c.args.signature.now c.args.self.now c.requires.fit
    (length (listed c.args.members)) (listed c.args.members) c.args.ty.now c.in-Apply.c
    c.in-Apply.types c.in-Apply.is c.requires.typed

pub member_of-place_of_types-at-requires : goal.member_of-place_of_types-at-requires
member_of-place_of_types-at-requires t c = (
  search (rules, the_lemmas),
  (
    c.requires.fit,
    (
      c.requires.members,
      (
        rw c.as_slice.ensures
            (applied_types c.args.signature.now c.args.self.now c.requires.fit
            (length (listed c.args.members)) (listed c.args.members) c.args.ty.now c.in-Apply.c
            c.in-Apply.types c.in-Apply.is c.requires.typed),
        rw (c.as_slice.ensures, c.constructor_table-table.ensures)
            (omega (
              arith,
              applied_long c.args.signature.now c.args.self.now c.requires.fit
                  (length (listed c.args.members)) (listed c.args.members) c.args.ty.now
                  c.in-Apply.c c.in-Apply.types c.in-Apply.is c.requires.typed,
            )),
      ),
    ),
  ),
)

pub member_of-bounds-table-at : goal.member_of-bounds-table-at
member_of-bounds-table-at t c =
    applied_inside c.args.signature.now c.args.self.now c.requires.fit
    (length (listed c.args.members)) (listed c.args.members) c.args.ty.now c.in-Apply.c
    c.in-Apply.types c.in-Apply.is c.requires.typed c.place_of_types-at.result
    c.constructor_table-table.result.now c.constructor_table-table.ensures
    (rw c.as_slice.ensures at c.place_of_types-at.ensures)

pub member_of-offset_bounds-table-at : goal.member_of-offset_bounds-table-at
member_of-offset_bounds-table-at t c =
    omega (
      arith,
      applied_inside c.args.signature.now c.args.self.now c.requires.fit
          (length (listed c.args.members)) (listed c.args.members) c.args.ty.now c.in-Apply.c
          c.in-Apply.types c.in-Apply.is c.requires.typed c.place_of_types-at.result
          c.constructor_table-table.result.now c.constructor_table-table.ensures
          (rw c.as_slice.ensures at c.place_of_types-at.ensures),
    )

pub member_of-returns-in-Apply : goal.member_of-returns-in-Apply
member_of-returns-in-Apply t c =
    applied_is c.args.signature.now c.args.self.now c.requires.fit (length (listed c.args.members))
    (listed c.args.members) c.args.ty.now c.in-Apply.c c.in-Apply.types c.in-Apply.is
    c.requires.typed c.place_of_types-at.result c.constructor_table-table.result.now
    c.constructor_table-table.ensures (rw c.as_slice.ensures at c.place_of_types-at.ensures)

pub member_of-returns-in-Var : goal.member_of-returns-in-Var
member_of-returns-in-Var t c =
    c.at.ensures ∙ variable_is c.args.self.now (listed c.args.members) c.args.ty.now c.in-Var.i
    c.in-Var.is

pub place_of_types-member_of-member-requires : goal.place_of_types-member_of-member-requires
place_of_types-member_of-member-requires t c = (
  search (rules, the_lemmas),
  (
    c.requires.fit,
    (
      c.requires.members,
      type_at c.args.signature.now (length (listed c.args.members)) c.loop-ty.ty-index
          c.args.types.now c.ty-item.result c.loop-ty-test.true c.ty-item.is c.requires.typed,
    ),
  ),
)

pub place_of_types-overflow_mul-at : goal.place_of_types-overflow_mul-at
place_of_types-overflow_mul-at t c =
    rw c.as_slice-count.ensures
    (omega (
      arith,
      c.requires.entries,
      types-fit c.args.signature.now c.args.self.now c.requires.fit (length (listed c.args.members))
          (listed c.args.members) c.args.types.now c.requires.typed c.requires.members.below
          c.loop-ty.ty-index c.loop-ty.at c.member_of-member.result c.ty-item.result
          c.loop-ty-test.true c.ty-item.is c.member_of-member.ensures c.loop-ty.invariant,
    ))

pub place_of_types-overflow_add-at : goal.place_of_types-overflow_add-at
place_of_types-overflow_add-at t c =
    rw c.as_slice-count.ensures
    (omega (
      arith,
      c.requires.entries,
      types-fit c.args.signature.now c.args.self.now c.requires.fit (length (listed c.args.members))
          (listed c.args.members) c.args.types.now c.requires.typed c.requires.members.below
          c.loop-ty.ty-index c.loop-ty.at c.member_of-member.result c.ty-item.result
          c.loop-ty-test.true c.ty-item.is c.member_of-member.ensures c.loop-ty.invariant,
    ))

pub place_of_types-loop-ty-preserved : goal.place_of_types-loop-ty-preserved
place_of_types-loop-ty-preserved t c =
    rw c.as_slice-count.ensures
    (types-step c.args.signature.now c.args.self.now c.requires.fit (length (listed c.args.members))
    (listed c.args.members) c.args.types.now c.requires.typed c.requires.members.below
    c.loop-ty.ty-index c.loop-ty.at c.member_of-member.result c.ty-item.result c.loop-ty-test.true
    c.ty-item.is c.member_of-member.ensures c.loop-ty.invariant)

pub place_of_types-returns : goal.place_of_types-returns
place_of_types-returns t c =
    types_placed c.args.signature.now c.args.self.now c.requires.fit
    (length (listed c.args.members)) (listed c.args.members) c.args.types.now c.requires.typed
    c.requires.members.below c.loop-ty.ty-index c.loop-ty.at (omega (arith, c.loop-ty-test.false))
    c.loop-ty.invariant
