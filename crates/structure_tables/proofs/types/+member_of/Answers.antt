use Rattle.std.proofs.Common.{rules, ◌∙◌, length}
use Rattle.tf_core.specs.declared.ty.Ty.TheViews.{the_lemmas}
use Rattle.tf_models.proofs.TypeMembers.{type_at}
use Rattle.structure_tables.proofs.MembersOfTypes.{member_of-variable, member_of-apply, arguments_are_members}
use Rattle.structure_tables.proofs.types.+member_of.Goals as goal

pub member_of_type-constructor_value-requires : goal.member_of_type-constructor_value-requires
member_of_type-constructor_value-requires g t c = record {
  ready = c.requires.ready;
  within = arguments_are_members (g.S.TypedSource.signature c.args.source.now)
      (g.S.TypedSource.structure c.args.source.now) c.requires.fits (length c.args.members.now)
      c.args.members.now c.requires.members c.args.ty.now c.in-Apply.c c.in-Apply.types
      c.as_slice-in-Apply.result.now c.in-Apply.is c.requires.typed
      (c.as_slice-in-Apply.ensures ∙ rw c.as_slice.ensures at c.in_ok-arguments-in-Apply.ensures);
}

pub member_of_type-returns-in-Var : goal.member_of_type-returns-in-Var
member_of_type-returns-in-Var g t c =
    member_of-variable (g.S.TypedSource.structure c.args.source.now) c.args.members.now
    c.args.ty.now c.in-Var.i c.in-Var.is

pub member_of_type-returns-in_ok-arguments-in-Apply : goal.member_of_type-returns-in_ok-arguments-in-Apply
member_of_type-returns-in_ok-arguments-in-Apply g t c =
    c.constructor_value.ensures
    ∙ member_of-apply (g.S.TypedSource.structure c.args.source.now) c.args.members.now
    c.as_slice-in-Apply.result.now c.args.ty.now c.in-Apply.c c.in-Apply.types c.in-Apply.is
    (c.as_slice-in-Apply.ensures ∙ rw c.as_slice.ensures at c.in_ok-arguments-in-Apply.ensures)

pub members_of_types-member_of_type-requires : goal.members_of_types-member_of_type-requires
members_of_types-member_of_type-requires g t c = λ κs lives. (
  search (rules, the_lemmas),
  (
    lives,
    (
      c.requires.ready,
      (
        c.requires.fits,
        (
          c.requires.members,
          type_at (g.S.TypedSource.signature c.args.source.now) (length c.args.members.now)
              c.loop-ty.ty-index c.args.types.now c.ty-item.result c.loop-ty-test.true c.ty-item.is
              c.requires.typed,
        ),
      ),
    ),
  ),
)
