use Rattle.std.proofs.Common.{rules, sym, subst, length, map}
use Rattle.std.proofs.lemmas.Bool.{lt-ltb, le-ltb}
use Rattle.tf_core.specs.declared.ty.Ty.TheViews.{the_lemmas}
use Rattle.tf_models.proofs.TypeMembers.{type_at}
use Rattle.structure_tables.specs.CountedWays.{AreWays}
use Rattle.structure_tables.specs.ParameterGroups.{is_kept}
use Rattle.structure_tables.specs.TypeWays.{type_ways}
use Rattle.structure_tables.proofs.MembersOfTypes.{member_below, member_of-variable}
use Rattle.structure_tables.proofs.CountedWays.{AreWays-fit}
use Rattle.structure_tables.proofs.TypeWays.{ways-kept, ways-once, ways-application, application_within, ways_more}
use Rattle.structure_tables.proofs.type_ways.+ways_of.Goals as goal

pub ways_of_type-returns-then-uses-place-gt1 : goal.ways_of_type-returns-then-uses-place-gt1
ways_of_type-returns-then-uses-place-gt1 g t c =
    let s = g.S.TypedSource.structure c.args.source.now in
    let kept = is_kept c.args.uses.now in
    let members = c.args.members.now in
    let ty = c.args.ty.now in
    ways-kept s kept members ty c.args.count c.in-Var.i c.requires.count c.in-Var.is
    (lt-ltb 1 _ c.if-uses-place-gt1.true)
    (member_of-variable s members ty c.in-Var.i c.in-Var.is)
    (member_below (g.S.TypedSource.signature c.args.source.now) s c.requires.fits (length members)
    members c.requires.members ty c.requires.typed)

pub ways_of_type-returns-in_ok-ways-in-Var : goal.ways_of_type-returns-in_ok-ways-in-Var
ways_of_type-returns-in_ok-ways-in-Var g t c =
    ways-once (g.S.TypedSource.structure c.args.source.now) (is_kept c.args.uses.now)
    c.args.members.now c.args.ty.now c.args.count c.in-Var.i c.in_ok-ways-in-Var.ways c.in-Var.is
    (le-ltb 1 _ c.if-uses-place-gt1.false) c.in_ok-ways-in-Var.ensures

pub ways_of_types-loop-ty-preserved : goal.ways_of_types-loop-ty-preserved
ways_of_types-loop-ty-preserved g t c =
    ways_more c.args.count c.loop-ty.parts _ c.args.types.now c.loop-ty.ty-index c.ty-item.result
    c.in_ok-ways_of_type.field-0
    (type_ways (g.S.TypedSource.structure c.args.source.now) (is_kept c.args.uses.now)
    c.args.members.now)
    c.loop-ty-test.true c.ty-item.is c.in_ok-push.ensures.ok c.loop-ty.invariant
    c.in_ok-ways_of_type.ensures

pub ways_of_type-returns-in_ok-ways-in-Apply : goal.ways_of_type-returns-in_ok-ways-in-Apply
ways_of_type-returns-in_ok-ways-in-Apply g t c =
    let s = g.S.TypedSource.structure c.args.source.now in
    let ways = map (type_ways s (is_kept c.args.uses.now) c.args.members.now) c.in-Apply.types in
    ways-application s (is_kept c.args.uses.now) c.args.members.now c.args.ty.now c.args.count
    c.in-Apply.c c.in-Apply.types c.as_slice-in-Apply.result.now c.requires.count c.in-Apply.is
    c.in_ok-ways-in-Apply.ways
    (subst (λ parts. AreWays c.args.count parts ways) (sym c.as_slice-in-Apply.ensures)
    (rw c.as_slice.ensures at c.in_ok-parts-in-Apply.ensures))
    c.in_ok-ways-in-Apply.ensures

pub ways_of_type-ways_of_application-requires-clause-parts : goal.ways_of_type-ways_of_application-requires-clause-parts
ways_of_type-ways_of_application-requires-clause-parts g t c =
    let ways = map (type_ways (g.S.TypedSource.structure c.args.source.now)
    (is_kept c.args.uses.now) c.args.members.now) c.in-Apply.types in
    AreWays-fit c.args.count c.as_slice-in-Apply.result.now ways
    (subst (λ parts. AreWays c.args.count parts ways) (sym c.as_slice-in-Apply.ensures)
    (rw c.as_slice.ensures at c.in_ok-parts-in-Apply.ensures))

pub ways_of_type-ways_of_application-requires-clause-within : goal.ways_of_type-ways_of_application-requires-clause-within
ways_of_type-ways_of_application-requires-clause-within g t c =
    let s = g.S.TypedSource.structure c.args.source.now in
    let ways = map (type_ways s (is_kept c.args.uses.now) c.args.members.now) c.in-Apply.types in
    application_within (g.S.TypedSource.signature c.args.source.now) s (is_kept c.args.uses.now)
    c.args.members.now c.args.ty.now c.args.count c.in-Apply.c c.in-Apply.types
    c.as_slice-in-Apply.result.now c.requires.count c.in-Apply.is c.requires.typed
    (subst (λ parts. AreWays c.args.count parts ways) (sym c.as_slice-in-Apply.ensures)
    (rw c.as_slice.ensures at c.in_ok-parts-in-Apply.ensures))

pub ways_of_types-ways_of_type-requires : goal.ways_of_types-ways_of_type-requires
ways_of_types-ways_of_type-requires g t c = λ κs lives. (
  search (rules, the_lemmas),
  (
    lives,
    (
      c.requires.ready,
      (
        c.requires.fits,
        (
          c.requires.count,
          (
            c.requires.members,
            (
              c.requires.uses,
              type_at (g.S.TypedSource.signature c.args.source.now) (length c.args.members.now)
                  c.loop-ty.ty-index c.args.types.now c.ty-item.result c.loop-ty-test.true
                  c.ty-item.is c.requires.typed,
            ),
          ),
        ),
      ),
    ),
  ),
)
