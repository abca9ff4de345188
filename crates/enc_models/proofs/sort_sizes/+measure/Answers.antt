use Rattle.std.proofs.Common.{rules, [], length, slice_index, refl, ap, ◌∙◌, arith}
use Rattle.tf_core.specs.declared.ty.Ty.TheViews.{the_lemmas}
use Rattle.tf_models.proofs.TypeMembers.{applied_within, applied_types, applied_long, applied_inside, applied_is, member_below, type_at, types-step, types-fit, types_placed}
use Rattle.enc_models.proofs.SortSizes.{table_read, measured_application, types-more}
use Rattle.enc_models.proofs.sort_sizes.+measure.Goals as goal

pub measure-measure_all-parts-requires : goal.measure-measure_all-parts-requires
measure-measure_all-parts-requires t c =
    let g = c.args.signature.now in
    let s = c.args.model.now in
    let within = applied_within g s c.requires.fit 0 [] c.args.ty.now c.in-Apply.c c.in-Apply.types
    c.in-Apply.is c.requires.closed in
    let table = table_read s.constructors c.as_slice.result.now c.in-Apply.c
    c.as_slice-table.result.now c.index-as_slice-c.result within c.as_slice.ensures
    c.index-as_slice-c.is c.as_slice-table.ensures in (
      search (rules, the_lemmas),
      (
        c.requires.fit,
        (
          rw c.as_slice-in-Apply.ensures
              (applied_types g s c.requires.fit 0 [] c.args.ty.now c.in-Apply.c c.in-Apply.types
              c.in-Apply.is c.requires.closed),
          rw c.as_slice-in-Apply.ensures
              (omega (
                arith,
                ap length table,
                applied_long g s c.requires.fit 0 [] c.args.ty.now c.in-Apply.c c.in-Apply.types
                    c.in-Apply.is c.requires.closed,
              )),
        ),
      ),
    )

pub measure-bounds-table-parts : goal.measure-bounds-table-parts
measure-bounds-table-parts t c =
    let g = c.args.signature.now in
    let s = c.args.model.now in
    let within = applied_within g s c.requires.fit 0 [] c.args.ty.now c.in-Apply.c c.in-Apply.types
    c.in-Apply.is c.requires.closed in
    let table = table_read s.constructors c.as_slice.result.now c.in-Apply.c
    c.as_slice-table.result.now c.index-as_slice-c.result within c.as_slice.ensures
    c.index-as_slice-c.is c.as_slice-table.ensures in
    applied_inside g s c.requires.fit 0 [] c.args.ty.now c.in-Apply.c c.in-Apply.types
    c.in-Apply.is c.requires.closed c.measure_all-parts.result.place c.as_slice-table.result.now
    table (rw c.as_slice-in-Apply.ensures at c.measure_all-parts.ensures.placed)

pub measure-offset_bounds-table-parts : goal.measure-offset_bounds-table-parts
measure-offset_bounds-table-parts t c =
    let g = c.args.signature.now in
    let s = c.args.model.now in
    let within = applied_within g s c.requires.fit 0 [] c.args.ty.now c.in-Apply.c c.in-Apply.types
    c.in-Apply.is c.requires.closed in
    let table = table_read s.constructors c.as_slice.result.now c.in-Apply.c
    c.as_slice-table.result.now c.index-as_slice-c.result within c.as_slice.ensures
    c.index-as_slice-c.is c.as_slice-table.ensures in
    let inside = applied_inside g s c.requires.fit 0 [] c.args.ty.now c.in-Apply.c
    c.in-Apply.types c.in-Apply.is c.requires.closed c.measure_all-parts.result.place
    c.as_slice-table.result.now table
    (rw c.as_slice-in-Apply.ensures at c.measure_all-parts.ensures.placed) in
    omega (arith, inside, c.as_slice-table.type_inv)

pub measure-bounds-as_slice-member : goal.measure-bounds-as_slice-member
measure-bounds-as_slice-member t c =
    let g = c.args.signature.now in
    let s = c.args.model.now in
    let within = applied_within g s c.requires.fit 0 [] c.args.ty.now c.in-Apply.c c.in-Apply.types
    c.in-Apply.is c.requires.closed in
    let table = table_read s.constructors c.as_slice.result.now c.in-Apply.c
    c.as_slice-table.result.now c.index-as_slice-c.result within c.as_slice.ensures
    c.index-as_slice-c.is c.as_slice-table.ensures in
    let is = applied_is g s c.requires.fit 0 [] c.args.ty.now c.in-Apply.c c.in-Apply.types
    c.in-Apply.is c.requires.closed c.measure_all-parts.result.place c.as_slice-table.result.now
    table (rw c.as_slice-in-Apply.ensures at c.measure_all-parts.ensures.placed) in
    rw (c.as_slice-in-Apply-2.ensures, is)
    (member_below g s c.requires.fit 0 [] c.args.ty.now c.requires.closed tt)

pub measure-returns : goal.measure-returns
measure-returns t c =
    let g = c.args.signature.now in
    let s = c.args.model.now in
    let within = applied_within g s c.requires.fit 0 [] c.args.ty.now c.in-Apply.c c.in-Apply.types
    c.in-Apply.is c.requires.closed in
    let table = table_read s.constructors c.as_slice.result.now c.in-Apply.c
    c.as_slice-table.result.now c.index-as_slice-c.result within c.as_slice.ensures
    c.index-as_slice-c.is c.as_slice-table.ensures in
    let member = slice_index c.as_slice-table.result.now c.measure_all-parts.result.place in
    let own = slice_index c.as_slice-in-Apply-2.result.now member in
    measured_application s c.args.ty.now c.in-Apply.c c.in-Apply.types member own
    c.measure_all-parts.result.greatest c.max.result c.in-Apply.is
    (applied_is g s c.requires.fit 0 [] c.args.ty.now c.in-Apply.c c.in-Apply.types
    c.in-Apply.is c.requires.closed c.measure_all-parts.result.place c.as_slice-table.result.now
    table (rw c.as_slice-in-Apply.ensures at c.measure_all-parts.ensures.placed))
    (ap (λ sizes. slice_index sizes member) c.as_slice-in-Apply-2.ensures)
    (rw c.as_slice-in-Apply.ensures at c.measure_all-parts.ensures.greatest)
    c.max.ensures

pub measure_all-measure-member-requires : goal.measure_all-measure-member-requires
measure_all-measure-member-requires t c = (
  search (rules, the_lemmas),
  (
    c.requires.fit,
    type_at c.args.signature.now 0 c.loop-ty.ty-index c.args.types.now c.ty-item.result
        c.loop-ty-test.true c.ty-item.is c.requires.closed,
  ),
)

pub measure_all-overflow_mul-place : goal.measure_all-overflow_mul-place
measure_all-overflow_mul-place t c =
    rw c.as_slice-count.ensures
    (omega (
      arith,
      c.requires.entries,
      types-fit c.args.signature.now c.args.model.now c.requires.fit 0 [] c.args.types.now
          c.requires.closed tt c.loop-ty.ty-index c.loop-ty.place c.measure-member.result.member
          c.ty-item.result c.loop-ty-test.true c.ty-item.is c.measure-member.ensures.member_is
          c.loop-ty.invariant.placed,
    ))

pub measure_all-overflow_add-place : goal.measure_all-overflow_add-place
measure_all-overflow_add-place t c =
    rw c.as_slice-count.ensures
    (omega (
      arith,
      c.requires.entries,
      types-fit c.args.signature.now c.args.model.now c.requires.fit 0 [] c.args.types.now
          c.requires.closed tt c.loop-ty.ty-index c.loop-ty.place c.measure-member.result.member
          c.ty-item.result c.loop-ty-test.true c.ty-item.is c.measure-member.ensures.member_is
          c.loop-ty.invariant.placed,
    ))

pub measure_all-loop-ty-preserved : goal.measure_all-loop-ty-preserved
measure_all-loop-ty-preserved t c = record {
  placed = rw c.as_slice-count.ensures
      (types-step c.args.signature.now c.args.model.now c.requires.fit 0 [] c.args.types.now
      c.requires.closed tt c.loop-ty.ty-index c.loop-ty.place c.measure-member.result.member
      c.ty-item.result c.loop-ty-test.true c.ty-item.is c.measure-member.ensures.member_is
      c.loop-ty.invariant.placed);
  greatest = types-more c.args.model.now c.args.types.now c.loop-ty.ty-index c.ty-item.result
      c.loop-ty-test.true c.ty-item.is c.loop-ty.found c.measure-member.result.greatest
      c.max-found.result c.loop-ty.invariant.greatest c.measure-member.ensures.greatest_is
      c.max-found.ensures;
}

pub measure_all-returns-clause-placed : goal.measure_all-returns-clause-placed
measure_all-returns-clause-placed t c =
    types_placed c.args.signature.now c.args.model.now c.requires.fit 0 [] c.args.types.now
    c.requires.closed tt c.loop-ty.ty-index c.loop-ty.place (omega (arith, c.loop-ty-test.false))
    c.loop-ty.invariant.placed
