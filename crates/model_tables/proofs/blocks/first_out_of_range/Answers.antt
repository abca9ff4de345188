use Rattle.std.proofs.Common.{◌≡◌, ◌+◌, ◌-◌, length, drop, sym, ap, ◌∙◌, arith}
use Rattle.std.specs.Prelude.{slice_index}
use Rattle.tf_models.specs.Reading.{tables}
use Rattle.tf_models.specs.Fit.{length_at}
use Rattle.model_tables.specs.Faults.{first_over}
use Rattle.model_tables.specs.Typed.{symbol_bounds}
use Rattle.model_tables.proofs.BlockBounds.{one_more, this_block, some_entries, block_inside}
use Rattle.model_tables.proofs.BlockBounds.{next_start, walks_on, walk_stops, number_small}
use Rattle.model_tables.proofs.blocks.first_out_of_range.Goals as goal

pub block_length-requires : goal.block_length-requires
block_length-requires c = record {
  block = this_block c.args.signature.now c.args.structure.now c.args.symbol.now c.requires.typed
      c.requires.constructors c.requires.few c.args.entries.now c.requires.long c.walk.start
      c.walk.number c.walk.invariant.start_is c.walk.invariant.known c.walk-test.true;
}

pub overflow_add-end : goal.overflow_add-end
overflow_add-end c =
    let inside = block_inside c.args.signature.now c.args.structure.now c.args.symbol.now c.requires.typed
    c.requires.constructors c.requires.few c.args.entries.now c.requires.long c.walk.start
    c.walk.number c.walk.invariant.start_is c.walk.invariant.known c.walk-test.true in
    let here : c.block_length.result
    ≡ length_at (tables c.args.structure.now) c.args.symbol.now c.walk.number =
    omega (arith, c.block_length.ensures.exact, inside) in
    omega (arith, here, inside)

pub block_bound-bound-requires : goal.block_bound-bound-requires
block_bound-bound-requires c = record {
  block = this_block c.args.signature.now c.args.structure.now c.args.symbol.now c.requires.typed
      c.requires.constructors c.requires.few c.args.entries.now c.requires.long c.walk.start
      c.walk.number c.walk.invariant.start_is c.walk.invariant.known c.walk-test.true;
}

pub slice_bounds-first_over-end : goal.slice_bounds-first_over-end
slice_bounds-first_over-end c =
    let inside = block_inside c.args.signature.now c.args.structure.now c.args.symbol.now c.requires.typed
    c.requires.constructors c.requires.few c.args.entries.now c.requires.long c.walk.start
    c.walk.number c.walk.invariant.start_is c.walk.invariant.known c.walk-test.true in
    let here : c.block_length.result
    ≡ length_at (tables c.args.structure.now) c.args.symbol.now c.walk.number =
    omega (arith, c.block_length.ensures.exact, inside) in
    omega (arith, here, inside)

pub returns-then-is_some : goal.returns-then-is_some
returns-then-is_some c =
    let inside = block_inside c.args.signature.now c.args.structure.now c.args.symbol.now c.requires.typed
    c.requires.constructors c.requires.few c.args.entries.now c.requires.long c.walk.start
    c.walk.number c.walk.invariant.start_is c.walk.invariant.known c.walk-test.true in
    let here : c.block_length.result
    ≡ length_at (tables c.args.structure.now) c.args.symbol.now c.walk.number =
    omega (arith, c.block_length.ensures.exact, inside) in
    let same : c.walk.start + c.block_length.result - c.walk.start
    ≡ length_at (tables c.args.structure.now) c.args.symbol.now c.walk.number =
    omega (arith, here) in
    walk_stops c.args.signature.now c.args.structure.now c.args.symbol.now c.requires.typed
    c.requires.constructors c.requires.few c.args.entries.now c.requires.long c.walk.start
    c.walk.number c.walk.invariant.start_is c.walk.invariant.known c.walk-test.true
    _ _ c.first_over-over.result same c.block_bound-bound.ensures
    (c.first_over-over.ensures c.walk.start) (sym c.is_some.ensures ∙ c.if-is_some.true)
    ∙ sym c.walk.invariant.clean

pub overflow_add-number : goal.overflow_add-number
overflow_add-number c =
    omega (
      arith,
      number_small c.args.signature.now c.args.structure.now c.args.symbol.now c.requires.typed
          c.requires.constructors c.requires.few c.args.entries.now c.requires.long c.walk.start
          c.walk.number c.walk.invariant.start_is c.walk.invariant.known c.walk-test.true,
    )

pub walk-smaller : goal.walk-smaller
walk-smaller c =
    let inside = block_inside c.args.signature.now c.args.structure.now c.args.symbol.now c.requires.typed
    c.requires.constructors c.requires.few c.args.entries.now c.requires.long c.walk.start
    c.walk.number c.walk.invariant.start_is c.walk.invariant.known c.walk-test.true in
    let here : c.block_length.result
    ≡ length_at (tables c.args.structure.now) c.args.symbol.now c.walk.number =
    omega (arith, c.block_length.ensures.exact, inside) in
    omega (
      arith,
      here,
      inside,
      some_entries c.args.signature.now c.args.structure.now c.args.symbol.now c.requires.typed
          c.requires.constructors c.requires.few c.args.entries.now c.requires.long c.walk.start
          c.walk.number c.walk.invariant.start_is c.walk.invariant.known c.walk-test.true,
    )

pub walk-preserved : goal.walk-preserved
walk-preserved c =
    let inside = block_inside c.args.signature.now c.args.structure.now c.args.symbol.now c.requires.typed
    c.requires.constructors c.requires.few c.args.entries.now c.requires.long c.walk.start
    c.walk.number c.walk.invariant.start_is c.walk.invariant.known c.walk-test.true in
    let here : c.block_length.result
    ≡ length_at (tables c.args.structure.now) c.args.symbol.now c.walk.number =
    omega (arith, c.block_length.ensures.exact, inside) in
    let same : c.walk.start + c.block_length.result - c.walk.start
    ≡ length_at (tables c.args.structure.now) c.args.symbol.now c.walk.number =
    omega (arith, here) in
    record {
      start_is =
          ap (λ n. c.walk.start + n) here
          ∙ next_start c.args.signature.now c.args.structure.now c.args.symbol.now c.requires.typed
          c.requires.constructors c.requires.few c.args.entries.now c.requires.long c.walk.start
          c.walk.number c.walk.invariant.start_is c.walk.invariant.known c.walk-test.true;
      known = omega (
        arith,
        one_more c.args.signature.now c.args.structure.now c.args.symbol.now c.requires.typed
            c.requires.constructors c.requires.few c.args.entries.now c.requires.long c.walk.start
            c.walk.number c.walk.invariant.start_is c.walk.invariant.known c.walk-test.true,
      );
      clean =
          c.walk.invariant.clean
          ∙ walks_on c.args.signature.now c.args.structure.now c.args.symbol.now c.requires.typed
          c.requires.constructors c.requires.few c.args.entries.now c.requires.long c.walk.start
          c.walk.number c.walk.invariant.start_is c.walk.invariant.known c.walk-test.true
          _ _ c.first_over-over.result same c.block_bound-bound.ensures
          (c.first_over-over.ensures c.walk.start) (sym c.is_some.ensures ∙ c.if-is_some.false)
          ∙ ap (λ n. first_over
          (λ i. slice_index (symbol_bounds (tables c.args.structure.now) c.args.symbol.now) i)
          (c.walk.start + n) (drop (c.walk.start + n) c.args.entries.now)) (sym here);
    }
