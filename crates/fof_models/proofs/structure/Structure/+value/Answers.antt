use Rattle.std.proofs.Common.{rules, sym, ap, arith, length}
use Rattle.std.proofs.lemmas.List.{length-map}
use Rattle.enc_base.proofs.Placing.{placed_within}
use Rattle.fof_models.specs.declared.formula.FofTerm.TheViews.{the_lemmas}
use Rattle.fof_models.proofs.Places.{placed_step, placed_fits, term_sound_at, symbol_within, table_length, table_entry, apply_sound, variable_sound, variable_value, apply_value, entry_is}
use Rattle.fof_models.proofs.structure.Structure.+value.Goals as goal

pub value-element-requires : goal.value-element-requires
value-element-requires t c =
    record { bound = variable_sound _ _ _ _ c.in-Var.is c.requires.sound }

pub value-applied-requires : goal.value-applied-requires
value-applied-requires t c =
    let sound = apply_sound _ _ _ _ _ c.in-Apply.is c.requires.sound in (
      search (rules, the_lemmas),
      (c.requires.ready, (rw c.as_slice.ensures sound.0, rw c.as_slice.ensures sound.1)),
    )

pub value-returns-in-Var-clause-exact : goal.value-returns-in-Var-clause-exact
value-returns-in-Var-clause-exact t c =
    variable_value _ _ _ _ _ c.in-Var.is
    (variable_sound _ _ _ _ c.in-Var.is c.requires.sound) c.element.ensures.exact

pub value-returns-in-Var-clause-within : goal.value-returns-in-Var-clause-within
value-returns-in-Var-clause-within t c =
    rw c.element.ensures.exact
    (c.requires.ready.elements.below _
    (omega (arith, variable_sound _ _ _ _ c.in-Var.is c.requires.sound)))

pub value-returns-in-Apply-clause-exact : goal.value-returns-in-Apply-clause-exact
value-returns-in-Apply-clause-exact t c =
    apply_value c.args.self.now c.args.term.now c.in-Apply.f c.applied.result c.in-Apply.terms
    c.args.env.now.items c.in-Apply.is (rw c.as_slice.ensures at c.applied.ensures.exact)

pub applied-table-table-requires : goal.applied-table-table-requires
applied-table-table-requires t c =
    symbol_within _ _ _ _ _ c.requires.ready.well_formed c.requires.symbol

pub applied-place_in-at-requires : goal.applied-place_in-at-requires
applied-place_in-at-requires t c = (
  search (rules, the_lemmas),
  (
    c.requires.ready,
    (
      rw c.table-table.ensures
          (table_length _ _ _ _ _ c.requires.ready.well_formed c.requires.symbol),
      c.requires.sound,
    ),
  ),
)

pub applied-offset_bounds-table-at : goal.applied-offset_bounds-table-at
applied-offset_bounds-table-at t c =
    omega (
      arith,
      placed_within _ _ _ c.place_in-at.ensures,
      table_length _ _ _ _ _ c.requires.ready.well_formed c.requires.symbol,
      ap length c.table-table.ensures,
    )

pub applied-bounds-table-at : goal.applied-bounds-table-at
applied-bounds-table-at t c =
    omega (
      arith,
      placed_within _ _ _ c.place_in-at.ensures,
      table_length _ _ _ _ _ c.requires.ready.well_formed c.requires.symbol,
      ap length c.table-table.ensures,
    )

pub applied-returns-clause-exact : goal.applied-returns-clause-exact
applied-returns-clause-exact t c =
    entry_is c.args.self.now c.args.f c.place_in-at.result _ _ _ c.table-table.ensures
    (sym (length-map _ _)) c.place_in-at.ensures

pub applied-returns-clause-within : goal.applied-returns-clause-within
applied-returns-clause-within t c =
    rw c.table-table.ensures
    (table_entry _ _ _ _ _ c.requires.ready.well_formed c.requires.symbol _
    (omega (
      arith,
      placed_within _ _ _ c.place_in-at.ensures,
      table_length _ _ _ _ _ c.requires.ready.well_formed c.requires.symbol,
    )))

pub place_in-value-value-requires : goal.place_in-value-value-requires
place_in-value-value-requires t c = (
  search (rules, the_lemmas),
  (
    c.requires.ready,
    term_sound_at _ _ _ _ _ c.loop-term-test.true c.term-item.is c.requires.sound,
  ),
)

pub place_in-overflow_mul-at : goal.place_in-overflow_mul-at
place_in-overflow_mul-at t c =
    omega (
      arith,
      placed_fits _ _ _ _ _ _ c.loop-term.invariant c.value-value.ensures.within c.loop-term-test.true,
      c.requires.entries,
    )

pub place_in-overflow_add-at : goal.place_in-overflow_add-at
place_in-overflow_add-at t c =
    omega (
      arith,
      placed_fits _ _ _ _ _ _ c.loop-term.invariant c.value-value.ensures.within c.loop-term-test.true,
      c.requires.entries,
    )

pub place_in-loop-term-preserved : goal.place_in-loop-term-preserved
place_in-loop-term-preserved t c =
    placed_step _ _ _ _ _ _ _ c.loop-term-test.true c.term-item.is c.loop-term.invariant
    c.value-value.ensures.exact c.value-value.ensures.within
