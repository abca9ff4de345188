use Rattle.std.proofs.Common.{rules, ap, length, arith}
use Rattle.tf_core.specs.declared.term.Term.TheViews.{the_lemmas}
use Rattle.tf_models.proofs.Entries.{constructors_fit, application_read, parameters_fit, applied_terms, applied_block, start_fits, block_fits, applied_values, entry_within, entry_is, element_is}
use Rattle.tf_models.proofs.SymbolBlocks.{block_members, argument_formed}
use Rattle.tf_models.proofs.TermPlaces.{variable_bound, variable_value, application_value, term_at, as_many, terms-step, terms-fit, terms_placed}
use Rattle.tf_models.proofs.structure.TypedStructure.+value.Goals as goal

pub value-element-requires : goal.value-element-requires
value-element-requires t c =
    record {
      bound = variable_bound c.args.signature.now c.args.self.now c.args.env.now c.args.term.now
          c.requires.term c.in-Var.i c.in-Var.is;
    }

pub entry-place_of_types-number-requires-clause-fit :
    goal.entry-place_of_types-number-requires-clause-fit
entry-place_of_types-number-requires-clause-fit t c =
    constructors_fit c.args.signature.now c.args.self.now c.requires.ready.well_formed

pub entry-place_of_types-number-requires-clause-entries :
    goal.entry-place_of_types-number-requires-clause-entries
entry-place_of_types-number-requires-clause-entries t c =
    rw c.symbol_table-table.ensures
    (parameters_fit c.args.signature.now c.args.self.now c.requires.ready c.args.env.now c.args.f
    c.requires.applied.0 c.args.types.now c.args.terms.now c.requires.applied.1)

pub entry-block_start-start-requires-clause-block :
    goal.entry-block_start-start-requires-clause-block
entry-block_start-start-requires-clause-block t c =
    applied_block c.args.signature.now c.args.self.now c.requires.ready c.args.env.now c.args.f
    c.index-as_slice-f.result c.args.types.now c.args.terms.now
    (application_read c.args.signature.now c.args.self.now c.args.env.now c.args.f c.args.types.now
    c.args.terms.now c.as_slice.result.now c.index-as_slice-f.result c.requires.applied
    c.as_slice.ensures c.index-as_slice-f.is) c.place_of_types-number.result
    (rw c.members.ensures at c.place_of_types-number.ensures)

pub entry-block_start-start-requires-clause-entries :
    goal.entry-block_start-start-requires-clause-entries
entry-block_start-start-requires-clause-entries t c =
    rw c.symbol_table-table.ensures
    (start_fits c.args.signature.now c.args.self.now c.requires.ready c.args.env.now c.args.f
    c.index-as_slice-f.result c.args.types.now c.args.terms.now
    (application_read c.args.signature.now c.args.self.now c.args.env.now c.args.f c.args.types.now
    c.args.terms.now c.as_slice.result.now c.index-as_slice-f.result c.requires.applied
    c.as_slice.ensures c.index-as_slice-f.is) c.place_of_types-number.result
    (rw c.members.ensures at c.place_of_types-number.ensures))

pub entry-place_in_block-at-requires : goal.entry-place_in_block-at-requires
entry-place_in_block-at-requires t c =
    let read = application_read c.args.signature.now c.args.self.now c.args.env.now c.args.f
    c.args.types.now c.args.terms.now c.as_slice.result.now c.index-as_slice-f.result
    c.requires.applied c.as_slice.ensures c.index-as_slice-f.is in
    let placed = rw c.members.ensures at c.place_of_types-number.ensures in (
      search (rules, the_lemmas),
      (
        c.requires.ready,
        (
          applied_block c.args.signature.now c.args.self.now c.requires.ready c.args.env.now
              c.args.f c.index-as_slice-f.result c.args.types.now c.args.terms.now read
              c.place_of_types-number.result placed,
          (
            applied_terms c.args.signature.now c.args.self.now c.requires.ready c.args.env.now
                c.args.f c.index-as_slice-f.result c.args.types.now c.args.terms.now read,
            (
              applied_values c.args.signature.now c.args.self.now c.requires.ready c.args.env.now
                  c.args.f c.index-as_slice-f.result c.args.types.now c.args.terms.now read
                  c.place_of_types-number.result placed,
              rw c.symbol_table-table.ensures
                  (omega (
                    arith,
                    block_fits c.args.signature.now c.args.self.now c.requires.ready c.args.env.now
                        c.args.f c.index-as_slice-f.result c.args.types.now c.args.terms.now read
                        c.place_of_types-number.result placed,
                  )),
            ),
          ),
        ),
      ),
    )

pub place_in_block-bounds-types-i : goal.place_in_block-bounds-types-i
place_in_block-bounds-types-i t c =
    rw c.as_slice-types.ensures
    (omega (
      arith,
      c.loop-i-test.true,
      as_many c.args.signature.now c.args.self.now c.args.env.now c.args.symbol.now c.args.number
          c.requires.block c.args.terms.now c.requires.below,
    ))

pub place_in_block-size_of-size-requires-clause-members :
    goal.place_in_block-size_of-size-requires-clause-members
place_in_block-size_of-size-requires-clause-members t c =
    rw c.as_slice.ensures
    (block_members c.args.signature.now c.args.self.now c.args.symbol.now c.args.number
    c.requires.block)

pub place_in_block-size_of-size-requires-clause-typed :
    goal.place_in_block-size_of-size-requires-clause-typed
place_in_block-size_of-size-requires-clause-typed t c =
    rw c.as_slice.ensures
    (argument_formed c.args.signature.now c.args.self.now c.args.symbol.now c.args.number
    c.requires.block c.loop-i.i c.index-types-i.result (omega (
      arith,
      c.loop-i-test.true,
      as_many c.args.signature.now c.args.self.now c.args.env.now c.args.symbol.now c.args.number
          c.requires.block c.args.terms.now c.requires.below,
    ))
    (rw c.as_slice-types.ensures at c.index-types-i.is))

pub place_in_block-value-value-requires : goal.place_in_block-value-value-requires
place_in_block-value-value-requires t c = (
  search (rules, the_lemmas),
  (
    c.requires.ready,
    term_at c.args.signature.now c.args.self.now c.args.env.now c.args.terms.now c.loop-i.i
        c.index-terms-i.result c.requires.terms c.loop-i-test.true c.index-terms-i.is,
  ),
)

pub place_in_block-overflow_mul-at : goal.place_in_block-overflow_mul-at
place_in_block-overflow_mul-at t c =
    omega (
      arith,
      c.requires.entries,
      terms-fit c.args.signature.now c.args.self.now c.args.env.now c.args.symbol.now c.args.number
          c.requires.block c.args.terms.now c.requires.below c.loop-i.i c.loop-i.at
          c.size_of-size.result c.value-value.result c.index-types-i.result c.index-terms-i.result
          c.loop-i-test.true (rw c.as_slice-types.ensures at c.index-types-i.is) c.index-terms-i.is
          (rw c.as_slice.ensures at c.size_of-size.ensures) c.value-value.ensures.exact
          c.loop-i.invariant,
    )

pub place_in_block-overflow_add-at : goal.place_in_block-overflow_add-at
place_in_block-overflow_add-at t c =
    omega (
      arith,
      c.requires.entries,
      terms-fit c.args.signature.now c.args.self.now c.args.env.now c.args.symbol.now c.args.number
          c.requires.block c.args.terms.now c.requires.below c.loop-i.i c.loop-i.at
          c.size_of-size.result c.value-value.result c.index-types-i.result c.index-terms-i.result
          c.loop-i-test.true (rw c.as_slice-types.ensures at c.index-types-i.is) c.index-terms-i.is
          (rw c.as_slice.ensures at c.size_of-size.ensures) c.value-value.ensures.exact
          c.loop-i.invariant,
    )

pub place_in_block-loop-i-preserved : goal.place_in_block-loop-i-preserved
place_in_block-loop-i-preserved t c =
    terms-step c.args.signature.now c.args.self.now c.args.env.now c.args.symbol.now c.args.number
    c.requires.block c.args.terms.now c.requires.below c.loop-i.i c.loop-i.at c.size_of-size.result
    c.value-value.result c.index-types-i.result c.index-terms-i.result c.loop-i-test.true
    (rw c.as_slice-types.ensures at c.index-types-i.is) c.index-terms-i.is
    (rw c.as_slice.ensures at c.size_of-size.ensures) c.value-value.ensures.exact c.loop-i.invariant

pub place_in_block-returns : goal.place_in_block-returns
place_in_block-returns t c = record {
  exact = terms_placed c.args.signature.now c.args.self.now c.args.env.now c.args.symbol.now
      c.args.number c.requires.block c.args.terms.now c.requires.below c.loop-i.i c.loop-i.at
      (omega (arith, c.loop-i-test.false)) c.loop-i.invariant;
}

pub entry-bounds-table-start : goal.entry-bounds-table-start
entry-bounds-table-start t c =
    let read = application_read c.args.signature.now c.args.self.now c.args.env.now c.args.f
    c.args.types.now c.args.terms.now c.as_slice.result.now c.index-as_slice-f.result
    c.requires.applied c.as_slice.ensures c.index-as_slice-f.is in
    rw (c.symbol_table-table.ensures, c.block_start-start.ensures.exact)
    (entry_within c.args.signature.now c.args.self.now c.requires.ready c.args.env.now c.args.f
    c.index-as_slice-f.result c.args.types.now c.args.terms.now read c.place_of_types-number.result
    (rw c.members.ensures at c.place_of_types-number.ensures) c.place_in_block-at.result
    c.place_in_block-at.ensures.exact)

pub entry-offset_bounds-table-start : goal.entry-offset_bounds-table-start
entry-offset_bounds-table-start t c =
    let read = application_read c.args.signature.now c.args.self.now c.args.env.now c.args.f
    c.args.types.now c.args.terms.now c.as_slice.result.now c.index-as_slice-f.result
    c.requires.applied c.as_slice.ensures c.index-as_slice-f.is in
    omega (
      arith,
      ap length c.symbol_table-table.ensures,
      c.block_start-start.ensures.exact,
      entry_within c.args.signature.now c.args.self.now c.requires.ready c.args.env.now c.args.f
          c.index-as_slice-f.result c.args.types.now c.args.terms.now read
          c.place_of_types-number.result (rw c.members.ensures at c.place_of_types-number.ensures)
          c.place_in_block-at.result c.place_in_block-at.ensures.exact,
    )

pub entry-overflow_add-result : goal.entry-overflow_add-result
entry-overflow_add-result t c =
    let read = application_read c.args.signature.now c.args.self.now c.args.env.now c.args.f
    c.args.types.now c.args.terms.now c.as_slice.result.now c.index-as_slice-f.result
    c.requires.applied c.as_slice.ensures c.index-as_slice-f.is in
    omega (
      arith,
      ap length c.symbol_table-table.ensures,
      c.block_start-start.ensures.exact,
      entry_within c.args.signature.now c.args.self.now c.requires.ready c.args.env.now c.args.f
          c.index-as_slice-f.result c.args.types.now c.args.terms.now read
          c.place_of_types-number.result (rw c.members.ensures at c.place_of_types-number.ensures)
          c.place_in_block-at.result c.place_in_block-at.ensures.exact,
    )

pub entry-returns : goal.entry-returns
entry-returns t c =
    let read = application_read c.args.signature.now c.args.self.now c.args.env.now c.args.f
    c.args.types.now c.args.terms.now c.as_slice.result.now c.index-as_slice-f.result
    c.requires.applied c.as_slice.ensures c.index-as_slice-f.is in
    record {
      exact = rw c.block_start-start.ensures.exact
          (entry_is c.args.signature.now c.args.self.now c.requires.ready c.args.env.now c.args.f
          c.index-as_slice-f.result c.args.types.now c.args.terms.now read
          c.place_of_types-number.result (rw c.members.ensures at c.place_of_types-number.ensures)
          c.place_in_block-at.result c.place_in_block-at.ensures.exact
          c.symbol_table-table.result.now c.symbol_table-table.ensures);
    }

pub value-returns-in-Var : goal.value-returns-in-Var
value-returns-in-Var t c =
    let is = variable_value c.args.signature.now c.args.self.now c.args.env.now c.args.term.now
    c.requires.term c.in-Var.i c.element.result c.in-Var.is c.element.ensures.exact in
    record {
      exact = is;
      element = element_is c.args.signature.now c.args.self.now c.requires.ready c.args.env.now
          c.args.term.now c.element.result is;
    }

pub value-returns-in-Apply : goal.value-returns-in-Apply
value-returns-in-Apply t c =
    let is = application_value c.args.signature.now c.args.self.now c.args.env.now c.args.term.now
    c.in-Apply.f c.entry.result c.in-Apply.types c.in-Apply.terms c.in-Apply.is
    (rw (c.as_slice.ensures, c.as_slice-in-Apply.ensures) at c.entry.ensures.exact) in
    record {
      exact = is;
      element = element_is c.args.signature.now c.args.self.now c.requires.ready c.args.env.now
          c.args.term.now c.entry.result is;
    }
