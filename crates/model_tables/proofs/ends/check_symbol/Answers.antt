use Rattle.std.proofs.Common.{◌≡◌, ℕ, [], Some, length, sym, ap, ◌∙◌, subst}
use Rattle.std.specs.Prelude.{slice_index}
use Rattle.std.proofs.lemmas.Result.{err_from_is_err_and}
use Rattle.tf_core.specs.TypedTables.{TypedTables}
use Rattle.tf_models.specs.Reading.{tables}
use Rattle.model_tables.specs.Faults.{length_faults, range_faults, first_over}
use Rattle.model_tables.specs.Checks.{first_fault, Checks}
use Rattle.model_tables.specs.Typed.{symbol_entries, symbol_bounds}
use Rattle.model_tables.proofs.Answered.{in_64_bits-few}
use Rattle.model_tables.proofs.ItemEnds.{length_first, length_right, ranges_last}
use Rattle.model_tables.proofs.ends.check_symbol.Goals as goal

pub returns-in_err-check_length : goal.returns-in_err-check_length
returns-in_err-check_length c =
    let p = err_from_is_err_and c.from_residual-in_err-check_length.result
    c.from_residual-in_err-check_length.ensures.1 in
    let symbol = c.args.symbol.now in
    let fault = c.in_err-check_length.field-0.0 in
    let t : TypedTables = tables c.args.structure.now in
    let expected =
    c.in_ok-expected.ensures ∙ in_64_bits-few (symbol_entries t symbol) c.requires.small in
    rw (p.1, p.2) (λ other.
    length_first symbol.name (symbol_entries t symbol) (length c.args.entries.now)
    (first_over (λ i. slice_index (symbol_bounds t symbol) i) 0 c.args.entries.now) fault
    (subst (λ n. first_fault (length_faults n (symbol_entries t symbol)
    (length c.args.entries.now)) ≡ Some fault) c.as_slice-name.ensures
    (subst (λ n. first_fault (length_faults c.as_slice-name.result.now n
    (length c.args.entries.now)) ≡ Some fault) expected (c.in_err-check_length.ensures other))))

pub first_out_of_range-over-requires-clause-long : goal.first_out_of_range-over-requires-clause-long
first_out_of_range-over-requires-clause-long c =
    let t : TypedTables = tables c.args.structure.now in
    sym (length_right c.as_slice-name.result.now c.in_ok-expected.expected
    (length c.args.entries.now) c.in_ok-check_length.ensures)
    ∙ c.in_ok-expected.ensures
    ∙ in_64_bits-few (symbol_entries t c.args.symbol.now) c.requires.small

pub returns : goal.returns
returns c =
    let symbol = c.args.symbol.now in
    let t : TypedTables = tables c.args.structure.now in
    let expected =
    c.in_ok-expected.ensures ∙ in_64_bits-few (symbol_entries t symbol) c.requires.small in
    ranges_last symbol.name (symbol_entries t symbol) (length c.args.entries.now)
    (first_over (λ i. slice_index (symbol_bounds t symbol) i) 0 c.args.entries.now)
    c.check_range.result
    (subst (λ n. length_faults n (symbol_entries t symbol) (length c.args.entries.now) ≡ [])
    c.as_slice-name.ensures
    (subst (λ n. length_faults c.as_slice-name.result.now n (length c.args.entries.now) ≡ []) expected
    c.in_ok-check_length.ensures))
    (subst (λ n. Checks (range_faults n
    (first_over (λ i. slice_index (symbol_bounds t symbol) i) 0 c.args.entries.now))
    c.check_range.result) c.as_slice-name.ensures
    (subst (λ o. Checks (range_faults c.as_slice-name.result.now o) c.check_range.result)
    c.first_out_of_range-over.ensures c.check_range.ensures))
