use Rattle.std.proofs.Common.{◌≡◌, ℕ, [], Some, length, replicate, ap, ◌∙◌, subst}
use Rattle.std.proofs.lemmas.Result.{err_from_is_err_and}
use Rattle.enc_base.specs.Tables.{tuple_count}
use Rattle.model_tables.specs.Faults.{length_faults, range_faults, first_over}
use Rattle.model_tables.specs.Checks.{first_fault, Checks}
use Rattle.model_tables.proofs.Answered.{in_64_bits-few}
use Rattle.model_tables.proofs.ItemEnds.{length_first, ranges_last}
use Rattle.model_tables.proofs.ends.check_constructor.Goals as goal

pub returns-in_err-check_length : goal.returns-in_err-check_length
returns-in_err-check_length c =
    let p = err_from_is_err_and c.from_residual.result c.from_residual.ensures.1 in
    let constructor = c.args.constructor.now in
    let fault = c.in_err-check_length.field-0.0 in
    let count : ℕ = tuple_count (replicate constructor.arity c.args.members) in
    let expected = c.count_tuples-expected.ensures.exact ∙ in_64_bits-few count c.requires.small in
    rw (p.1, p.2) (λ other.
    length_first constructor.name count (length c.args.entries.now)
    (first_over (λ i. c.args.members) 0 c.args.entries.now) fault
    (subst (λ n. first_fault (length_faults n count (length c.args.entries.now)) ≡ Some fault)
    c.as_slice-name.ensures
    (subst (λ n. first_fault (length_faults c.as_slice-name.result.now n
    (length c.args.entries.now)) ≡ Some fault) expected (c.in_err-check_length.ensures other))))

pub returns : goal.returns
returns c =
    let constructor = c.args.constructor.now in
    let count : ℕ = tuple_count (replicate constructor.arity c.args.members) in
    let expected = c.count_tuples-expected.ensures.exact ∙ in_64_bits-few count c.requires.small in
    ranges_last constructor.name count (length c.args.entries.now)
    (first_over (λ i. c.args.members) 0 c.args.entries.now) c.check_range.result
    (subst (λ n. length_faults n count (length c.args.entries.now) ≡ []) c.as_slice-name.ensures
    (subst (λ n. length_faults c.as_slice-name.result.now n (length c.args.entries.now) ≡ []) expected
    c.in_ok-check_length.ensures))
    (subst (λ n. Checks (range_faults n (first_over (λ i. c.args.members) 0 c.args.entries.now))
    c.check_range.result) c.as_slice-name.ensures
    (subst (λ o. Checks (range_faults c.as_slice-name.result.now o) c.check_range.result)
    (c.first_over.ensures 0) c.check_range.ensures))
