use Rattle.std.proofs.Common.{◌≡◌, ℕ, ◌≤◌, [], Some, Option, length, get_or, ap, ◌∙◌, subst, arith}
use Rattle.std.proofs.lemmas.Option.{get_or_from_slice_get}
use Rattle.std.proofs.lemmas.Result.{err_from_is_err_and}
use Rattle.enc_base.specs.Counts.{most_entries, in_64_bits}
use Rattle.fof_models.specs.declared.problem.FofSymbol.{FofSymbol}
use Rattle.fof_models.specs.Structures.{values_below}
use Rattle.model_tables.specs.Faults.{length_faults, range_faults, first_over}
use Rattle.model_tables.specs.Untyped.{symbol_entries, all_entries}
use Rattle.model_tables.specs.Checks.{first_fault, Checks}
use Rattle.model_tables.proofs.Checked.{first_fault-front}
use Rattle.model_tables.proofs.ChecksJoined.{checks_behind}
use Rattle.model_tables.proofs.Answered.{in_64_bits-few}
use Rattle.model_tables.proofs.SymbolSlots.{symbol_entries-few}
use Rattle.model_tables.proofs.symbols.Symbols.check_entries.Goals as goal

pub returns-in_err-check_length : goal.returns-in_err-check_length
returns-in_err-check_length c symbol kind at =
    let p = err_from_is_err_and c.from_residual.result c.from_residual.ensures.1 in
    let size = c.args.self.now.size in
    let signature = c.args.self.now.signature.now in
    let fault = c.in_err-check_length.field-0.0 in
    let it = get_or_from_slice_get signature c.args.at symbol c.index-self-at.result at in
    let few : symbol_entries size symbol ≤ most_entries =
    omega (arith, c.requires.ready.few, symbol_entries-few size signature c.args.at symbol at) in
    let expected : c.count_tuples-expected.result ≡ symbol_entries size symbol =
    c.count_tuples-expected.ensures.exact
    ∙ ap (λ (s : FofSymbol). in_64_bits (symbol_entries size s)) it
    ∙ in_64_bits-few (symbol_entries size symbol) few in
    rw (p.1, p.2) (λ other. first_fault-front
    (length_faults c.args.name.now (symbol_entries size symbol) (length c.args.entries.now))
    (range_faults c.args.name.now (first_over (λ i. values_below symbol size) 0 c.args.entries.now))
    fault
    (subst (λ n. first_fault (length_faults c.args.name.now n (length c.args.entries.now)) ≡ Some fault)
    expected (c.in_err-check_length.ensures other)))

pub returns : goal.returns
returns c symbol kind at =
    let size = c.args.self.now.size in
    let signature = c.args.self.now.signature.now in
    let it = get_or_from_slice_get signature c.args.at symbol c.index-self-at.result at in
    let few : symbol_entries size symbol ≤ most_entries =
    omega (arith, c.requires.ready.few, symbol_entries-few size signature c.args.at symbol at) in
    let expected : c.count_tuples-expected.result ≡ symbol_entries size symbol =
    c.count_tuples-expected.ensures.exact
    ∙ ap (λ (s : FofSymbol). in_64_bits (symbol_entries size s)) it
    ∙ in_64_bits-few (symbol_entries size symbol) few in
    let first : c.first_over.result ≡ first_over (λ i. values_below symbol size) 0 c.args.entries.now =
    c.first_over.ensures 0
    ∙ ap (λ b. first_over (λ _. b) 0 c.args.entries.now)
    (c.bound_of.ensures ∙ ap (λ (s : FofSymbol). values_below s size) it) in
    checks_behind
    (length_faults c.args.name.now (symbol_entries size symbol) (length c.args.entries.now))
    (range_faults c.args.name.now (first_over (λ i. values_below symbol size) 0 c.args.entries.now))
    c.check_range.result
    (subst (λ n. length_faults c.args.name.now n (length c.args.entries.now) ≡ []) expected
    c.in_ok-check_length.ensures)
    (subst (λ o. Checks (range_faults c.args.name.now o) c.check_range.result) first
    c.check_range.ensures)
