use Rattle.std.proofs.Common.{◌≡◌, [], Some, ap, ◌∙◌, subst}
use Rattle.std.proofs.lemmas.Result.{err_from_is_err_and}
use Rattle.model_tables.specs.Faults.{missing_faults, first_missing}
use Rattle.model_tables.specs.Untyped.{untyped, symbol_wants}
use Rattle.model_tables.specs.Checks.{first_fault}
use Rattle.model_tables.specs.Held.{first_empty}
use Rattle.model_tables.proofs.Answered.{missing_right, missing_wrong}
use Rattle.model_tables.proofs.ReadSteps.{finished, missing_said, structure_said}
use Rattle.model_tables.proofs.untyped.finish.Goals as goal

pub returns-in_err-check_missing : goal.returns-in_err-check_missing
returns-in_err-check_missing c whole so_far =
    let p = err_from_is_err_and c.from_residual-in_err-check_missing.result
    c.from_residual-in_err-check_missing.ensures.1 in
    let signature = c.args.symbols.now.signature.now in
    let names = c.args.symbols.now.names in
    let fault = c.in_err-check_missing.field-0.0 in
    let missing = c.first_empty.ensures ∙ ap (first_empty names) c.deref.ensures.value
    ∙ missing_said signature names c.args.total c.args.symbols.now.size whole c.args.slots.items
    c.args.reader.now so_far c.requires.ready.one_each in
    rw (p.1, p.2) (λ other.
    finished signature names c.args.total c.args.symbols.now.size whole c.args.slots.items
    c.args.reader.now so_far (c.in_ok-ended.ensures (untyped signature names) so_far.state)
    ∙ missing_wrong so_far.table (first_missing (symbol_wants signature names) so_far.table.items)
    fault (subst (λ o. first_fault (missing_faults o) ≡ Some fault) missing
    (c.in_err-check_missing.ensures other)))

pub returns : goal.returns
returns c whole so_far =
    let signature = c.args.symbols.now.signature.now in
    let names = c.args.symbols.now.names in
    let missing = c.first_empty.ensures ∙ ap (first_empty names) c.deref.ensures.value
    ∙ missing_said signature names c.args.total c.args.symbols.now.size whole c.args.slots.items
    c.args.reader.now so_far c.requires.ready.one_each in (
      so_far.table,
      finished signature names c.args.total c.args.symbols.now.size whole c.args.slots.items
          c.args.reader.now so_far (c.in_ok-ended.ensures (untyped signature names) so_far.state)
          ∙ missing_right so_far.table (first_missing (symbol_wants signature names) so_far.table.items)
          (subst (λ o. missing_faults o ≡ []) missing c.in_ok-check_missing.ensures),
      structure_said signature names c.args.total c.args.symbols.now.size whole c.args.slots.items
          c.args.reader.now so_far c.in_ok-tables.field-0 c.in_ok-tables.ensures,
    )
