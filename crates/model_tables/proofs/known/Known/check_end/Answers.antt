use Rattle.std.proofs.Common.{◌≡◌, [], Some, Err, length, ap, ◌∙◌, subst, arith}
use Rattle.std.proofs.lemmas.List.{length-map}
use Rattle.std.proofs.lemmas.Result.{err_from_is_err_and}
use Rattle.tf_core.specs.declared.signature.Constructor.{Constructor}
use Rattle.tf_core.specs.declared.signature.Symbol.{Symbol}
use Rattle.model_tables.specs.Faults.{missing_faults}
use Rattle.model_tables.specs.Checks.{first_fault, Checks}
use Rattle.model_tables.specs.Marks.{first_unmarked}
use Rattle.model_tables.specs.Typed.{typed}
use Rattle.model_tables.specs.Writable.{constructor_names, symbol_names}
use Rattle.model_tables.proofs.TypedChecks.{constructor_missing, all_read}
use Rattle.model_tables.proofs.known.Known.check_end.Goals as goal

pub returns-in_err-ended : goal.returns-in_err-ended
returns-in_err-ended c whole reading =
    let p = err_from_is_err_and c.from_residual.result c.from_residual.ensures.1 in
    rw (p.1, p.2) (λ other.
    reading.goes
    ∙ c.in_err-ended.ensures (typed c.args.self.now.signature.now) reading.state other)

pub first_unmarked-requires : goal.first_unmarked-requires
first_unmarked-requires c =
    omega (
      arith,
      c.requires.part.constructor_marks,
      ap length c.requires.known.constructors,
      length-map c.args.self.now.signature.now.constructors (λ (d : Constructor). d.name),
    )

pub returns-in_err-check_missing : goal.returns-in_err-check_missing
returns-in_err-check_missing c whole reading =
    let p = err_from_is_err_and c.from_residual-in_err-check_missing.result
    c.from_residual-in_err-check_missing.ensures.1 in
    let g = c.args.self.now.signature.now in
    let fault = c.in_err-check_missing.field-0.0 in
    rw (p.1, p.2) (λ other.
    constructor_missing g c.args.total whole c.args.reader.now c.args.part.now reading
    (c.in_ok-ended.ensures (typed g) reading.state) fault
    (subst (λ o. first_fault (missing_faults o) ≡ Some fault)
    (c.first_unmarked.ensures
    ∙ ap (λ names. first_unmarked names c.args.part.now.constructors) c.requires.known.constructors)
    (c.in_err-check_missing.ensures other)))

pub first_unmarked-requires-2 : goal.first_unmarked-requires-2
first_unmarked-requires-2 c =
    omega (
      arith,
      c.requires.part.symbol_marks,
      ap length c.requires.known.symbols,
      length-map c.args.self.now.signature.now.symbols (λ (d : Symbol). d.name),
    )

pub returns : goal.returns
returns c whole reading =
    let g = c.args.self.now.signature.now in
    all_read g c.args.total whole c.args.reader.now c.args.part.now reading
    (c.in_ok-ended.ensures (typed g) reading.state) c.check_missing-2.result
    (subst (λ o. missing_faults o ≡ [])
    (c.first_unmarked.ensures
    ∙ ap (λ names. first_unmarked names c.args.part.now.constructors) c.requires.known.constructors)
    c.in_ok-check_missing.ensures)
    (subst (λ o. Checks (missing_faults o) c.check_missing-2.result)
    (c.first_unmarked-2.ensures
    ∙ ap (λ names. first_unmarked names c.args.part.now.symbols) c.requires.known.symbols)
    c.check_missing-2.ensures)
