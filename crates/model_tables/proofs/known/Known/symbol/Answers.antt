use Rattle.std.proofs.Common.{◌≡◌, [], Some, slice_get, length, ap, subst, arith}
use Rattle.std.proofs.lemmas.List.{length-map}
use Rattle.std.proofs.lemmas.Result.{err_from_is_err_and}
use Rattle.tf_core.specs.declared.signature.Constructor.{Constructor}
use Rattle.model_tables.specs.Faults.{missing_faults}
use Rattle.model_tables.specs.Checks.{first_fault}
use Rattle.model_tables.specs.Marks.{first_unmarked}
use Rattle.model_tables.specs.Writable.{symbol_names}
use Rattle.model_tables.proofs.TypedChecks.{place_found, symbol_within, symbol_unknown}
use Rattle.model_tables.proofs.TypedChecks.{symbol_repeated, symbol_missing, symbol_clean}
use Rattle.model_tables.proofs.known.Known.symbol.Goals as goal

pub returns-in_err-at-clause-checks : goal.returns-in_err-at-clause-checks
returns-in_err-at-clause-checks c before said =
    let p = err_from_is_err_and c.from_residual.result c.from_residual.ensures.1 in
    let g = c.args.self.now.signature.now in
    rw (p.1, p.2) (λ other.
    symbol_unknown g before c.args.part.now said c.args.name.now c.find.result
    c.in_err-at.field-0.0
    (rw (c.requires.known.symbols) at c.find.ensures) (c.in_err-at.ensures.known other))

pub has-requires : goal.has-requires
has-requires c =
    let named = place_found c.args.self.now.symbols
    (symbol_names c.args.self.now.signature.now) c.args.name.now c.find.result c.in_ok-at.at
    c.requires.known.symbols c.find.ensures c.in_ok-at.ensures.found in
    symbol_within c.args.self.now.signature.now c.args.part.now c.requires.part c.in_ok-at.at
    c.args.name.now named

pub returns-in_err-check_new-clause-checks : goal.returns-in_err-check_new-clause-checks
returns-in_err-check_new-clause-checks c before said =
    let named = place_found c.args.self.now.symbols
    (symbol_names c.args.self.now.signature.now) c.args.name.now c.find.result c.in_ok-at.at
    c.requires.known.symbols c.find.ensures c.in_ok-at.ensures.found in
    let p = err_from_is_err_and c.from_residual-in_err-check_new.result
    c.from_residual-in_err-check_new.ensures.1 in
    let g = c.args.self.now.signature.now in
    rw (p.1, p.2) (λ other.
    symbol_repeated g before c.args.part.now said c.args.name.now c.in_ok-at.at named
    c.has.result c.has.ensures c.in_err-check_new.field-0.0 (c.in_err-check_new.ensures other))

pub check_constructors-requires : goal.check_constructors-requires
check_constructors-requires c =
    omega (
      arith,
      c.requires.part.constructor_marks,
      ap length c.requires.known.constructors,
      length-map c.args.self.now.signature.now.constructors (λ (d : Constructor). d.name),
    )

pub returns-in_err-check_constructors-clause-checks :
    goal.returns-in_err-check_constructors-clause-checks
returns-in_err-check_constructors-clause-checks c before said =
    let named = place_found c.args.self.now.symbols
    (symbol_names c.args.self.now.signature.now) c.args.name.now c.find.result c.in_ok-at.at
    c.requires.known.symbols c.find.ensures c.in_ok-at.ensures.found in
    let p = err_from_is_err_and c.from_residual-in_err-check_constructors.result
    c.from_residual-in_err-check_constructors.ensures.1 in
    let g = c.args.self.now.signature.now in
    let fault = c.in_err-check_constructors.field-0.0 in
    rw (p.1, p.2) (λ other.
    symbol_missing g before c.args.part.now said c.args.name.now c.in_ok-at.at named
    c.has.result c.has.ensures fault c.in_ok-check_new.ensures
    (subst (λ names. first_fault (missing_faults
    (first_unmarked names c.args.part.now.constructors)) ≡ Some fault)
    c.requires.known.constructors (c.in_err-check_constructors.ensures.checks other)))

pub returns-clause-checks : goal.returns-clause-checks
returns-clause-checks c before said =
    let named = place_found c.args.self.now.symbols
    (symbol_names c.args.self.now.signature.now) c.args.name.now c.find.result c.in_ok-at.at
    c.requires.known.symbols c.find.ensures c.in_ok-at.ensures.found in
    symbol_clean c.args.self.now.signature.now before c.args.part.now said c.args.name.now
    c.in_ok-at.at named c.has.result c.has.ensures c.in_ok-check_new.ensures
    (subst (λ names. missing_faults (first_unmarked names c.args.part.now.constructors) ≡ [])
    c.requires.known.constructors c.in_ok-check_constructors.ensures.checks)
