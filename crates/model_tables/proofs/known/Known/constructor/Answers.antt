use Rattle.std.proofs.lemmas.Result.{err_from_is_err_and}
use Rattle.model_tables.specs.Writable.{constructor_names}
use Rattle.model_tables.proofs.TypedChecks.{place_found, constructor_within, constructor_unknown}
use Rattle.model_tables.proofs.TypedChecks.{constructor_repeated, constructor_clean}
use Rattle.model_tables.proofs.known.Known.constructor.Goals as goal

pub returns-in_err-at-clause-checks : goal.returns-in_err-at-clause-checks
returns-in_err-at-clause-checks c before said =
    let p = err_from_is_err_and c.from_residual.result c.from_residual.ensures.1 in
    let g = c.args.self.now.signature.now in
    rw (p.1, p.2) (λ other.
    constructor_unknown g before c.args.part.now said c.args.name.now c.find.result
    c.in_err-at.field-0.0
    (rw (c.requires.known.constructors) at c.find.ensures) (c.in_err-at.ensures.known other))

pub has-requires : goal.has-requires
has-requires c =
    let named = place_found c.args.self.now.constructors
    (constructor_names c.args.self.now.signature.now) c.args.name.now c.find.result c.in_ok-at.at
    c.requires.known.constructors c.find.ensures c.in_ok-at.ensures.found in
    constructor_within c.args.self.now.signature.now c.args.part.now c.requires.part c.in_ok-at.at
    c.args.name.now named

pub returns-in_err-check_new-clause-checks : goal.returns-in_err-check_new-clause-checks
returns-in_err-check_new-clause-checks c before said =
    let named = place_found c.args.self.now.constructors
    (constructor_names c.args.self.now.signature.now) c.args.name.now c.find.result c.in_ok-at.at
    c.requires.known.constructors c.find.ensures c.in_ok-at.ensures.found in
    let p = err_from_is_err_and c.from_residual-in_err-check_new.result
    c.from_residual-in_err-check_new.ensures.1 in
    let g = c.args.self.now.signature.now in
    rw (p.1, p.2) (λ other.
    constructor_repeated g before c.args.part.now said c.args.name.now c.in_ok-at.at named
    c.has.result c.has.ensures c.in_err-check_new.field-0.0 (c.in_err-check_new.ensures other))

pub returns-clause-checks : goal.returns-clause-checks
returns-clause-checks c before said =
    let named = place_found c.args.self.now.constructors
    (constructor_names c.args.self.now.signature.now) c.args.name.now c.find.result c.in_ok-at.at
    c.requires.known.constructors c.find.ensures c.in_ok-at.ensures.found in
    constructor_clean c.args.self.now.signature.now before c.args.part.now said c.args.name.now
    c.in_ok-at.at named c.has.result c.has.ensures c.in_ok-check_new.ensures
