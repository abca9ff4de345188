use Rattle.std.proofs.Common.{sym, ap, ◌∙◌, refl, Ok, Err}
use Rattle.std.proofs.lemmas.Bool.{false≢true}
use Rattle.tf_check.specs.Faults.{visited_symbol}
use Rattle.tf_check.specs.Passes.{declaration_at, with_symbol}
use Rattle.tf_check.specs.Table.{named_profile}
use Rattle.tf_check.proofs.DeclareSteps as s
use Rattle.tf_check.proofs.declarations.declare_symbol.Goals as goal

pub returns-in_err-profile : goal.returns-in_err-profile
returns-in_err-profile c =
    let d = declaration_at c.args.entry c.args.name.now c.args.body.now in
    let g = c.args.table.now in
    s.declares-on (visited_symbol (with_symbol g d) d) (with_symbol g d) g c.from_residual.result
    c.in_err-profile.field-0.0 c.from_residual.ensures
    (s.symbol_bad g d c.in_err-profile.field-0.0
    (rw c.new-scope.ensures.names at (c.in_err-profile.ensures c.args.name.now)))

pub returns-then-is_some : goal.returns-then-is_some
returns-then-is_some c =
    let d = declaration_at c.args.entry c.args.name.now c.args.body.now in
    let g = c.args.table.now in
    let symbol = named_profile c.args.name.now c.in_ok-profile.profile in
    let visited = rw c.new-scope.ensures.names at (c.in_ok-profile.ensures c.args.name.now) in
    let tested = rw (c.constructor.ensures.exact, c.as_slice.ensures) at c.is_some.ensures in
    s.declares-refused (visited_symbol (with_symbol g d) d) (with_symbol g d) g c.redeclared.result
    (s.symbol_hidden g d symbol refl visited c.is_some.result c.redeclared.result tested
    c.if-is_some.true
    c.redeclared.ensures)

pub returns-then-same : goal.returns-then-same
returns-then-same c =
    let d = declaration_at c.args.entry c.args.name.now c.args.body.now in
    let g = c.args.table.now in
    let symbol = named_profile c.args.name.now c.in_ok-profile.profile in
    let visited = rw c.new-scope.ensures.names at (c.in_ok-profile.ensures c.args.name.now) in
    let tested = rw (c.constructor.ensures.exact, c.as_slice.ensures) at c.is_some.ensures in
    let first = named_profile c.args.name.now c.in-Some.first.now in
    let named = sym (rw c.as_slice-2.ensures at c.in-Some.ensures) in
    s.declares-ok (visited_symbol (with_symbol g d) d) (with_symbol g d) g tt
    (s.symbol_same g d symbol refl visited c.is_some.result tested c.if-is_some.false
    c.in-Some.field-0-0 first
    named c.requires.few (ap (named_profile c.args.name.now) (c.same.ensures.0 c.if-same.true)))
    (sym (s.known_symbol g d symbol refl visited c.is_some.result tested c.if-is_some.false
    c.in-Some.field-0-0
    first named))
    c.requires.few

pub returns-in-Some : goal.returns-in-Some
returns-in-Some c =
    let d = declaration_at c.args.entry c.args.name.now c.args.body.now in
    let g = c.args.table.now in
    let symbol = named_profile c.args.name.now c.in_ok-profile.profile in
    let visited = rw c.new-scope.ensures.names at (c.in_ok-profile.ensures c.args.name.now) in
    let tested = rw (c.constructor.ensures.exact, c.as_slice.ensures) at c.is_some.ensures in
    let first = named_profile c.args.name.now c.in-Some.first.now in
    let named = sym (rw c.as_slice-2.ensures at c.in-Some.ensures) in
    s.declares-refused (visited_symbol (with_symbol g d) d) (with_symbol g d) g
    c.redeclared-else-same.result
    (s.symbol_differs g d symbol refl visited c.is_some.result tested c.if-is_some.false
    c.in-Some.field-0-0 first
    named c.redeclared-else-same.result
    (s.profiles_differ c.args.name.now c.in-Some.first.now c.in_ok-profile.profile
    (λ same. false≢true (sym c.if-same.false ∙ c.same.ensures.1 same)))
    c.redeclared-else-same.ensures)

pub returns-in_err-expect_number-in-None : goal.returns-in_err-expect_number-in-None
returns-in_err-expect_number-in-None c =
    let d = declaration_at c.args.entry c.args.name.now c.args.body.now in
    let g = c.args.table.now in
    let symbol = named_profile c.args.name.now c.in_ok-profile.profile in
    let visited = rw c.new-scope.ensures.names at (c.in_ok-profile.ensures c.args.name.now) in
    let tested = rw (c.constructor.ensures.exact, c.as_slice.ensures) at c.is_some.ensures in
    let none = sym (rw c.as_slice-2.ensures at c.in-None.ensures) in
    s.declares-on (visited_symbol (with_symbol g d) d) (with_symbol g d) g
    c.from_residual-in_err-expect_number-in-None.result c.in_err-expect_number-in-None.field-0.0
    c.from_residual-in_err-expect_number-in-None.ensures
    (s.symbol_new g d symbol refl visited c.is_some.result tested c.if-is_some.false none
    (Err c.in_err-expect_number-in-None.field-0.0)
    (rw c.symbol_count.ensures at c.in_err-expect_number-in-None.ensures))

pub returns : goal.returns
returns c =
    let d = declaration_at c.args.entry c.args.name.now c.args.body.now in
    let g = c.args.table.now in
    let symbol = named_profile c.args.name.now c.in_ok-profile.profile in
    let visited = rw c.new-scope.ensures.names at (c.in_ok-profile.ensures c.args.name.now) in
    let tested = rw (c.constructor.ensures.exact, c.as_slice.ensures) at c.is_some.ensures in
    let none = sym (rw c.as_slice-2.ensures at c.in-None.ensures) in
    let number = rw c.symbol_count.ensures at c.in_ok-expect_number-in-None.ensures in
    let grown = rw c.as_slice-in-None.ensures at c.in_ok-add_symbol-in-None.ensures in
    s.declares-ok (visited_symbol (with_symbol g d) d) (with_symbol g d) c.add_symbol.new.self tt
    (s.symbol_new g d symbol refl visited c.is_some.result tested c.if-is_some.false none (Ok tt)
    number)
    (grown ∙ sym (s.new_symbol g d symbol refl visited c.is_some.result tested c.if-is_some.false
    none))
    (rw grown
    (s.few_symbols g d symbol refl visited c.is_some.result tested c.if-is_some.false none number))
