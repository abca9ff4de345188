use Rattle.std.proofs.Common.{sym, ◌∙◌, arith, Ok, Err}
use Rattle.tf_check.specs.declared.error.TypeError.TheVariants.{BadDeclaration}
use Rattle.tf_check.specs.Faults.{visited_constructor}
use Rattle.tf_check.specs.Passes.{declaration_at, with_constructor}
use Rattle.tf_check.specs.Terms.{number_of}
use Rattle.tf_check.proofs.DeclareSteps as s
use Rattle.tf_check.proofs.PlaceLemmas.{at_place, no_place}
use Rattle.tf_check.proofs.declarations.declare_constructor.Goals as goal

pub returns-in-None : goal.returns-in-None
returns-in-None c =
    let d = declaration_at c.args.entry c.args.name.now c.args.body.now in
    let g = c.args.table.now in
    s.declares-refused (visited_constructor (with_constructor g d) d) (with_constructor g d) g
    (BadDeclaration c.args.entry) (s.constructor_bad g d c.in-None.ensures)

pub returns-in_err-expect_number-in-None-constructor :
    goal.returns-in_err-expect_number-in-None-constructor
returns-in_err-expect_number-in-None-constructor c =
    let d = declaration_at c.args.entry c.args.name.now c.args.body.now in
    let g = c.args.table.now in
    let none = no_place g c.args.name.now
    (rw c.as_slice.ensures at c.in-None-constructor.ensures.exact) in
    s.declares-on (visited_constructor (with_constructor g d) d) (with_constructor g d) g
    c.from_residual.result c.in_err-expect_number-in-None-constructor.field-0.0
    c.from_residual.ensures
    (s.constructor_new g d c.in-Some.arity c.in-Some.ensures none
    (Err c.in_err-expect_number-in-None-constructor.field-0.0)
    c.in_err-expect_number-in-None-constructor.ensures)

pub add_constructor-requires-clause-room : goal.add_constructor-requires-clause-room
add_constructor-requires-clause-room c =
    omega (
      arith,
      s.number_within (number_of c.args.table.now 0)
          c.in_ok-expect_number-in-None-constructor.ensures,
    )

pub returns-then-first-arity : goal.returns-then-first-arity
returns-then-first-arity c =
    let d = declaration_at c.args.entry c.args.name.now c.args.body.now in
    let g = c.args.table.now in
    let at = at_place g c.args.name.now c.in-Some-constructor.field-0-0 c.in-Some-constructor.first
    (rw c.as_slice.ensures at c.in-Some-constructor.ensures.exact) in
    s.declares-ok (visited_constructor (with_constructor g d) d) (with_constructor g d) g tt
    (s.constructor_same g d c.in-Some.arity c.in-Some.ensures c.in-Some-constructor.field-0-0 at.0
    at.1
    (at.2 ∙ c.if-first-arity.true) c.in-Some-constructor.ensures.within)
    (sym (s.known_constructor g d c.in-Some.arity c.in-Some.ensures
    c.in-Some-constructor.field-0-0 at.0 at.1))
    c.requires.few

pub returns-else-first-arity : goal.returns-else-first-arity
returns-else-first-arity c =
    let d = declaration_at c.args.entry c.args.name.now c.args.body.now in
    let g = c.args.table.now in
    let at = at_place g c.args.name.now c.in-Some-constructor.field-0-0 c.in-Some-constructor.first
    (rw c.as_slice.ensures at c.in-Some-constructor.ensures.exact) in
    s.declares-refused (visited_constructor (with_constructor g d) d) (with_constructor g d) g
    c.redeclared.result
    (s.constructor_differs g d c.in-Some.arity c.in-Some.ensures c.in-Some-constructor.field-0-0
    at.0 at.1
    c.redeclared.result (λ same. c.if-first-arity.false (sym at.2 ∙ same)) c.redeclared.ensures)

pub returns-in_ok-add_constructor-in-None-constructor :
    goal.returns-in_ok-add_constructor-in-None-constructor
returns-in_ok-add_constructor-in-None-constructor c =
    let d = declaration_at c.args.entry c.args.name.now c.args.body.now in
    let g = c.args.table.now in
    let none = no_place g c.args.name.now
    (rw c.as_slice.ensures at c.in-None-constructor.ensures.exact) in
    let grown = rw c.as_slice-in-None-constructor.ensures
    at c.in_ok-add_constructor-in-None-constructor.ensures in
    s.declares-ok (visited_constructor (with_constructor g d) d) (with_constructor g d)
    c.add_constructor.new.self tt
    (s.constructor_new g d c.in-Some.arity c.in-Some.ensures none (Ok tt)
    c.in_ok-expect_number-in-None-constructor.ensures)
    (grown ∙ sym (s.new_constructor g d c.in-Some.arity c.in-Some.ensures none))
    (rw grown
    (s.few_constructors g d c.in-Some.arity c.in-Some.ensures none
    c.in_ok-expect_number-in-None-constructor.ensures c.requires.alone))
