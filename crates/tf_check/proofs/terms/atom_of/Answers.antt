use Rattle.std.proofs.Common.{◌≡◌, ◌≤◌, ℕ, Option, Some, None, map, arith, subst, Err}
use Rattle.tf_core.specs.declared.signature.Symbol.{Symbol}
use Rattle.tf_check.specs.declared.error.TypeError.TheVariants.{NotAFormula}
use Rattle.tf_check.specs.Answers.{Answers}
use Rattle.tf_check.specs.Signature.{symbol_named}
use Rattle.tf_check.specs.Table.{named_profile}
use Rattle.tf_check.specs.Terms.{term_reading, atom_applied}
use Rattle.tf_check.proofs.NumberLemmas.{named_at}
use Rattle.tf_check.proofs.TermAnswers as a
use Rattle.tf_check.proofs.terms.atom_of.Goals as goal
use Rattle.tf_core.specs.declared.formula.Formula.TheVariants as formula

pub returns-in_err-expect_number-in-Some-clause-exact : goal.returns-in_err-expect_number-in-Some-clause-exact
returns-in_err-expect_number-in-Some-clause-exact c =
    let named : ◌≡◌ {A = Option (ℕ × Symbol)} (Some (c.in-Some.place, (named_profile c.args.name.now c.in-Some.profile.now))) (symbol_named c.args.name.now c.args.context.now.table.now) =
    rw c.as_slice.ensures at c.in-Some.ensures in
    a.passed_on (atom_applied c.args.context.now.entry c.args.context.now.table.now c.args.name.now (symbol_named c.args.name.now c.args.context.now.table.now) (map (term_reading c.args.context.now.entry c.args.context.now.table.now) c.args.parts.now) c.args.scope.now.names) c.from_residual.result
    c.in_err-expect_number-in-Some.field-0.0 c.from_residual.ensures.1
    (a.atom_number_refused c.args.context.now.entry c.args.context.now.table.now c.args.scope.now.names c.args.name.now c.in-Some.place (named_profile c.args.name.now c.in-Some.profile.now) (map (term_reading c.args.context.now.entry c.args.context.now.table.now) c.args.parts.now) named c.in_err-expect_number-in-Some.field-0.0
    c.in_err-expect_number-in-Some.ensures)

pub returns-in_err-given-in-None-result-clause-exact : goal.returns-in_err-given-in-None-result-clause-exact
returns-in_err-given-in-None-result-clause-exact c =
    let named : ◌≡◌ {A = Option (ℕ × Symbol)} (Some (c.in-Some.place, (named_profile c.args.name.now c.in-Some.profile.now))) (symbol_named c.args.name.now c.args.context.now.table.now) =
    rw c.as_slice.ensures at c.in-Some.ensures in
    a.passed_on (atom_applied c.args.context.now.entry c.args.context.now.table.now c.args.name.now (symbol_named c.args.name.now c.args.context.now.table.now) (map (term_reading c.args.context.now.entry c.args.context.now.table.now) c.args.parts.now) c.args.scope.now.names) c.from_residual-in_err-given-in-None-result.result
    c.in_err-given-in-None-result.field-0.0 c.from_residual-in_err-given-in-None-result.ensures.1
    (a.atom_stop c.args.context.now.entry c.args.context.now.table.now c.args.scope.now.names c.args.name.now c.in-Some.place (named_profile c.args.name.now c.in-Some.profile.now) (map (term_reading c.args.context.now.entry c.args.context.now.table.now) c.args.parts.now) named c.in-None-result.is c.in_err-given-in-None-result.field-0.0
    c.in_ok-expect_number-in-Some.ensures c.in_err-given-in-None-result.ensures.exact)

pub overflow_cast-result : goal.overflow_cast-result
overflow_cast-result c =
    let within : c.in-Some.place ≤ 65535 =
    a.place_within c.args.context.now.entry c.args.context.now.table.now c.args.scope.now.names c.in-Some.place c.in_ok-expect_number-in-Some.ensures in
    omega arith

pub returns-in-None-clause-exact : goal.returns-in-None-clause-exact
returns-in-None-clause-exact c =
    let named : ◌≡◌ {A = Option (ℕ × Symbol)} None (symbol_named c.args.name.now c.args.context.now.table.now) =
    rw c.as_slice.ensures at c.in-None.ensures in
    subst (λ at. Answers (atom_applied c.args.context.now.entry c.args.context.now.table.now c.args.name.now at (map (term_reading c.args.context.now.entry c.args.context.now.table.now) c.args.parts.now) c.args.scope.now.names) (Err c.not_a_formula.result)) named
    (a.answers-refused (NotAFormula c.args.context.now.entry c.args.name.now) c.not_a_formula.result formula.False
    (rw c.as_slice-in-None.ensures at c.not_a_formula.ensures))

pub returns-in-Some-result-clause-exact : goal.returns-in-Some-result-clause-exact
returns-in-Some-result-clause-exact c =
    let named : ◌≡◌ {A = Option (ℕ × Symbol)} (Some (c.in-Some.place, (named_profile c.args.name.now c.in-Some.profile.now))) (symbol_named c.args.name.now c.args.context.now.table.now) =
    rw c.as_slice.ensures at c.in-Some.ensures in
    a.atom_no_predicate c.args.context.now.entry c.args.context.now.table.now c.args.scope.now.names c.args.name.now c.in-Some.place (named_profile c.args.name.now c.in-Some.profile.now) (map (term_reading c.args.context.now.entry c.args.context.now.table.now) c.args.parts.now) named c.in-Some-result.field-0 c.in-Some-result.is c.not_a_formula-in-Some-result.result
    c.in_ok-expect_number-in-Some.ensures
    (rw c.as_slice-in-Some-result.ensures at c.not_a_formula-in-Some-result.ensures)

pub returns-in_ok-given-in-None-result-clause-exact : goal.returns-in_ok-given-in-None-result-clause-exact
returns-in_ok-given-in-None-result-clause-exact c =
    let named : ◌≡◌ {A = Option (ℕ × Symbol)} (Some (c.in-Some.place, (named_profile c.args.name.now c.in-Some.profile.now))) (symbol_named c.args.name.now c.args.context.now.table.now) =
    rw c.as_slice.ensures at c.in-Some.ensures in
    a.atom_done c.args.context.now.entry c.args.context.now.table.now c.args.scope.now.names c.args.name.now c.in-Some.place (named_profile c.args.name.now c.in-Some.profile.now) (map (term_reading c.args.context.now.entry c.args.context.now.table.now) c.args.parts.now) named c.in-None-result.is c.in_ok-given-in-None-result.given.arguments
    c.in_ok-expect_number-in-Some.ensures c.in_ok-given-in-None-result.ensures.exact

pub arguments_of-requires-clause-at : goal.arguments_of-requires-clause-at
arguments_of-requires-clause-at c =
    named_at c.args.context.now c.args.scope.now c.args.name.now c.in-Some.place
    c.in-Some.profile.now c.requires (rw c.as_slice.ensures at c.in-Some.ensures)
