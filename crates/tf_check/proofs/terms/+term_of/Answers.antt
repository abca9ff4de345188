use Rattle.std.proofs.Common.{◌≡◌, ◌≤◌, ◌<◌, ◌+◌, ℕ, List, Option, Some, None, map, length, drop, take, get_or, refl, sym, ap, arith, subst, ◌∙◌, Ok, Err, rules}
use Rattle.std.proofs.lemmas.List.{length-drop, get_or-drop, length-map, get_or-map}
use Rattle.tptp_syntax.specs.declared.term.RawTerm.{RawTerm}
use Rattle.tf_core.specs.declared.ty.Ty.{Ty}
use Rattle.tf_core.specs.declared.ty.Ty.TheVariants as type
use Rattle.tf_core.specs.declared.term.Term.TheVariants as term
use Rattle.tf_core.specs.declared.signature.Symbol.{Symbol}
use Rattle.tf_core.specs.Types.{instantiate}
use Rattle.tf_types.specs.declared.node.TypeId.{TypeId}
use Rattle.tf_types.specs.Numbers.{IsNumber, type_at}
use Rattle.tf_types.proofs.Numbers.{IsNumber-extended, type_at-extended, AreNumbers-extended, types_at-extended}
use Rattle.tf_check.specs.declared.error.TypeError.TheVariants.{NotATerm}
use Rattle.tf_check.specs.Answers.{Answers}
use Rattle.tf_check.specs.Bound.{Scoped, IsReady, IsSymbolAt, typed_at}
use Rattle.tf_check.specs.Scope.{Scope}
use Rattle.tf_check.specs.Signature.{symbol_named}
use Rattle.tf_check.specs.Table.{named_profile}
use Rattle.tf_check.specs.Terms.{Typed, term_reading, term_readings, no_term, term_applied, arguments_of}
use Rattle.tf_check.proofs.AnswerLemmas.{answers-none, answers-on}
use Rattle.tf_check.proofs.FormulaAnswers.{answers-on_mapped}
use Rattle.tf_check.proofs.NumberLemmas as n
use Rattle.tf_check.proofs.ScopedLemmas.{Keeps-itself, Keeps-twice}
use Rattle.tf_check.proofs.TermAnswers as a
use Rattle.tf_check.proofs.TermLemmas as l
use Rattle.tf_check.proofs.ScopedLemmas.{get_or-self}
use Rattle.tf_check.proofs.terms.+term_of.Goals as goal

pub applied_term-symbol-requires-in-Some : goal.applied_term-symbol-requires-in-Some
applied_term-symbol-requires-in-Some t c =
    n.place_is_within c.args.scope.now c.in-Some.place c.in-Some.profile.now
    (n.named_at c.args.context.now c.args.scope.now c.args.name.now c.in-Some.place
    c.in-Some.profile.now c.requires (rw c.as_slice.ensures at c.in-Some.ensures))

pub applied_term-arguments_of-requires : goal.applied_term-arguments_of-requires
applied_term-arguments_of-requires t c = (
  search rules,
  (
    c.requires,
    n.named_at c.args.context.now c.args.scope.now c.args.name.now c.in-Some.place
        c.in-Some.profile.now c.requires (rw c.as_slice.ensures at c.in-Some.ensures),
  ),
)

pub applied_term-instance-requires-clause-number : goal.applied_term-instance-requires-clause-number
applied_term-instance-requires-clause-number t c =
    IsNumber-extended c.args.scope.now.types c.arguments_of.new.scope.types
    c.in_ok-given-in-Some-result.ensures.kept.grows.types c.in-Some-result.result
    (rw c.in-Some-result.is at c.symbol-in-Some.ensures.numbers.1)

pub applied_term-returns-in_err-expect_number-in-Some-clause-exact :
    goal.applied_term-returns-in_err-expect_number-in-Some-clause-exact
applied_term-returns-in_err-expect_number-in-Some-clause-exact t c =
    let named : ◌≡◌ {A = Option (ℕ × Symbol)} (Some (c.in-Some.place, (named_profile c.args.name.now c.in-Some.profile.now))) (symbol_named c.args.name.now c.args.context.now.table.now) =
    rw c.as_slice.ensures at c.in-Some.ensures in
    answers-on_mapped (term_applied c.args.context.now.entry c.args.context.now.table.now c.args.name.now (symbol_named c.args.name.now c.args.context.now.table.now) (map (term_reading c.args.context.now.entry c.args.context.now.table.now) c.args.parts.now) c.args.scope.now.names)
    (typed_at c.args.scope.now.types) c.from_residual.result
    c.in_err-expect_number-in-Some.field-0.0 c.from_residual.ensures
    (a.term_number_refused c.args.context.now.entry c.args.context.now.table.now c.args.scope.now.names c.args.name.now c.in-Some.place (named_profile c.args.name.now c.in-Some.profile.now) (map (term_reading c.args.context.now.entry c.args.context.now.table.now) c.args.parts.now) named c.in_err-expect_number-in-Some.field-0.0
    c.in_err-expect_number-in-Some.ensures)

pub applied_term-returns-in_err-given-in-Some-result-clause-exact :
    goal.applied_term-returns-in_err-given-in-Some-result-clause-exact
applied_term-returns-in_err-given-in-Some-result-clause-exact t c =
    let named : ◌≡◌ {A = Option (ℕ × Symbol)} (Some (c.in-Some.place, (named_profile c.args.name.now c.in-Some.profile.now))) (symbol_named c.args.name.now c.args.context.now.table.now) =
    rw c.as_slice.ensures at c.in-Some.ensures in
    let at = n.named_at c.args.context.now c.args.scope.now c.args.name.now c.in-Some.place
    c.in-Some.profile.now c.requires named in
    let is : c.in-Some.profile.now.result ≡ Some (type_at c.args.scope.now.types c.in-Some-result.result) =
    rw c.in-Some-result.is at
    (sym (n.result_is c.args.scope.now c.in-Some.place c.in-Some.profile.now at c.symbol-in-Some.result
    c.symbol-in-Some.ensures.types)) in
    answers-on_mapped (term_applied c.args.context.now.entry c.args.context.now.table.now c.args.name.now (symbol_named c.args.name.now c.args.context.now.table.now) (map (term_reading c.args.context.now.entry c.args.context.now.table.now) c.args.parts.now) c.args.scope.now.names)
    (typed_at c.arguments_of.new.scope.types) c.from_residual-in_err-given-in-Some-result.result
    c.in_err-given-in-Some-result.field-0.0 c.from_residual-in_err-given-in-Some-result.ensures
    (a.term_stop c.args.context.now.entry c.args.context.now.table.now c.args.scope.now.names c.args.name.now c.in-Some.place (named_profile c.args.name.now c.in-Some.profile.now) (map (term_reading c.args.context.now.entry c.args.context.now.table.now) c.args.parts.now) named (type_at c.args.scope.now.types c.in-Some-result.result) is c.in_err-given-in-Some-result.field-0.0
    c.in_ok-expect_number-in-Some.ensures c.in_err-given-in-Some-result.ensures.exact)

pub applied_term-overflow_cast-result : goal.applied_term-overflow_cast-result
applied_term-overflow_cast-result t c =
    let within : c.in-Some.place ≤ 65535 =
    a.place_within c.args.context.now.entry c.args.context.now.table.now c.args.scope.now.names c.in-Some.place c.in_ok-expect_number-in-Some.ensures in
    omega arith

pub applied_term-returns-in-None-clause-exact : goal.applied_term-returns-in-None-clause-exact
applied_term-returns-in-None-clause-exact t c =
    let named : ◌≡◌ {A = Option (ℕ × Symbol)} None (symbol_named c.args.name.now c.args.context.now.table.now) =
    rw c.as_slice.ensures at c.in-None.ensures in
    subst (λ at. Answers (term_applied c.args.context.now.entry c.args.context.now.table.now c.args.name.now at (map (term_reading c.args.context.now.entry c.args.context.now.table.now) c.args.parts.now) c.args.scope.now.names) (Err c.not_a_term.result)) named
    (a.answers-refused (NotATerm c.args.context.now.entry c.args.name.now) c.not_a_term.result no_term
    (rw c.as_slice-in-None.ensures at c.not_a_term.ensures))

pub applied_term-returns-in-None-result-clause-exact : goal.applied_term-returns-in-None-result-clause-exact
applied_term-returns-in-None-result-clause-exact t c =
    let named : ◌≡◌ {A = Option (ℕ × Symbol)} (Some (c.in-Some.place, (named_profile c.args.name.now c.in-Some.profile.now))) (symbol_named c.args.name.now c.args.context.now.table.now) =
    rw c.as_slice.ensures at c.in-Some.ensures in
    let at = n.named_at c.args.context.now c.args.scope.now c.args.name.now c.in-Some.place
    c.in-Some.profile.now c.requires named in
    let is : c.in-Some.profile.now.result ≡ None =
    rw c.in-None-result.is at
    (sym (n.result_is c.args.scope.now c.in-Some.place c.in-Some.profile.now at c.symbol-in-Some.result
    c.symbol-in-Some.ensures.types)) in
    a.term_no_function c.args.context.now.entry c.args.context.now.table.now c.args.scope.now.names c.args.name.now c.in-Some.place (named_profile c.args.name.now c.in-Some.profile.now) (map (term_reading c.args.context.now.entry c.args.context.now.table.now) c.args.parts.now) named is c.not_a_term-in-None-result.result
    c.in_ok-expect_number-in-Some.ensures
    (rw c.as_slice-in-None-result.ensures at c.not_a_term-in-None-result.ensures)

pub applied_term-returns-in_ok-ty-in-Some-result-clause-exact :
    goal.applied_term-returns-in_ok-ty-in-Some-result-clause-exact
applied_term-returns-in_ok-ty-in-Some-result-clause-exact t c =
    let named : ◌≡◌ {A = Option (ℕ × Symbol)} (Some (c.in-Some.place, (named_profile c.args.name.now c.in-Some.profile.now))) (symbol_named c.args.name.now c.args.context.now.table.now) =
    rw c.as_slice.ensures at c.in-Some.ensures in
    let at = n.named_at c.args.context.now c.args.scope.now c.args.name.now c.in-Some.place
    c.in-Some.profile.now c.requires named in
    let declared = type_at c.args.scope.now.types c.in-Some-result.result in
    let is : c.in-Some.profile.now.result ≡ Some declared =
    rw c.in-Some-result.is at
    (sym (n.result_is c.args.scope.now c.in-Some.place c.in-Some.profile.now at c.symbol-in-Some.result
    c.symbol-in-Some.ensures.types)) in
    let given = c.in_ok-given-in-Some-result.given.arguments in
    let ty : type_at c.instance.new.self.types c.in_ok-ty-in-Some-result.ty ≡ instantiate given.types declared =
    c.in_ok-ty-in-Some-result.ensures.exact
    ∙ ap (λ ids. instantiate (map (type_at c.arguments_of.new.scope.types) ids)
    (type_at c.arguments_of.new.scope.types c.in-Some-result.result)) c.as_slice-in-Some-result.ensures
    ∙ ap (λ types. instantiate types (type_at c.arguments_of.new.scope.types c.in-Some-result.result))
    c.in_ok-given-in-Some-result.ensures.numbers.0
    ∙ ap (instantiate given.types)
    (type_at-extended c.args.scope.now.types c.arguments_of.new.scope.types
    c.in_ok-given-in-Some-result.ensures.kept.grows.types c.in-Some-result.result
    (rw c.in-Some-result.is at c.symbol-in-Some.ensures.numbers.1)) in
    subst
    (λ x. Answers
    (term_applied c.args.context.now.entry c.args.context.now.table.now c.args.name.now (symbol_named c.args.name.now c.args.context.now.table.now) (map (term_reading c.args.context.now.entry c.args.context.now.table.now) c.args.parts.now) c.args.scope.now.names)
    (Ok (term.Apply c.in-Some.place given.types given.terms, x)))
    (sym ty)
    (a.term_done c.args.context.now.entry c.args.context.now.table.now c.args.scope.now.names c.args.name.now c.in-Some.place (named_profile c.args.name.now c.in-Some.profile.now) (map (term_reading c.args.context.now.entry c.args.context.now.table.now) c.args.parts.now) named declared is given
    c.in_ok-expect_number-in-Some.ensures c.in_ok-given-in-Some-result.ensures.exact)

pub arguments_of-arguments_at-requires-clause-within : goal.arguments_of-arguments_at-requires-clause-within
arguments_of-arguments_at-requires-clause-within t c =
    n.place_is_within c.numbers_of.new.scope c.args.place c.args.profile.now
    (n.at_still c.args.scope.now c.numbers_of.new.scope c.args.place c.args.profile.now
    c.in_ok-numbers.ensures.kept.grows.symbols c.requires.at)

pub arguments_of-terms_in_places-requires : goal.arguments_of-terms_in_places-requires
arguments_of-terms_in_places-requires t c =
    let numbered = c.numbers_of.new.scope in
    let last = c.arguments_at.new.scope.types in
    let places : map (type_at last) c.as_slice-4.result.now
    ≡ map (instantiate c.in_ok-types.types) c.args.profile.now.arguments =
    ap (map (type_at last)) c.as_slice-4.ensures
    ∙ n.asked_are numbered c.args.place c.args.profile.now
    (n.at_still c.args.scope.now numbered c.args.place c.args.profile.now
    c.in_ok-numbers.ensures.kept.grows.symbols c.requires.at)
    (map (type_at numbered.types) c.as_slice-3.result.now) c.in_ok-types.types
    (map (type_at last) c.in_ok-places.places)
    (ap (map (type_at numbered.types)) c.as_slice-3.ensures ∙ c.in_ok-numbers.ensures.exact
    ∙ c.as_slice-2.ensures)
    c.in_ok-places.ensures.exact in (
      search rules,
      (
        c.in_ok-places.ensures.kept.grows.symbols ∙ c.in_ok-numbers.ensures.kept.grows.symbols
            ∙ c.requires.ready,
        (
          omega (
            arith,
            length-map c.as_slice-4.result.now (type_at last),
            ap length places,
            length-map c.args.profile.now.arguments (instantiate c.in_ok-types.types),
            c.if-expected-parts.false,
            ap length c.as_slice.ensures,
          ),
          rw (sym c.as_slice-4.ensures) at c.in_ok-places.ensures.numbers,
        ),
      ),
    )

pub arguments_of-returns-then-expected-parts-clause-exact : goal.arguments_of-returns-then-expected-parts-clause-exact
arguments_of-returns-then-expected-parts-clause-exact t c =
    rw (c.in_ok-copy.ensures, c.as_slice.ensures)
    (a.arguments_arity c.args.context.now.entry c.args.context.now.table.now c.args.scope.now.names (named_profile c.args.name.now c.args.profile.now) c.args.parts.now
    (rw c.as_slice.ensures at c.if-expected-parts.true))

pub arguments_of-returns-in_err-types-clause-exact : goal.arguments_of-returns-in_err-types-clause-exact
arguments_of-returns-in_err-types-clause-exact t c =
    answers-on_mapped (arguments_of c.args.context.now.entry (named_profile c.args.name.now c.args.profile.now) (map (term_reading c.args.context.now.entry c.args.context.now.table.now) c.args.parts.now) c.args.scope.now.names)
    (λ given. given.arguments) c.from_residual-in_err-types.result c.in_err-types.field-0.0
    c.from_residual-in_err-types.ensures
    (a.arguments_types_stop c.args.context.now.entry c.args.context.now.table.now c.args.scope.now.names (named_profile c.args.name.now c.args.profile.now) c.args.parts.now
    (rw c.as_slice.ensures at c.if-expected-parts.false) c.in_err-types.field-0.0 c.in_err-types.ensures)

pub arguments_of-returns-in_err-terms-clause-exact : goal.arguments_of-returns-in_err-terms-clause-exact
arguments_of-returns-in_err-terms-clause-exact t c =
    let numbered = c.numbers_of.new.scope in
    let names = c.in_ok-places.ensures.kept.names ∙ c.in_ok-numbers.ensures.kept.names in
    let places : map (type_at c.arguments_at.new.scope.types) c.as_slice-4.result.now
    ≡ map (instantiate c.in_ok-types.types) c.args.profile.now.arguments =
    ap (map (type_at c.arguments_at.new.scope.types)) c.as_slice-4.ensures
    ∙ n.asked_are numbered c.args.place c.args.profile.now
    (n.at_still c.args.scope.now numbered c.args.place c.args.profile.now
    c.in_ok-numbers.ensures.kept.grows.symbols c.requires.at)
    (map (type_at numbered.types) c.as_slice-3.result.now) c.in_ok-types.types
    (map (type_at c.arguments_at.new.scope.types) c.in_ok-places.places)
    (ap (map (type_at numbered.types)) c.as_slice-3.ensures ∙ c.in_ok-numbers.ensures.exact
    ∙ c.as_slice-2.ensures)
    c.in_ok-places.ensures.exact in
    answers-on_mapped (arguments_of c.args.context.now.entry (named_profile c.args.name.now c.args.profile.now) (map (term_reading c.args.context.now.entry c.args.context.now.table.now) c.args.parts.now) c.args.scope.now.names)
    (λ given. given.arguments) c.from_residual-in_err-terms.result c.in_err-terms.field-0.0
    c.from_residual-in_err-terms.ensures
    (a.arguments_terms_stop c.args.context.now.entry c.args.context.now.table.now c.args.scope.now.names (named_profile c.args.name.now c.args.profile.now) c.args.parts.now
    (rw c.as_slice.ensures at c.if-expected-parts.false) c.in_ok-types.types c.in_err-terms.field-0.0
    c.in_ok-types.ensures
    (a.terms_seen c.args.context.now.entry c.args.context.now.table.now c.args.scope.now.names
    c.arguments_at.new.scope.names
    (map (type_at c.arguments_at.new.scope.types) c.as_slice-4.result.now)
    (map (instantiate c.in_ok-types.types) c.args.profile.now.arguments)
    (drop c.args.profile.now.parameters c.args.parts.now) (Err c.in_err-terms.field-0.0)
    names places c.in_err-terms.ensures.exact))

pub arguments_of-returns-clause-exact : goal.arguments_of-returns-clause-exact
arguments_of-returns-clause-exact t c =
    let numbered = c.numbers_of.new.scope in
    let names = c.in_ok-places.ensures.kept.names ∙ c.in_ok-numbers.ensures.kept.names in
    let places : map (type_at c.arguments_at.new.scope.types) c.as_slice-4.result.now
    ≡ map (instantiate c.in_ok-types.types) c.args.profile.now.arguments =
    ap (map (type_at c.arguments_at.new.scope.types)) c.as_slice-4.ensures
    ∙ n.asked_are numbered c.args.place c.args.profile.now
    (n.at_still c.args.scope.now numbered c.args.place c.args.profile.now
    c.in_ok-numbers.ensures.kept.grows.symbols c.requires.at)
    (map (type_at numbered.types) c.as_slice-3.result.now) c.in_ok-types.types
    (map (type_at c.arguments_at.new.scope.types) c.in_ok-places.places)
    (ap (map (type_at numbered.types)) c.as_slice-3.ensures ∙ c.in_ok-numbers.ensures.exact
    ∙ c.as_slice-2.ensures)
    c.in_ok-places.ensures.exact in
    a.arguments_done c.args.context.now.entry c.args.context.now.table.now c.args.scope.now.names (named_profile c.args.name.now c.args.profile.now) c.args.parts.now
    (rw c.as_slice.ensures at c.if-expected-parts.false) c.in_ok-types.types c.in_ok-terms.terms
    c.in_ok-types.ensures
    (a.terms_seen c.args.context.now.entry c.args.context.now.table.now c.args.scope.now.names
    c.arguments_at.new.scope.names
    (map (type_at c.arguments_at.new.scope.types) c.as_slice-4.result.now)
    (map (instantiate c.in_ok-types.types) c.args.profile.now.arguments)
    (drop c.args.profile.now.parameters c.args.parts.now) (Ok c.in_ok-terms.terms)
    names places c.in_ok-terms.ensures.exact)

pub arguments_of-returns-clause-numbers : goal.arguments_of-returns-clause-numbers
arguments_of-returns-clause-numbers t c =
    let first = c.numbers_of.new.scope.types in
    let last = c.terms_in_places.new.scope.types in
    let grows = (Keeps-twice c.numbers_of.new.scope c.arguments_at.new.scope c.terms_in_places.new.scope
    c.in_ok-places.ensures.kept c.in_ok-terms.ensures.kept).grows.types in (
      types_at-extended first last grows c.in_ok-numbers.numbers c.in_ok-numbers.ensures.numbers
          ∙ c.in_ok-numbers.ensures.exact ∙ c.as_slice-2.ensures,
      AreNumbers-extended first last grows c.in_ok-numbers.numbers c.in_ok-numbers.ensures.numbers,
    )

pub term_of-returns-in-Variable-clause-exact : goal.term_of-returns-in-Variable-clause-exact
term_of-returns-in-Variable-clause-exact t c =
    rw (c.in-Variable.is, l.term_reading-variable c.args.context.now.entry c.args.context.now.table.now c.in-Variable.name) c.variable.ensures.exact

pub term_of-returns-in-Apply-clause-exact : goal.term_of-returns-in-Apply-clause-exact
term_of-returns-in-Apply-clause-exact t c =
    rw (c.in-Apply.is, l.term_reading-apply c.args.context.now.entry c.args.context.now.table.now c.in-Apply.name c.in-Apply.parts)
    (rw c.as_slice.ensures at c.applied_term.ensures.exact)

pub term_of-returns-in-Individuals-clause-exact : goal.term_of-returns-in-Individuals-clause-exact
term_of-returns-in-Individuals-clause-exact t c =
    rw (c.in-Individuals.is, l.term_reading-individuals c.args.context.now.entry c.args.context.now.table.now)
    (a.answers-refused _ c.not_a_term.result no_term c.not_a_term.ensures)

pub terms_in_places-loop-i-init : goal.terms_in_places-loop-i-init
terms_in_places-loop-i-init t c =
    rw c.new-terms.ensures (record { before = answers-none; kept = Keeps-itself c.args.scope.now })

pub terms_in_places-returns-in_err-given-clause-exact : goal.terms_in_places-returns-in_err-given-clause-exact
terms_in_places-returns-in_err-given-clause-exact t c =
    let parts : List RawTerm = drop c.args.first c.args.parts.now in
    let inside : c.loop-i.i < length parts = omega (arith, length-drop {A = RawTerm}) in
    let types = c.args.scope.now.types in
    let places = map (type_at types) c.args.places.now in
    let within : c.loop-i.i < length places =
    omega (arith, c.loop-i-test.true, length-map c.args.places.now (type_at types)) in
    let at = c.index-parts-first.is ∙ sym (get_or-drop c.args.first c.args.parts.now c.loop-i.i c.index-parts-first.result) in
    answers-on
    (a.places_visit c.args.context.now.entry c.args.context.now.table.now c.args.scope.now.names places parts)
    c.from_residual.result c.in_err-given.field-0.0 c.from_residual.ensures
    (a.term_break c.args.context.now.entry c.args.context.now.table.now c.args.scope.now.names
    places parts c.loop-i.i c.loop-i.terms c.loop-i.invariant.before
    (get_or places c.loop-i.i (type.Var 0)) c.index-parts-first.result within inside
    (get_or-self places c.loop-i.i (type.Var 0) within) at c.in_err-given.field-0.0
    (rw c.loop-i.invariant.kept.names at c.in_err-given.ensures.exact))

pub terms_in_places-returns-in_err-term_in_place-clause-exact :
    goal.terms_in_places-returns-in_err-term_in_place-clause-exact
terms_in_places-returns-in_err-term_in_place-clause-exact t c =
    let old = c.args.scope.now.types in
    let new = c.term_of.new.scope.types in
    let number : TypeId = get_or c.args.places.now c.loop-i.i (record { index = 0 }) in
    let places = map (type_at old) c.args.places.now in
    let parts : List RawTerm = drop c.args.first c.args.parts.now in
    let inside : c.loop-i.i < length parts = omega (arith, length-drop {A = RawTerm}) in
    let within : c.loop-i.i < length places =
    omega (arith, c.loop-i-test.true, length-map c.args.places.now (type_at old)) in
    let at = c.index-parts-first.is ∙ sym (get_or-drop c.args.first c.args.parts.now c.loop-i.i c.index-parts-first.result) in
    let kept = Keeps-twice c.args.scope.now c.loop-i.scope c.term_of.new.scope
    c.loop-i.invariant.kept c.in_ok-given.ensures.kept in
    let is = n.place_at old new kept.grows.types c.args.places.now c.loop-i.i (record { index = 0 })
    c.loop-i-test.true c.requires.numbers in
    answers-on
    (a.places_visit c.args.context.now.entry c.args.context.now.table.now c.args.scope.now.names places parts)
    c.from_residual-in_err-term_in_place.result c.in_err-term_in_place.field-0.0
    c.from_residual-in_err-term_in_place.ensures
    (a.place_break c.args.context.now.entry c.args.context.now.table.now c.args.scope.now.names
    places parts c.loop-i.i c.loop-i.terms c.loop-i.invariant.before (type_at new number)
    c.index-parts-first.result within inside is at c.in_err-term_in_place.field-0.0
    (a.place_behind c.args.context.now.entry c.args.context.now.table.now c.args.scope.now.names
    (type_at new number)
    ((term_reading c.args.context.now.entry c.args.context.now.table.now c.index-parts-first.result).as_term c.args.scope.now.names)
    (typed_at new c.in_ok-given.given) (Err c.in_err-term_in_place.field-0.0)
    (rw c.loop-i.invariant.kept.names at c.in_ok-given.ensures.exact) c.in_err-term_in_place.ensures))

pub terms_in_places-loop-i-preserved : goal.terms_in_places-loop-i-preserved
terms_in_places-loop-i-preserved t c =
    let old = c.args.scope.now.types in
    let new = c.term_of.new.scope.types in
    let number : TypeId = get_or c.args.places.now c.loop-i.i (record { index = 0 }) in
    let places = map (type_at old) c.args.places.now in
    let parts : List RawTerm = drop c.args.first c.args.parts.now in
    let inside : c.loop-i.i < length parts = omega (arith, length-drop {A = RawTerm}) in
    let within : c.loop-i.i < length places =
    omega (arith, c.loop-i-test.true, length-map c.args.places.now (type_at old)) in
    let at = c.index-parts-first.is ∙ sym (get_or-drop c.args.first c.args.parts.now c.loop-i.i c.index-parts-first.result) in
    let kept = Keeps-twice c.args.scope.now c.loop-i.scope c.term_of.new.scope
    c.loop-i.invariant.kept c.in_ok-given.ensures.kept in
    let is = n.place_at old new kept.grows.types c.args.places.now c.loop-i.i (record { index = 0 })
    c.loop-i-test.true c.requires.numbers in
    rw c.in_ok-push.ensures.ok
    (record {
      before = a.place_next c.args.context.now.entry c.args.context.now.table.now
          c.args.scope.now.names places parts c.loop-i.i c.loop-i.terms c.loop-i.invariant.before
          (type_at new number) c.index-parts-first.result within inside is at
          c.in_ok-term_in_place.field-0
          (a.place_behind c.args.context.now.entry c.args.context.now.table.now
          c.args.scope.now.names (type_at new number)
          ((term_reading c.args.context.now.entry c.args.context.now.table.now c.index-parts-first.result).as_term c.args.scope.now.names)
          (typed_at new c.in_ok-given.given) (Ok c.in_ok-term_in_place.field-0)
          (rw c.loop-i.invariant.kept.names at c.in_ok-given.ensures.exact)
          c.in_ok-term_in_place.ensures);
      kept = kept;
    })

pub terms_in_places-returns-clause-exact : goal.terms_in_places-returns-clause-exact
terms_in_places-returns-clause-exact t c =
    let places = map (type_at c.args.scope.now.types) c.args.places.now in
    let past : length places ≤ c.loop-i.i =
    omega (arith, length-map c.args.places.now (type_at c.args.scope.now.types)) in
    let parts : List RawTerm = drop c.args.first c.args.parts.now in
    let behind : length parts ≤ c.loop-i.i = omega (arith, length-drop {A = RawTerm}) in
    a.places_whole c.args.context.now.entry c.args.context.now.table.now c.args.scope.now.names
    places parts c.loop-i.i c.loop-i.terms c.loop-i.invariant.before past behind
