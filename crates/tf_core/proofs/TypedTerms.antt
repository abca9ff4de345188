-- The typing relations of terms and formulas and their tests say the same.
use Rattle.std.specs.Prelude.{ℕ, ◌≡◌, ◌↔◌, ◌&&◌, List, [], ◌∷◌, map, length, eqb, slice_get, Option, Some, None, IsTrue}
use Rattle.std.specs.List.{AllByRecursion}
use Rattle.std.proofs.Common.{refl, sym, ap, ◌∙◌, subst}
use Rattle.std.proofs.lemmas.Bool.{and_parts, and_from, eqb-true, eq-eqb, false≢true}
use Rattle.tf_core.specs.declared.ty.Ty.{Ty}
use Rattle.tf_core.specs.declared.term.Term.{Term}
use Rattle.tf_core.specs.declared.term.Term.TheVariants as term
use Rattle.tf_core.specs.declared.signature.Symbol.{Symbol}
use Rattle.tf_core.specs.declared.signature.Signature.{Signature}
use Rattle.tf_core.specs.Types.{pass_in_order, instantiate}
use Rattle.tf_core.specs.Typing.{AreTypes, HasType, of_variable, of_apply, HaveTypes, no_terms, more_terms, IsAtom, IsEquation}
use Rattle.tf_core.specs.TypingTests.{is_of_type, takes_types, fit, gives, gives_nothing, is_function, is_predicate, is_atom_test, is_equation_test, is_type, are_types, has_type}
use Rattle.tf_core.proofs.TypingTests.{has_type-variable, has_type-apply}
use Rattle.tf_core.proofs.Induction.{term_induction}
use Rattle.tf_core.proofs.Typed.{AreTypes-from, are_types-from, IsType-from, is_type-from, same_type-says, same_type-self}

module _ (g : Signature) (variables : ℕ) (context : List Ty) where
  abbrev HasTypeFrom : Term → Type 0
  HasTypeFrom t = (ty : Ty) → IsTrue (has_type g variables context t ty) → HasType g variables context t ty

  variable_says : (found : Option Ty) (ty : Ty) → IsTrue (is_of_type found ty) → found ≡ Some ty
  variable_says None ty holds = absurd (false≢true holds)
  variable_says (Some declared) ty holds = ap (λ x. Some x) (same_type-says declared ty holds)

  have_from : (terms : List Term) (types : List Ty) → AllByRecursion HasTypeFrom terms →
      IsTrue (pass_in_order (map (has_type g variables context) terms) types) →
      HaveTypes g variables context terms types
  have_from [] [] each holds = no_terms
  have_from [] (ty ∷ types) each holds = absurd (false≢true holds)
  have_from (t ∷ terms) [] each holds = absurd (false≢true holds)
  have_from (t ∷ terms) (ty ∷ types) each holds =
      let parts = and_parts (has_type g variables context t ty) (pass_in_order (map (has_type g variables context) terms) types) holds in
      more_terms t ty terms types (each.0 ty parts.0) (have_from terms types each.1 parts.1)

  -- what a fitting symbol says
  module _ (f : ℕ) (types : List Ty) (terms : List Term) (each : AllByRecursion HasTypeFrom terms) where
    fit_says : (symbol : Symbol) → IsTrue (fit g variables symbol types (map (has_type g variables context) terms)) →
        (length types ≡ symbol.parameters) × AreTypes g variables types
        × HaveTypes g variables context terms (map (instantiate types) symbol.arguments)
    fit_says symbol holds =
        let first = and_parts (takes_types g variables symbol types)
        (pass_in_order (map (has_type g variables context) terms) (map (instantiate types) symbol.arguments)) holds in
        let second = and_parts (eqb (length types) symbol.parameters) (are_types g variables types) first.0 in (
          eqb-true (length types) symbol.parameters second.0,
          AreTypes-from g variables types second.1,
          have_from terms (map (instantiate types) symbol.arguments) each first.1,
        )

    gives_says : (result : Option Ty) (ty : Ty) → IsTrue (gives result types ty) →
        (r : Ty) × (result ≡ Some r) × (instantiate types r ≡ ty)
    gives_says None ty holds = absurd (false≢true holds)
    gives_says (Some r) ty holds = (r, refl, same_type-says (instantiate types r) ty holds)

    function_says : (found : Option Symbol) (ty : Ty) → slice_get g.symbols f ≡ found →
        IsTrue (is_function g variables found types (map (has_type g variables context) terms) ty) →
        HasType g variables context (term.Apply f types terms) ty
    function_says None ty at holds = absurd (false≢true holds)
    function_says (Some symbol) ty at holds =
        let parts = and_parts (fit g variables symbol types (map (has_type g variables context) terms)) (gives symbol.result types ty) holds in
        let fits = fit_says symbol parts.0 in
        let result = gives_says symbol.result ty parts.1 in
        subst (HasType g variables context (term.Apply f types terms)) result.2
        (of_apply f symbol result.0 types terms
        (record { at = at; gives = result.1; count = fits.0; formed = fits.1 }) fits.2)

    nothing_says : (result : Option Ty) → IsTrue (gives_nothing result) → result ≡ None
    nothing_says None holds = refl
    nothing_says (Some r) holds = absurd (false≢true holds)

    predicate_says : (found : Option Symbol) → slice_get g.symbols f ≡ found →
        IsTrue (is_predicate g variables found types (map (has_type g variables context) terms)) →
        (symbol : Symbol) × IsAtom g variables context f symbol types terms
    predicate_says None at holds = absurd (false≢true holds)
    predicate_says (Some symbol) at holds =
        let parts = and_parts (fit g variables symbol types (map (has_type g variables context) terms)) (gives_nothing symbol.result) holds in
        let fits = fit_says symbol parts.0 in (
          symbol,
          record {
            predicate = record { at = at; gives = nothing_says symbol.result parts.1; count = fits.0; formed = fits.1 };
            arguments = fits.2;
          },
        )

  pub HasType-from : (t : Term) → HasTypeFrom t
  HasType-from = term_induction HasTypeFrom
      (λ i ty holds.
      of_variable i ty (variable_says (slice_get context i) ty (sym (has_type-variable g variables context i ty) ∙ holds)))
      (λ f types terms each ty holds.
      function_says f types terms each (slice_get g.symbols f) ty refl
      (sym (has_type-apply g variables context f types terms ty) ∙ holds))

  each_from : (terms : List Term) → AllByRecursion HasTypeFrom terms
  each_from [] = tt
  each_from (t ∷ terms) = (HasType-from t, each_from terms)

  fit_from : (symbol : Symbol) (types : List Ty) (terms : List Term) → length types ≡ symbol.parameters →
      AreTypes g variables types →
      IsTrue (pass_in_order (map (has_type g variables context) terms) (map (instantiate types) symbol.arguments)) →
      IsTrue (fit g variables symbol types (map (has_type g variables context) terms))
  fit_from symbol types terms count formed pass =
      and_from (takes_types g variables symbol types) _
      (and_from (eqb (length types) symbol.parameters) (are_types g variables types)
      (eq-eqb (length types) symbol.parameters count) (are_types-from g variables types formed))
      pass

  mutual
    pub has_type-from : (t : Term) (ty : Ty) → HasType g variables context t ty →
        IsTrue (has_type g variables context t ty)
    has_type-from t ty (of_variable i declared at) =
        has_type-variable g variables context i ty
        ∙ ap (λ found. is_of_type found ty) at ∙ same_type-self ty
    has_type-from t ty (of_apply f symbol result types terms instance typed) =
        has_type-apply g variables context f types terms ty
        ∙ ap (λ found. is_function g variables found types (map (has_type g variables context) terms) ty) instance.at
        ∙ and_from (fit g variables symbol types (map (has_type g variables context) terms)) (gives symbol.result types ty)
        (fit_from symbol types terms instance.count instance.formed
        (have_types-from terms (map (instantiate types) symbol.arguments) typed))
        (ap (λ r. gives r types ty) instance.gives ∙ same_type-self ty)

    pub have_types-from : (terms : List Term) (types : List Ty) → HaveTypes g variables context terms types →
        IsTrue (pass_in_order (map (has_type g variables context) terms) types)
    have_types-from terms types no_terms = refl
    have_types-from terms types (more_terms t ty others rest typed typed_rest) =
        and_from (has_type g variables context t ty) (pass_in_order (map (has_type g variables context) others) rest)
        (has_type-from t ty typed) (have_types-from others rest typed_rest)

  -- atoms and equations

  pub IsAtom-from : (f : ℕ) (types : List Ty) (terms : List Term) →
      IsTrue (is_atom_test g variables context f types terms) →
      (symbol : Symbol) × IsAtom g variables context f symbol types terms
  IsAtom-from f types terms holds =
      predicate_says f types terms (each_from terms) (slice_get g.symbols f) refl holds

  pub is_atom_test-from : (f : ℕ) (symbol : Symbol) (types : List Ty) (terms : List Term) →
      IsAtom g variables context f symbol types terms → IsTrue (is_atom_test g variables context f types terms)
  is_atom_test-from f symbol types terms atom =
      ap (λ found. is_predicate g variables found types (map (has_type g variables context) terms)) atom.predicate.at
      ∙ and_from (fit g variables symbol types (map (has_type g variables context) terms)) (gives_nothing symbol.result)
      (fit_from symbol types terms atom.predicate.count atom.predicate.formed
      (have_types-from terms (map (instantiate types) symbol.arguments) atom.arguments))
      (ap gives_nothing atom.predicate.gives)

  pub equation_says : (ty : Ty) (left right : Term) →
      IsTrue (is_equation_test g variables context ty left right) ↔ IsEquation g variables context ty left right
  equation_says ty left right = (
    λ holds.
        let first = and_parts (is_type g variables ty) (has_type g variables context left ty && has_type g variables context right ty) holds in
        let second = and_parts (has_type g variables context left ty) (has_type g variables context right ty) first.1 in
        record {
          formed = IsType-from g variables ty first.0;
          left_side = HasType-from left ty second.0;
          right_side = HasType-from right ty second.1;
        },
    λ equation.
        and_from (is_type g variables ty) _ (is_type-from g variables ty equation.formed)
        (and_from (has_type g variables context left ty) (has_type g variables context right ty)
        (has_type-from left ty equation.left_side) (has_type-from right ty equation.right_side)),
  )
