-- What a test of the parts of a term makes.
use Rattle.std.specs.Prelude.{ℕ, suc, ◌≡◌, ◌↔◌, Bool, true, false, ◌&&◌, List, [], ◌∷◌, map, length, slice_get, Option, Some, None, IsTrue, IfOk}
use Rattle.std.proofs.Common.{refl, sym, ap, subst, ◌∙◌, Result, Ok, Err}
use Rattle.tf_core.specs.declared.ty.Ty.{Ty}
use Rattle.tf_core.specs.declared.term.Term.{Term}
use Rattle.tf_core.specs.declared.term.Term.TheVariants as term
use Rattle.tf_core.specs.declared.signature.Symbol.{Symbol}
use Rattle.tf_core.specs.declared.signature.Signature.{Signature}
use Rattle.tf_core.specs.Types.{instantiate, pass_in_order}
use Rattle.tf_core.specs.TypingTests.{is_of_type, takes_types, gives, is_function, has_type, is_type, is_equation_test}
use Rattle.tf_core.proofs.TypingTests.{has_type-variable, has_type-apply}
use Rattle.tf_core.proofs.Compared.{same_type-decided, instantiate-none}

-- two tests in a row
module _ (a first : Bool) (is : a ≡ first) where
  pub and_then : (b second : Bool) → a ≡ true → b ≡ second → b ≡ (first && second)
  and_then b second holds both = both ∙ ap (λ x. x && second) (sym holds ∙ is)

  pub and_else : (second : Bool) → a ≡ false → a ≡ (first && second)
  and_else second fails = fails ∙ ap (λ x. x && second) (sym fails ∙ is)

never_both : (a b : Bool) → false ≡ b → false ≡ (a && b)
never_both true b never = never
never_both false b never = refl

-- the last two of three tests in either order
last_two : (a b c : Bool) → ((a && b) && c) ≡ ((a && c) && b)
last_two false b c = refl
last_two true false false = refl
last_two true false true = refl
last_two true true false = refl
last_two true true true = refl

-- as many items as tests, or none pass
pub pass_in_order-lengths : {A B C : Type 0} (f : A → C → Bool) (g : B → C) (tests : List A)
    (items : List B) → (length tests ≡ length items → ⊥) →
    false ≡ pass_in_order (map f tests) (map g items)
pass_in_order-lengths f g [] [] differ = absurd (differ refl)
pass_in_order-lengths f g [] (item ∷ items) differ = refl
pass_in_order-lengths f g (test ∷ tests) [] differ = refl
pass_in_order-lengths f g (test ∷ tests) (item ∷ items) differ =
    never_both (f test (g item)) (pass_in_order (map f tests) (map g items))
    (pass_in_order-lengths f g tests items (λ same. differ (ap (λ n. suc n) same)))

module _ (g : Signature) (variables : ℕ) (context : List Ty) (t : Term) (expected : Ty) where
  -- a variable

  pub variable_decided : (i : ℕ) (found : Option Ty) (ty : Ty) (answer : Bool) → t ≡ term.Var i →
      found ≡ slice_get context i → found ≡ Some ty → IsTrue answer ↔ (expected ≡ ty) →
      answer ≡ has_type g variables context t expected
  variable_decided i found ty answer is at there decides =
      same_type-decided answer ty expected
      (λ yes. sym (decides.0 yes), λ same. decides.1 (sym same))
      ∙ sym (ap (λ x. has_type g variables context x expected) is
      ∙ has_type-variable g variables context i expected
      ∙ ap (λ x. is_of_type x expected) (sym at ∙ there))

  pub variable_missing : (i : ℕ) (found : Option Ty) → t ≡ term.Var i →
      found ≡ slice_get context i → found ≡ None →
      false ≡ has_type g variables context t expected
  variable_missing i found is at there =
      sym (ap (λ x. has_type g variables context x expected) is
      ∙ has_type-variable g variables context i expected
      ∙ ap (λ x. is_of_type x expected) (sym at ∙ there))

  -- an application

  module _ (f : ℕ) (types : List Ty) (terms : List Term) (is : t ≡ term.Apply f types terms) where
    pub symbol_missing : slice_get g.symbols f ≡ None →
        false ≡ has_type g variables context t expected
    symbol_missing at =
        sym (ap (λ x. has_type g variables context x expected) is
        ∙ has_type-apply g variables context f types terms expected
        ∙ ap (λ x. is_function g variables x types (map (has_type g variables context) terms) expected) at)

    -- the symbol that stands in its place
    module _ (symbol : Symbol) (at : slice_get g.symbols f ≡ Some symbol) where
      abbrev offer : Bool
      offer = takes_types g variables symbol types && gives symbol.result types expected

      abbrev pass : Bool
      pass = pass_in_order (map (has_type g variables context) terms)
          (map (instantiate types) symbol.arguments)

      application_is : (offer && pass) ≡ has_type g variables context t expected
      application_is =
          last_two (takes_types g variables symbol types) (gives symbol.result types expected) pass
          ∙ sym (ap (λ x. has_type g variables context x expected) is
          ∙ has_type-apply g variables context f types terms expected
          ∙ ap (λ x. is_function g variables x types (map (has_type g variables context) terms) expected)
          at)

      module _ (offered : Bool) (offered_is : offered ≡ offer) where
        pub application_then : (passed : Bool) → offered ≡ true → passed ≡ pass →
            passed ≡ has_type g variables context t expected
        application_then passed holds passed_is =
            and_then offered offer offered_is passed pass holds passed_is ∙ application_is

        pub application_else : offered ≡ false → offered ≡ has_type g variables context t expected
        application_else fails = and_else offered offer offered_is pass fails ∙ application_is

-- an equation, at no types for its type's variables
pub equation_is : (g : Signature) (variables : ℕ) (context : List Ty) (ty : Ty) (left right : Term) →
    (is_type g variables ty && (has_type g variables context left (instantiate [] ty)
    && has_type g variables context right (instantiate [] ty)))
    ≡ is_equation_test g variables context ty left right
equation_is g variables context ty left right =
    ap (λ x. is_type g variables ty
    && (has_type g variables context left x && has_type g variables context right x))
    (instantiate-none ty)

-- a result that answers one test answers each that is equal
pub answered : {E : Type 0} (result : Result Bool E) (answer other : Bool) →
    IfOk result (λ is. is ≡ answer) → answer ≡ other → IfOk result (λ is. is ≡ other)
answered result answer other holds same = subst (λ x. IfOk result (λ is. is ≡ x)) same holds

-- what holds of a result's value implies of it
pub answer_says : {E : Type 0} (P Q : Bool → Type 0) → ((answer : Bool) → P answer → Q answer) →
    (result : Result Bool E) → IfOk result P → IfOk result Q
answer_says P Q says (Ok answer) holds = says answer holds
answer_says P Q says (Err error) holds = holds
