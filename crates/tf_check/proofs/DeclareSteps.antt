-- One declaration, visited under the signature with what it declares.
use Rattle.std.proofs.Common.{◌≡◌, ℕ, ◌+◌, ◌==◌, ◌<◌, ◌≤◌, Bool, true, false, List, [], ◌∷◌, ◌++◌, length, nat_le, Some, None, is_some, option_map, unwrap_or, Result, Ok, Err, IsErr, IsErrAnd, refl, sym, ap, ◌∙◌, subst, arith, if◌then◌else◌}
use Rattle.std.proofs.lemmas.List.{length-append}
use Rattle.tf_core.specs.declared.signature.Constructor.{Constructor}
use Rattle.tf_core.specs.declared.signature.Symbol.{Symbol}
use Rattle.tf_core.specs.declared.signature.Signature.{Signature}
use Rattle.tf_check.specs.declared.error.TypeError.{TypeError}
use Rattle.tf_check.specs.declared.error.TypeError.TheVariants.{BadDeclaration, Redeclared, TooManySymbols}
use Rattle.tf_check.specs.declared.table.Profile.{Profile}
use Rattle.tf_check.specs.Answers.{Answers, IsFirst}
use Rattle.tf_check.specs.Entries.{Declared}
use Rattle.tf_check.specs.Equal.{same_profile}
use Rattle.tf_check.specs.Faults.{constructor_agrees, visited_constructor, symbol_agrees, visited_symbol}
use Rattle.tf_check.specs.Kinds.{kind}
use Rattle.tf_check.specs.Passes.{with_item, with_constructor, with_symbol, AreFew, Declares}
use Rattle.tf_check.specs.Signature.{declared_constructor, symbol_named, symbol_among}
use Rattle.tf_check.specs.Table.{constructor_at, named_profile}
use Rattle.tf_check.specs.Terms.{most_symbols, expect_number, number_of}
use Rattle.tf_check.specs.Types.{constructor_named, reading}
use Rattle.tf_check.specs.Visited.{Visited, bad, expect}
use Rattle.tf_check.proofs.AnswerLemmas.{answers-bind, answers-stop, answers-then, answers-then_stop, answers-pass, answers-fail}
use Rattle.tf_check.proofs.FirstLemmas.{found-last, with_item-known, with_item-new}
use Rattle.tf_check.proofs.FoundLemmas.{found_within}
use Rattle.tf_check.proofs.SameLemmas.{equal_test, differs_test, within_test, tested_within, same_profile-self, same_profile-equal}
use Rattle.tf_check.proofs.SymbolLemmas.{is_symbol, is_some-map}
use Rattle.tf_check.proofs.VisitLemmas.{clean-expect}

-- ---- answers

pub declares-refused : {A : Type 0} (visit : Visited A) (left after : Signature)
    (fault : TypeError) →
    Answers visit (Err fault) → Declares visit left after (Err fault)
declares-refused visit left after fault answers =
    record { clean = tt; refused = answers.refused; leaves = tt; few = tt }

pub declares-on : {A : Type 0} (visit : Visited A) (left after : Signature)
    (result : Result (Unit {0}) TypeError) (fault : TypeError) →
    IsErr result × IsErrAnd result (λ error. error ≡ fault) → Answers visit (Err fault) →
    Declares visit left after result
declares-on visit left after (Ok a) fault on answers = absurd on.1
declares-on visit left after (Err error) fault on answers =
    subst (λ e. Declares visit left after (Err e)) (sym on.1)
    (declares-refused visit left after fault answers)

-- a fault that is handed on
pub declares-first : {A : Type 0} (visit : Visited A) (left after : Signature)
    (result : Result (Unit {0}) TypeError) (fault : TypeError) →
    IsErr result × IsErrAnd result (λ error. error ≡ fault) → IsFirst visit.faults fault →
    Declares visit left after result
declares-first visit left after result fault on first =
    declares-on visit left after result fault on (record { exact = tt; refused = first })

pub declares-ok : {A : Type 0} (visit : Visited A) (left after : Signature) (a : A) →
    Answers visit (Ok a) →
    after ≡ left → AreFew after → Declares visit left after (Ok tt)
declares-ok visit left after a answers leaves few =
    record { clean = answers.exact.0; refused = tt; leaves = leaves; few = few }

-- a test that fails, where want of memory may take the place of its fault
answers-fail_by : (test : Bool) (fault error : TypeError) → test ≡ false →
    IsFirst (fault ∷ []) error →
    Answers (expect test fault) (Err error)
unfolding expect bad
answers-fail_by true fault error fails first = cc
answers-fail_by false fault error fails first = record { exact = tt; refused = first }

number_pass : (number : ℕ) → number ≤ most_symbols → Answers (expect_number number) (Ok tt)
number_pass number within =
    answers-pass (nat_le number most_symbols) (TooManySymbols (most_symbols + 1))
    (within_test number most_symbols within)

-- a number that is allowed
pub number_within : (number : ℕ) → Answers (expect_number number) (Ok tt) → number ≤ most_symbols
number_within number answers =
    tested_within number most_symbols
    (clean-expect (nat_le number most_symbols) (TooManySymbols (most_symbols + 1)) answers.exact.0)

abbrev constructor_name : Constructor → List ℕ
constructor_name constructor = constructor.name

abbrev symbol_name : Symbol → List ℕ
symbol_name symbol = symbol.name

-- ---- constructors

module _ (g : Signature) (d : Declared) where
  pub constructor_bad : None ≡ (kind d.body).arity →
      Answers (visited_constructor (with_constructor g d) d) (Err (BadDeclaration d.entry))
  constructor_bad none =
      answers-then_stop (expect (is_some (kind d.body).arity) (BadDeclaration d.entry))
      (constructor_agrees d (declared_constructor d).arity
      (constructor_named d.name (with_constructor g d).constructors))
      (BadDeclaration d.entry)
      (answers-fail (is_some (kind d.body).arity) (BadDeclaration d.entry) (ap is_some (sym none)))

  module _ (arity : ℕ) (declared : Some arity ≡ (kind d.body).arity) where
    own_arity : (declared_constructor d).arity ≡ arity
    own_arity = ap (λ a. unwrap_or a 0) (sym declared)

    by_agreement : (result : Result (Unit {0}) TypeError) →
        Answers (constructor_agrees d (declared_constructor d).arity
        (constructor_named d.name (with_constructor g d).constructors)) result →
        Answers (visited_constructor (with_constructor g d) d) result
    by_agreement result agrees =
        answers-then (expect (is_some (kind d.body).arity) (BadDeclaration d.entry))
        (constructor_agrees d (declared_constructor d).arity
        (constructor_named d.name (with_constructor g d).constructors))
        result
        (answers-pass (is_some (kind d.body).arity) (BadDeclaration d.entry)
        (ap is_some (sym declared)))
        agrees

    module _ (place : ℕ) (first : Constructor)
        (named : constructor_named d.name g.constructors ≡ Some (place, first))
      where
        pub known_constructor : with_constructor g d ≡ g
        known_constructor =
            ap (λ (cs : List Constructor). record g { constructors = cs })
            (with_item-known constructor_name g.constructors (declared_constructor d)
            (place, first) named)

        at_known : (result : Result (Unit {0}) TypeError) →
            Answers (constructor_agrees d (declared_constructor d).arity (Some (place, first)))
            result →
            Answers (visited_constructor (with_constructor g d) d) result
        at_known result agrees =
            by_agreement result
            (subst (λ at. Answers (constructor_agrees d (declared_constructor d).arity at) result)
            (sym (ap (λ (h : Signature). constructor_named d.name h.constructors)
            known_constructor ∙ named))
            agrees)

        pub constructor_same : first.arity ≡ arity → place < 65536 →
            Answers (visited_constructor (with_constructor g d) d) (Ok tt)
        constructor_same same within =
            at_known (Ok tt)
            (answers-then (expect (first.arity == (declared_constructor d).arity)
            (Redeclared d.entry d.name))
            (expect_number place) (Ok tt)
            (answers-pass (first.arity == (declared_constructor d).arity)
            (Redeclared d.entry d.name)
            (equal_test first.arity (declared_constructor d).arity (same ∙ sym own_arity)))
            (number_pass place (omega arith)))

        pub constructor_differs : (error : TypeError) → (first.arity ≡ arity → ⊥) →
            IsFirst (Redeclared d.entry d.name ∷ []) error →
            Answers (visited_constructor (with_constructor g d) d) (Err error)
        constructor_differs error differs redeclared =
            at_known (Err error)
            (answers-then_stop (expect (first.arity == (declared_constructor d).arity)
            (Redeclared d.entry d.name))
            (expect_number place) error
            (answers-fail_by (first.arity == (declared_constructor d).arity)
            (Redeclared d.entry d.name) error
            (differs_test first.arity (declared_constructor d).arity
            (λ same. differs (same ∙ own_arity)))
            redeclared))

    module _ (none : constructor_named d.name g.constructors ≡ None) where
      pub new_constructor : with_constructor g d
          ≡ record g {
            constructors = g.constructors
                ++ record { name = d.name; arity = arity } ∷ [];
          }
      new_constructor =
          ap (λ (cs : List Constructor). record g { constructors = cs })
          (with_item-new constructor_name g.constructors (declared_constructor d) none
          ∙ ap (λ a. g.constructors ++ record { name = d.name; arity = a } ∷ []) own_arity)

      at_new : constructor_named d.name (with_constructor g d).constructors
          ≡ Some (length g.constructors, declared_constructor d)
      at_new =
          ap (constructor_named d.name)
          (with_item-new constructor_name g.constructors (declared_constructor d) none)
          ∙ found-last constructor_name g.constructors (declared_constructor d) none

      pub constructor_new : (result : Result (Unit {0}) TypeError) →
          Answers (expect_number (number_of g 0)) result →
          Answers (visited_constructor (with_constructor g d) d) result
      constructor_new result number =
          let place : number_of g 0 ≡ length g.constructors = omega arith in
          by_agreement result
          (subst (λ at. Answers (constructor_agrees d (declared_constructor d).arity at) result)
          (sym at_new)
          (answers-then
          (expect ((declared_constructor d).arity == (declared_constructor d).arity)
          (Redeclared d.entry d.name))
          (expect_number (length g.constructors)) result
          (answers-pass ((declared_constructor d).arity == (declared_constructor d).arity)
          (Redeclared d.entry d.name)
          (equal_test (declared_constructor d).arity (declared_constructor d).arity refl))
          (subst (λ n. Answers (expect_number n) result) place number)))

      pub few_constructors : Answers (expect_number (number_of g 0)) (Ok tt) → g.symbols ≡ [] →
          AreFew (record g {
            constructors = g.constructors
                ++ record { name = d.name; arity = arity } ∷ [];
          })
      few_constructors number alone =
          omega (
            arith,
            number_within (number_of g 0) number,
            ap (λ (ss : List Symbol). length ss) alone,
            length-append {A = Constructor} g.constructors
                (record { name = d.name; arity = arity } ∷ []),
          )

-- ---- symbols

-- the name of a constructor is that of no symbol
hidden_symbol : (g : Signature) (name : List ℕ) (answer : Bool) →
    answer ≡ is_some (option_map constructor_at (constructor_named name g.constructors)) → answer
    ≡ true →
    symbol_named name g ≡ None
hidden_symbol g name answer is holds =
    let test : is_some (constructor_named name g.constructors) ≡ true =
    sym (is_some-map constructor_at (constructor_named name g.constructors)) ∙ sym is ∙ holds in
    ap (λ (b : Bool). if b then None else symbol_among name g.symbols) test

module _ (g : Signature) (d : Declared) where
  pub symbol_bad : (fault : TypeError) →
      Answers ((reading d.entry g.constructors d.body).as_symbol d.name []) (Err fault) →
      Answers (visited_symbol (with_symbol g d) d) (Err fault)
  symbol_bad fault one =
      answers-stop ((reading d.entry g.constructors d.body).as_symbol d.name [])
      (λ s. symbol_agrees (with_symbol g d) d s (symbol_named d.name (with_symbol g d))) fault one

  module _ (symbol : Symbol) (own : symbol.name ≡ d.name)
      (visited : Answers ((reading d.entry g.constructors d.body).as_symbol d.name []) (Ok symbol))
    where
      left_is : with_symbol g d ≡ record g { symbols = with_item symbol_name g.symbols symbol }
      left_is =
          ap (λ (s : Symbol). record g { symbols = with_item symbol_name g.symbols s })
          visited.exact.1

      agreed : (h : Signature) (result : Result (Unit {0}) TypeError) → with_symbol g d ≡ h →
          Answers (symbol_agrees h d symbol (symbol_named d.name h)) result →
          Answers (visited_symbol (with_symbol g d) d) result
      agreed h result is agrees =
          answers-bind ((reading d.entry g.constructors d.body).as_symbol d.name [])
          (λ s. symbol_agrees (with_symbol g d) d s (symbol_named d.name (with_symbol g d)))
          symbol result visited
          (subst (λ (k : Signature). Answers (symbol_agrees k d symbol (symbol_named d.name k))
          result) (sym is)
          agrees)

      -- a name that is a constructor
      pub symbol_hidden : (answer : Bool) (error : TypeError) →
          answer ≡ is_some (option_map constructor_at (constructor_named d.name g.constructors)) →
          answer ≡ true → IsFirst (Redeclared d.entry d.name ∷ []) error →
          Answers (visited_symbol (with_symbol g d) d) (Err error)
      symbol_hidden answer error is holds redeclared =
          agreed (with_symbol g d) (Err error) refl
          (subst (λ at. Answers (symbol_agrees (with_symbol g d) d symbol at) (Err error))
          (sym (hidden_symbol (with_symbol g d) d.name answer is holds))
          (answers-fail_by false (Redeclared d.entry d.name) error refl redeclared))

      module _ (answer : Bool)
          (tested : answer ≡ is_some
          (option_map constructor_at (constructor_named d.name g.constructors)))
          (fails : answer ≡ false)
        where
          module _ (place : ℕ) (first : Symbol)
              (named : symbol_named d.name g ≡ Some (place, first)) where
            among : symbol_among d.name g.symbols ≡ Some (place, first)
            among = sym (is_symbol g d.name answer tested fails) ∙ named

            pub known_symbol : with_symbol g d ≡ g
            known_symbol =
                left_is
                ∙ ap (λ (ss : List Symbol). record g { symbols = ss })
                (with_item-known symbol_name g.symbols symbol (place, first)
                (ap (λ n. symbol_among n g.symbols) own ∙ among))

            at_known_symbol : (result : Result (Unit {0}) TypeError) →
                Answers (symbol_agrees g d symbol (Some (place, first))) result →
                Answers (visited_symbol (with_symbol g d) d) result
            at_known_symbol result agrees =
                agreed g result known_symbol
                (subst (λ at. Answers (symbol_agrees g d symbol at) result) (sym named) agrees)

            pub symbol_same : AreFew g → first ≡ symbol →
                Answers (visited_symbol (with_symbol g d) d) (Ok tt)
            symbol_same few same =
                let below : place < length g.symbols =
                found_within symbol_name d.name g.symbols place first among in
                at_known_symbol (Ok tt)
                (answers-then (expect (same_profile first symbol) (Redeclared d.entry d.name))
                (expect_number (number_of g place)) (Ok tt)
                (answers-pass (same_profile first symbol) (Redeclared d.entry d.name)
                (ap (λ (s : Symbol). same_profile s symbol) same ∙ same_profile-self symbol))
                (number_pass (number_of g place) (omega arith)))

            pub symbol_differs : (error : TypeError) → same_profile first symbol ≡ false →
                IsFirst (Redeclared d.entry d.name ∷ []) error →
                Answers (visited_symbol (with_symbol g d) d) (Err error)
            symbol_differs error differs redeclared =
                at_known_symbol (Err error)
                (answers-then_stop (expect (same_profile first symbol) (Redeclared d.entry d.name))
                (expect_number (number_of g place)) error
                (answers-fail_by (same_profile first symbol) (Redeclared d.entry d.name) error
                differs redeclared))

          module _ (none : symbol_named d.name g ≡ None) where
            missing : symbol_among symbol.name g.symbols ≡ None
            missing =
                ap (λ n. symbol_among n g.symbols) own
                ∙ sym (is_symbol g d.name answer tested fails) ∙ none

            abbrev grown : Signature
            grown = record g { symbols = g.symbols ++ symbol ∷ [] }

            pub new_symbol : with_symbol g d ≡ record g { symbols = g.symbols ++ symbol ∷ [] }
            new_symbol =
                left_is
                ∙ ap (λ (ss : List Symbol). record g { symbols = ss })
                (with_item-new symbol_name g.symbols symbol missing)

            at_new_symbol : symbol_named d.name grown ≡ Some (length g.symbols, symbol)
            at_new_symbol =
                is_symbol grown d.name answer tested fails
                ∙ ap (λ n. symbol_among n (g.symbols ++ symbol ∷ [])) (sym own)
                ∙ found-last symbol_name g.symbols symbol missing

            pub symbol_new : (result : Result (Unit {0}) TypeError) →
                Answers (expect_number (number_of g (length g.symbols))) result →
                Answers (visited_symbol (with_symbol g d) d) result
            symbol_new result number =
                agreed grown result new_symbol
                (subst (λ at. Answers (symbol_agrees grown d symbol at) result) (sym at_new_symbol)
                (answers-then (expect (same_profile symbol symbol) (Redeclared d.entry d.name))
                (expect_number (number_of g (length g.symbols))) result
                (answers-pass (same_profile symbol symbol) (Redeclared d.entry d.name)
                (same_profile-self symbol))
                number))

            pub few_symbols : Answers (expect_number (number_of g (length g.symbols))) (Ok tt) →
                AreFew (record g { symbols = g.symbols ++ symbol ∷ [] })
            few_symbols number =
                omega (
                  arith,
                  number_within (number_of g (length g.symbols)) number,
                  length-append {A = Symbol} g.symbols (symbol ∷ []),
                )

-- ---- types of symbols

abbrev profile_of : Symbol → Profile
profile_of s = record { parameters = s.parameters; arguments = s.arguments; result = s.result }

-- different types of one name
pub profiles_differ : (name : List ℕ) (a b : Profile) → (a ≡ b → ⊥) →
    same_profile (named_profile name a) (named_profile name b) ≡ false
profiles_differ name a b differs = by (same_profile (named_profile name a) (named_profile name b))
    refl
  where
    by : (same : Bool) → same_profile (named_profile name a) (named_profile name b) ≡ same → same
        ≡ false
    by true is =
        let equal : named_profile name a ≡ named_profile name b =
        same_profile-equal (named_profile name a) (named_profile name b) refl is in
        absurd (differs (ap profile_of equal))
    by false is = refl
