-- What answers say of the visits of terms.
use Rattle.std.proofs.Common.{◌≡◌, ℕ, zero, suc, ◌+◌, ◌<◌, ◌==◌, Bool, true, false, List, [], ◌∷◌, ◌++◌, length, map, take, drop, get_or, nat_le, ◌≤◌, zip, Option, Some, None, Result, Ok, Err, refl, sym, ap, ◌∙◌, subst, arith}
use Rattle.std.specs.Result.{IsErrAnd}
use Rattle.std.proofs.lemmas.List.{length-map, take-map, drop-map, take_all}
use Rattle.tptp_syntax.specs.declared.term.RawTerm.{RawTerm}
use Rattle.tf_core.specs.declared.ty.Ty.{Ty}
use Rattle.tf_core.specs.declared.ty.Ty.TheVariants as type
use Rattle.tf_core.specs.declared.term.Term.{Term}
use Rattle.tf_core.specs.declared.term.Term.TheVariants as term
use Rattle.tf_core.specs.declared.formula.Formula.{Formula}
use Rattle.tf_core.specs.declared.formula.Formula.TheVariants as formula
use Rattle.tf_core.specs.declared.signature.Constructor.{Constructor}
use Rattle.tf_core.specs.declared.signature.Symbol.{Symbol}
use Rattle.tf_core.specs.declared.signature.Signature.{Signature}
use Rattle.tf_core.specs.Types.{instantiate, same_type}
use Rattle.tf_check.specs.declared.error.TypeError.{TypeError}
use Rattle.tf_check.specs.declared.error.TypeError.TheVariants.{Arity, Mismatch, NotATerm, NotAFormula, TooManySymbols}
use Rattle.tf_check.specs.Answers.{Answers, IsFirst}
use Rattle.tf_check.specs.declared.terms.Arguments.{Arguments}
use Rattle.tf_check.specs.Scope.{Scope}
use Rattle.tf_check.specs.Types.{constructor_place, type_applied}
use Rattle.tf_check.specs.Terms.{Typed, no_term, TermReading, term_reading, type_readings, term_readings, term_in_place, terms_in_places, arguments_of, expect_number, number_of, most_symbols, function_applied, term_applied, predicate_applied, atom_applied}
use Rattle.tf_check.specs.Signature.{symbol_named}
use Rattle.tf_check.proofs.VisitLemmas.{clean-expect}
use Rattle.tf_check.specs.Visited.{Visited, good, bad, expect, in_turn, ◌>>=◌, ◌>>◌}
use Rattle.tf_check.proofs.AnswerLemmas.{answers-good, answers-bind, answers-stop, answers-then, answers-then_stop, answers-pass, answers-fail, answers-failed, answers-push, answers-in_turn_stop}
use Rattle.tf_check.proofs.SameLemmas.{equal_test, differs_test, tested_within, same_type-self, same_type-equal}

-- a refusal, or want of memory
pub answers-refused : {A : Type 0} (fault error : TypeError) (a : A) → IsFirst (fault ∷ []) error →
    Answers (bad fault a) (Err error)
unfolding bad
answers-refused fault error a first = record { exact = tt; refused = first }

-- a fault that is passed on
pub passed_on : {A : Type 0} (visit : Visited A) (answer : Result A TypeError) (fault : TypeError) →
    IsErrAnd answer (λ error. error ≡ fault) → Answers visit (Err fault) → Answers visit answer
passed_on visit (Ok a) fault is one = absurd is
passed_on visit (Err error) fault is one = subst (λ e. Answers visit (Err e)) (sym is) one

is_false : (b : Bool) → (b ≡ true → ⊥) → b ≡ false
is_false true differs = absurd (differs refl)
is_false false differs = refl

-- ---- types that are applied

module _ (entry : ℕ) (name : List ℕ) (at : Option (ℕ × Constructor)) (arguments : List (Visited Ty))
    (count : ℕ) (counted : length arguments ≡ count)
  where
    abbrev rest : ℕ → Visited Ty
    rest place = in_turn arguments >>= λ types. good (type.Apply place types)

    pub applied_refused : (fault : TypeError) → Answers (constructor_place entry name count at) (Err fault) →
        Answers (type_applied entry name at arguments) (Err fault)
    applied_refused fault one =
        answers-stop (constructor_place entry name (length arguments) at) rest fault
        (subst (λ n. Answers (constructor_place entry name n at) (Err fault)) (sym counted) one)

    after : (place : ℕ) (answer : Result Ty TypeError) → Answers (constructor_place entry name count at) (Ok place) →
        Answers (rest place) answer → Answers (type_applied entry name at arguments) answer
    after place answer one two =
        answers-bind (constructor_place entry name (length arguments) at) rest place answer
        (subst (λ n. Answers (constructor_place entry name n at) (Ok place)) (sym counted) one) two

    pub applied_stop : (place : ℕ) (fault : TypeError) →
        Answers (constructor_place entry name count at) (Ok place) → Answers (in_turn arguments) (Err fault) →
        Answers (type_applied entry name at arguments) (Err fault)
    applied_stop place fault one two =
        after place (Err fault) one
        (answers-stop (in_turn arguments) (λ types. good (type.Apply place types)) fault two)

    pub applied_done : (place : ℕ) (types : List Ty) → Answers (constructor_place entry name count at) (Ok place) →
        Answers (in_turn arguments) (Ok types) →
        Answers (type_applied entry name at arguments) (Ok (type.Apply place types))
    applied_done place types one two =
        after place (Ok (type.Apply place types)) one
        (answers-bind (in_turn arguments) (λ ts. good (type.Apply place ts)) types
        (Ok (type.Apply place types)) two (answers-good (type.Apply place types)))

-- ---- terms in the places of arguments

module _ (entry : ℕ) (g : Signature) (scope : Scope) where
  -- as types
  abbrev pub type_visit : RawTerm → Visited Ty
  type_visit part = (term_reading entry g part).as_type scope

  pub type_visits : (parts : List RawTerm) →
      type_readings (map (term_reading entry g) parts) scope ≡ map type_visit parts
  type_visits [] = refl
  type_visits (part ∷ parts) = ap (λ xs. type_visit part ∷ xs) (type_visits parts)

  pub type_count : (parts : List RawTerm) →
      length (type_readings (map (term_reading entry g) parts) scope) ≡ length parts
  type_count [] = refl
  type_count (part ∷ parts) = omega (arith, type_count parts)

  -- as terms of the types of places
  abbrev pub place_visit : Ty → RawTerm → Visited Term
  place_visit place part = term_in_place entry place ((term_reading entry g part).as_term scope)

  abbrev pub placed : List Ty → List RawTerm → List (Visited Term)
  placed (place ∷ places) (part ∷ parts) = place_visit place part ∷ placed places parts
  placed [] parts = []
  placed (place ∷ places) [] = []

  abbrev pub places_visit : List Ty → List RawTerm → Visited (List Term)
  places_visit places parts =
      terms_in_places entry places (term_readings (map (term_reading entry g) parts) scope)

  zipped : (places : List Ty) (parts : List RawTerm) →
      map (λ (place : Ty × Visited Typed). term_in_place entry place.0 place.1)
      (zip places (term_readings (map (term_reading entry g) parts) scope))
      ≡ placed places parts
  zipped [] [] = refl
  zipped [] (part ∷ parts) = refl
  zipped (place ∷ places) [] = refl
  zipped (place ∷ places) (part ∷ parts) =
      ap (λ visits. place_visit place part ∷ visits) (zipped places parts)

  pub places_in_turn : (places : List Ty) (parts : List RawTerm) →
      places_visit places parts ≡ in_turn (placed places parts)
  places_in_turn places parts = ap in_turn (zipped places parts)

  pub placed_next : (places : List Ty) (parts : List RawTerm) (i : ℕ) (place : Ty) (part : RawTerm) →
      i < length places → i < length parts → place ≡ get_or places i place → part ≡ get_or parts i part →
      placed (take (i + 1) places) (take (i + 1) parts)
      ≡ placed (take i places) (take i parts) ++ place_visit place part ∷ []
  placed_next [] parts i place part within inside is at = absurd (omega arith)
  placed_next (x ∷ places) [] i place part within inside is at = absurd (omega arith)
  placed_next (x ∷ places) (y ∷ parts) zero place part within inside is at = rw (is, at) refl
  placed_next (x ∷ places) (y ∷ parts) (suc i) place part within inside is at =
      let next : suc i + 1 ≡ suc (i + 1) = omega arith in
      subst (λ k. placed (take k (x ∷ places)) (take k (y ∷ parts))
      ≡ placed (take (suc i) (x ∷ places)) (take (suc i) (y ∷ parts)) ++ place_visit place part ∷ [])
      (sym next)
      (ap (λ zs. place_visit x y ∷ zs)
      (placed_next places parts i place part (omega arith) (omega arith) is at))

  pub placed_split : (places : List Ty) (parts : List RawTerm) (i : ℕ) (place : Ty) (part : RawTerm) →
      i < length places → i < length parts → place ≡ get_or places i place → part ≡ get_or parts i part →
      placed places parts
      ≡ placed (take i places) (take i parts)
      ++ place_visit place part ∷ placed (drop (i + 1) places) (drop (i + 1) parts)
  placed_split [] parts i place part within inside is at = absurd (omega arith)
  placed_split (x ∷ places) [] i place part within inside is at = absurd (omega arith)
  placed_split (x ∷ places) (y ∷ parts) zero place part within inside is at = rw (is, at) refl
  placed_split (x ∷ places) (y ∷ parts) (suc i) place part within inside is at =
      let next : suc i + 1 ≡ suc (i + 1) = omega arith in
      subst (λ k. placed (x ∷ places) (y ∷ parts)
      ≡ placed (take (suc i) (x ∷ places)) (take (suc i) (y ∷ parts))
      ++ place_visit place part ∷ placed (drop k (x ∷ places)) (drop k (y ∷ parts)))
      (sym next)
      (ap (λ zs. place_visit x y ∷ zs)
      (placed_split places parts i place part (omega arith) (omega arith) is at))

  -- the visits up to an index, and the next
  module _ (places : List Ty) (parts : List RawTerm) (i : ℕ) (terms : List Term)
      (before : Answers (in_turn (placed (take i places) (take i parts))) (Ok terms))
    where
      module _ (place : Ty) (part : RawTerm) (within : i < length places) (inside : i < length parts)
          (is : place ≡ get_or places i place) (at : part ≡ get_or parts i part)
        where
          pub place_next : (a : Term) → Answers (place_visit place part) (Ok a) →
              Answers (in_turn (placed (take (i + 1) places) (take (i + 1) parts))) (Ok (terms ++ a ∷ []))
          place_next a one =
              subst (λ visits. Answers (in_turn visits) (Ok (terms ++ a ∷ [])))
              (sym (placed_next places parts i place part within inside is at))
              (answers-push (placed (take i places) (take i parts)) (place_visit place part) terms a
              before one)

          pub place_break : (fault : TypeError) → Answers (place_visit place part) (Err fault) →
              Answers (places_visit places parts) (Err fault)
          place_break fault one =
              subst (λ visit. Answers visit (Err fault)) (sym (places_in_turn places parts))
              (subst (λ visits. Answers (in_turn visits) (Err fault))
              (sym (placed_split places parts i place part within inside is at))
              (answers-in_turn_stop (placed (take i places) (take i parts)) (place_visit place part)
              (placed (drop (i + 1) places) (drop (i + 1) parts)) terms fault before one))

          pub term_break : (fault : TypeError) →
              Answers ((term_reading entry g part).as_term scope) (Err fault) →
              Answers (places_visit places parts) (Err fault)
          term_break fault one =
              place_break fault
              (answers-stop ((term_reading entry g part).as_term scope)
              (λ typed. expect (same_type place typed.1) (Mismatch entry place typed.1) >> good typed.0)
              fault one)

      pub places_whole : length places ≤ i → length parts ≤ i →
          Answers (places_visit places parts) (Ok terms)
      places_whole past behind =
          subst (λ visit. Answers visit (Ok terms)) (sym (places_in_turn places parts))
          (subst (λ tys. Answers (in_turn (placed tys parts)) (Ok terms)) (take_all i places past)
          (subst (λ ps. Answers (in_turn (placed (take i places) ps)) (Ok terms))
          (take_all i parts behind) before))

  -- at equal types, under equal names
  pub terms_seen : (names : Scope) (others places : List Ty) (parts : List RawTerm)
      (answer : Result (List Term) TypeError) → names ≡ scope → others ≡ places →
      Answers (terms_in_places entry others
      (term_readings (map (term_reading entry g) parts) names)) answer →
      Answers (places_visit places parts) answer
  terms_seen names others places parts answer same equal one =
      subst (λ tys. Answers (places_visit tys parts) answer) equal
      (subst (λ s. Answers (terms_in_places entry others
      (term_readings (map (term_reading entry g) parts) s)) answer) same one)

  -- ---- a term in its place

  module _ (expected : Ty) (visit : Visited Typed) where
    pub place_stop : (fault : TypeError) → Answers visit (Err fault) →
        Answers (term_in_place entry expected visit) (Err fault)
    place_stop fault one =
        answers-stop visit
        (λ typed. expect (same_type expected typed.1) (Mismatch entry expected typed.1) >> good typed.0)
        fault one

    pub place_done : (a : Term) (ty : Ty) → Answers visit (Ok (a, ty)) → expected ≡ ty →
        Answers (term_in_place entry expected visit) (Ok a)
    place_done a ty one same =
        answers-bind visit
        (λ typed. expect (same_type expected typed.1) (Mismatch entry expected typed.1) >> good typed.0)
        (a, ty) (Ok a) one
        (answers-then (expect (same_type expected ty) (Mismatch entry expected ty)) (good a) (Ok a)
        (answers-pass (same_type expected ty) (Mismatch entry expected ty)
        (subst (λ other. same_type expected other ≡ true) same (same_type-self expected)))
        (answers-good a))

    pub place_refused : (a : Term) (ty : Ty) → Answers visit (Ok (a, ty)) → (expected ≡ ty → ⊥) →
        (error : TypeError) → IsFirst (Mismatch entry expected ty ∷ []) error →
        Answers (term_in_place entry expected visit) (Err error)
    place_refused a ty one differs error first =
        answers-bind visit
        (λ typed. expect (same_type expected typed.1) (Mismatch entry expected typed.1) >> good typed.0)
        (a, ty) (Err error) one
        (answers-then_stop (expect (same_type expected ty) (Mismatch entry expected ty)) (good a)
        error
        (answers-failed (same_type expected ty) (Mismatch entry expected ty) error
        (is_false (same_type expected ty) (λ same. differs (same_type-equal expected ty same))) first))

    -- the rest of the visit, behind the term
    pub place_behind : (a : Typed) (answer : Result Term TypeError) → Answers visit (Ok a) →
        Answers (term_in_place entry expected (good a)) answer →
        Answers (term_in_place entry expected visit) answer
    unfolding ◌>>=◌ good
    place_behind a answer one two =
        answers-bind visit
        (λ typed. expect (same_type expected typed.1) (Mismatch entry expected typed.1) >> good typed.0)
        a answer one two

  -- ---- the arguments of a symbol

  module _ (symbol : Symbol) (parts : List RawTerm) where
    abbrev readings : List TermReading
    readings = map (term_reading entry g) parts

    abbrev pub count : ℕ
    count = symbol.parameters + length symbol.arguments

    counted : length readings ≡ length parts
    counted = length-map parts (term_reading entry g)

    abbrev terms_after : List Ty → Visited Arguments
    terms_after types =
        terms_in_places entry (map (instantiate types) symbol.arguments)
        (term_readings (drop symbol.parameters readings) scope)
        >>= λ terms. good (record { types = types; terms = terms })

    abbrev types_after : Visited Arguments
    types_after = in_turn (type_readings (take symbol.parameters readings) scope) >>= terms_after

    pub arguments_arity : (count ≡ length parts → ⊥) →
        Answers (arguments_of entry symbol readings scope)
        (Err (Arity entry symbol.name count (length parts)))
    arguments_arity differs =
        subst (λ n. Answers (arguments_of entry symbol readings scope) (Err (Arity entry symbol.name count n)))
        counted
        (answers-then_stop (expect (count == length readings) (Arity entry symbol.name count (length readings)))
        types_after (Arity entry symbol.name count (length readings))
        (answers-fail (count == length readings) (Arity entry symbol.name count (length readings))
        (differs_test count (length readings) (λ is. differs (is ∙ counted)))))

    counted_then : count ≡ length parts → (answer : Result Arguments TypeError) →
        Answers types_after answer → Answers (arguments_of entry symbol readings scope) answer
    counted_then same answer two =
        answers-then (expect (count == length readings) (Arity entry symbol.name count (length readings)))
        types_after answer
        (answers-pass (count == length readings) (Arity entry symbol.name count (length readings))
        (equal_test count (length readings) (same ∙ sym counted)))
        two

    types_taken : (answer : Result (List Ty) TypeError) →
        Answers (in_turn (type_readings (map (term_reading entry g) (take symbol.parameters parts)) scope)) answer →
        Answers (in_turn (type_readings (take symbol.parameters readings) scope)) answer
    types_taken answer one =
        subst (λ xs. Answers (in_turn (type_readings xs scope)) answer)
        (sym (take-map (term_reading entry g) symbol.parameters parts)) one

    terms_dropped : (types : List Ty) (answer : Result (List Term) TypeError) →
        Answers (terms_in_places entry (map (instantiate types) symbol.arguments)
        (term_readings (map (term_reading entry g) (drop symbol.parameters parts)) scope)) answer →
        Answers (terms_in_places entry (map (instantiate types) symbol.arguments)
        (term_readings (drop symbol.parameters readings) scope)) answer
    terms_dropped types answer one =
        subst (λ xs. Answers (terms_in_places entry (map (instantiate types) symbol.arguments)
        (term_readings xs scope)) answer)
        (sym (drop-map (term_reading entry g) symbol.parameters parts)) one

    pub arguments_types_stop : count ≡ length parts → (fault : TypeError) →
        Answers (in_turn (type_readings (map (term_reading entry g) (take symbol.parameters parts)) scope)) (Err fault) →
        Answers (arguments_of entry symbol readings scope) (Err fault)
    arguments_types_stop same fault one =
        counted_then same (Err fault)
        (answers-stop (in_turn (type_readings (take symbol.parameters readings) scope)) terms_after fault
        (types_taken (Err fault) one))

    pub arguments_terms_stop : count ≡ length parts → (types : List Ty) (fault : TypeError) →
        Answers (in_turn (type_readings (map (term_reading entry g) (take symbol.parameters parts)) scope)) (Ok types) →
        Answers (terms_in_places entry (map (instantiate types) symbol.arguments)
        (term_readings (map (term_reading entry g) (drop symbol.parameters parts)) scope)) (Err fault) →
        Answers (arguments_of entry symbol readings scope) (Err fault)
    arguments_terms_stop same types fault one two =
        counted_then same (Err fault)
        (answers-bind (in_turn (type_readings (take symbol.parameters readings) scope)) terms_after types
        (Err fault) (types_taken (Ok types) one)
        (answers-stop
        (terms_in_places entry (map (instantiate types) symbol.arguments)
        (term_readings (drop symbol.parameters readings) scope))
        (λ terms. good (record { types = types; terms = terms })) fault
        (terms_dropped types (Err fault) two)))

    pub arguments_done : count ≡ length parts → (types : List Ty) (terms : List Term) →
        Answers (in_turn (type_readings (map (term_reading entry g) (take symbol.parameters parts)) scope)) (Ok types) →
        Answers (terms_in_places entry (map (instantiate types) symbol.arguments)
        (term_readings (map (term_reading entry g) (drop symbol.parameters parts)) scope)) (Ok terms) →
        Answers (arguments_of entry symbol readings scope) (Ok (record { types = types; terms = terms }))
    arguments_done same types terms one two =
        counted_then same (Ok (record { types = types; terms = terms }))
        (answers-bind (in_turn (type_readings (take symbol.parameters readings) scope)) terms_after types
        (Ok (record { types = types; terms = terms })) (types_taken (Ok types) one)
        (answers-bind
        (terms_in_places entry (map (instantiate types) symbol.arguments)
        (term_readings (drop symbol.parameters readings) scope))
        (λ as'. good (record { types = types; terms = as' })) terms
        (Ok (record { types = types; terms = terms }))
        (terms_dropped types (Ok terms) two)
        (answers-good (record { types = types; terms = terms }))))

  -- ---- a name with its arguments

  module _ (name : List ℕ) (place : ℕ) (symbol : Symbol) (readings : List TermReading)
      (named : Some (place, symbol) ≡ symbol_named name g)
    where
      abbrev arguments : Visited Arguments
      arguments = arguments_of entry symbol readings scope

      -- as a term
      as_term : (answer : Result Typed TypeError) →
          Answers (expect_number (number_of g place) >> function_applied entry name place symbol.result arguments) answer →
          Answers (term_applied entry g name (symbol_named name g) readings scope) answer
      as_term answer one =
          subst (λ at. Answers (term_applied entry g name at readings scope) answer) named one

      pub term_number_refused : (fault : TypeError) → Answers (expect_number (number_of g place)) (Err fault) →
          Answers (term_applied entry g name (symbol_named name g) readings scope) (Err fault)
      term_number_refused fault one =
          as_term (Err fault)
          (answers-then_stop (expect_number (number_of g place))
          (function_applied entry name place symbol.result arguments) fault one)

      numbered : (result : Option Ty) → symbol.result ≡ result → (answer : Result Typed TypeError) →
          Answers (expect_number (number_of g place)) (Ok tt) →
          Answers (function_applied entry name place result arguments) answer →
          Answers (term_applied entry g name (symbol_named name g) readings scope) answer
      numbered result is answer one two =
          as_term answer
          (answers-then (expect_number (number_of g place))
          (function_applied entry name place symbol.result arguments) answer one
          (subst (λ r. Answers (function_applied entry name place r arguments) answer) (sym is) two))

      pub term_no_function : symbol.result ≡ None → (error : TypeError) →
          Answers (expect_number (number_of g place)) (Ok tt) → IsFirst (NotATerm entry name ∷ []) error →
          Answers (term_applied entry g name (symbol_named name g) readings scope) (Err error)
      term_no_function is error one first =
          numbered None is (Err error) one (answers-refused (NotATerm entry name) error no_term first)

      module _ (result : Ty) (is : symbol.result ≡ Some result) where
        pub term_stop : (fault : TypeError) → Answers (expect_number (number_of g place)) (Ok tt) →
            Answers arguments (Err fault) →
            Answers (term_applied entry g name (symbol_named name g) readings scope) (Err fault)
        term_stop fault one two =
            numbered (Some result) is (Err fault) one
            (answers-stop arguments
            (λ given. good (term.Apply place given.types given.terms, instantiate given.types result)) fault two)

        pub term_done : (given : Arguments) → Answers (expect_number (number_of g place)) (Ok tt) →
            Answers arguments (Ok given) →
            Answers (term_applied entry g name (symbol_named name g) readings scope)
            (Ok (term.Apply place given.types given.terms, instantiate given.types result))
        term_done given one two =
            numbered (Some result) is
            (Ok (term.Apply place given.types given.terms, instantiate given.types result)) one
            (answers-bind arguments
            (λ a. good (term.Apply place a.types a.terms, instantiate a.types result)) given
            (Ok (term.Apply place given.types given.terms, instantiate given.types result)) two
            (answers-good (term.Apply place given.types given.terms, instantiate given.types result)))

      -- as an atom
      as_atom : (answer : Result Formula TypeError) →
          Answers (expect_number (number_of g place) >> predicate_applied entry g name place symbol.result arguments) answer →
          Answers (atom_applied entry g name (symbol_named name g) readings scope) answer
      as_atom answer one =
          subst (λ at. Answers (atom_applied entry g name at readings scope) answer) named one

      pub atom_number_refused : (fault : TypeError) → Answers (expect_number (number_of g place)) (Err fault) →
          Answers (atom_applied entry g name (symbol_named name g) readings scope) (Err fault)
      atom_number_refused fault one =
          as_atom (Err fault)
          (answers-then_stop (expect_number (number_of g place))
          (predicate_applied entry g name place symbol.result arguments) fault one)

      numbered_atom : (result : Option Ty) → symbol.result ≡ result → (answer : Result Formula TypeError) →
          Answers (expect_number (number_of g place)) (Ok tt) →
          Answers (predicate_applied entry g name place result arguments) answer →
          Answers (atom_applied entry g name (symbol_named name g) readings scope) answer
      numbered_atom result is answer one two =
          as_atom answer
          (answers-then (expect_number (number_of g place))
          (predicate_applied entry g name place symbol.result arguments) answer one
          (subst (λ r. Answers (predicate_applied entry g name place r arguments) answer) (sym is) two))

      pub atom_no_predicate : (result : Ty) → symbol.result ≡ Some result → (error : TypeError) →
          Answers (expect_number (number_of g place)) (Ok tt) → IsFirst (NotAFormula entry name ∷ []) error →
          Answers (atom_applied entry g name (symbol_named name g) readings scope) (Err error)
      atom_no_predicate result is error one first =
          numbered_atom (Some result) is (Err error) one
          (answers-refused (NotAFormula entry name) error formula.False first)

      pub atom_stop : symbol.result ≡ None → (fault : TypeError) →
          Answers (expect_number (number_of g place)) (Ok tt) → Answers arguments (Err fault) →
          Answers (atom_applied entry g name (symbol_named name g) readings scope) (Err fault)
      atom_stop is fault one two =
          numbered_atom None is (Err fault) one
          (answers-stop arguments (λ given. good (formula.Atom place given.types given.terms)) fault two)

      pub atom_done : symbol.result ≡ None → (given : Arguments) →
          Answers (expect_number (number_of g place)) (Ok tt) → Answers arguments (Ok given) →
          Answers (atom_applied entry g name (symbol_named name g) readings scope)
          (Ok (formula.Atom place given.types given.terms))
      atom_done is given one two =
          numbered_atom None is (Ok (formula.Atom place given.types given.terms)) one
          (answers-bind arguments (λ a. good (formula.Atom place a.types a.terms)) given
          (Ok (formula.Atom place given.types given.terms)) two
          (answers-good (formula.Atom place given.types given.terms)))

  -- the place of a symbol whose number is allowed
  pub place_within : (place : ℕ) → Answers (expect_number (number_of g place)) (Ok tt) → place ≤ most_symbols
  place_within place one =
      omega (
        arith,
        tested_within (number_of g place) most_symbols
            (clean-expect (nat_le (number_of g place) most_symbols) (TooManySymbols (most_symbols + 1)) one.exact.0),
      )
