-- Terms that are visited without a fault are well typed, and mean what the visit gives. The number of
-- each name in them is allowed.
use Rattle.std.proofs.Common.{zip, ◌≡◌, ℕ, zero, suc, ◌+◌, ◌==◌, ◌≤◌, true, List, [], ◌∷◌, ◌++◌, map, length, take, drop, refl, sym, ap, ◌∙◌, subst, Option, Some, None, nat_le, arith, codes, flat_map}
use Rattle.std.specs.List.{AllByRecursion}
use Rattle.std.proofs.lemmas.List.{length-map, take-append-drop, length-take-le, length-drop}
use Rattle.tptp_syntax.specs.declared.term.RawTerm.{RawTerm}
use Rattle.tptp_syntax.specs.declared.term.RawTerm.TheVariants as t
use Rattle.tptp_syntax.specs.declared.term.RawTerm.TheOpen as layer
use Rattle.tf_core.specs.declared.ty.Ty.{Ty}
use Rattle.tf_core.specs.declared.term.Term.{Term}
use Rattle.tf_core.specs.declared.term.Term.TheVariants as term
use Rattle.tf_core.specs.declared.signature.Constructor.{Constructor}
use Rattle.tf_core.specs.declared.signature.Symbol.{Symbol}
use Rattle.tf_core.specs.declared.signature.Signature.{Signature}
use Rattle.tf_core.specs.Types.{instantiate, same_type}
use Rattle.tf_check.specs.declared.error.TypeError.TheVariants.{FreeVariable, NotATerm, Arity, Mismatch, TooManySymbols}
use Rattle.tf_check.specs.Scope.{Scope, Meaning, Unbound, OfType, OfTerm, meaning}
use Rattle.tf_check.specs.Visited.{Visited, good, expect, in_turn, ◌>>=◌, ◌>>◌}
use Rattle.tf_check.specs.Types.{individuals, constructor_named}
use Rattle.tf_check.specs.Names.{Occurrence, names_of_term, all_of}
use Rattle.tf_check.specs.Signature.{symbol_named}
use Rattle.tf_check.specs.declared.terms.Arguments.{Arguments}
use Rattle.tf_check.specs.Terms.{Typed, TermReading, term_reading, term_step, type_readings, term_readings, terms_in_places, term_in_place, arguments_of, function_applied, term_applied, term_variable, expect_number, number_of, most_symbols, no_term}
use Rattle.tf_check.specs.Typing.{TypeArgumentMeans, bound_argument, applied_argument, individuals_argument, TypeArgumentsMean, no_type_arguments, more_type_arguments}
use Rattle.tf_check.specs.Typing.{TermMeans, bound_term, applied_term, TermsMean, no_terms, more_terms}
use Rattle.tf_check.proofs.VisitLemmas.{IsClean, clean-bind, value-bind, clean-then, value-then, value-good, clean-expect, not_clean-bad, clean-more, value-more, value-none}
use Rattle.tf_check.proofs.SameLemmas.{tested_equal, tested_within, same_type-equal}
use Rattle.tf_check.proofs.TypesClean.{variable_clean, applied_clean}
use Rattle.tf_check.proofs.TermsGive.{take-front, drop-front}
use Rattle.tf_check.proofs.Variants.{term_induction}
use Rattle.tf_check.proofs.TermLemmas as l

-- the name is that of a symbol whose number is allowed
pub record IsNumbered (g : Signature) (occurrence : Occurrence) : Type 0 where
  pub place : ℕ
  pub symbol : Symbol
  pub named : symbol_named occurrence.name g ≡ Some (place, symbol)
  pub within : number_of g place ≤ most_symbols

pub all_take : {A : Type 0} (P : A → Type 0) (n : ℕ) (xs : List A) → AllByRecursion P xs →
    AllByRecursion P (take n xs)
all_take P zero [] all = tt
all_take P zero (x ∷ xs) all = tt
all_take P (suc n) [] all = tt
all_take P (suc n) (x ∷ xs) all = (all.0, all_take P n xs all.1)

pub all_drop : {A : Type 0} (P : A → Type 0) (n : ℕ) (xs : List A) → AllByRecursion P xs →
    AllByRecursion P (drop n xs)
all_drop P zero [] all = tt
all_drop P zero (x ∷ xs) all = all
all_drop P (suc n) [] all = tt
all_drop P (suc n) (x ∷ xs) all = all_drop P n xs all.1

pub all_append : {A : Type 0} (P : A → Type 0) (xs ys : List A) → AllByRecursion P xs →
    AllByRecursion P ys → AllByRecursion P (xs ++ ys)
all_append P [] ys one other = other
all_append P (x ∷ xs) ys one other = (one.0, all_append P xs ys one.1 other)

pub number_clean : (number : ℕ) → IsClean (expect_number number) → number ≤ most_symbols
number_clean number clean =
    tested_within number most_symbols
    (clean-expect (nat_le number most_symbols) (TooManySymbols (most_symbols + 1)) clean)

drop-map : {A B : Type 0} (f : A → B) (n : ℕ) (xs : List A) → drop n (map f xs) ≡ map f (drop n xs)
drop-map f zero [] = refl
drop-map f zero (x ∷ xs) = refl
drop-map f (suc n) [] = refl
drop-map f (suc n) (x ∷ xs) = drop-map f n xs

all_of-map : {A : Type 0} (f : A → List Occurrence) (xs : List A) → all_of (map f xs) ≡ flat_map f xs
all_of-map f [] = refl
all_of-map f (x ∷ xs) = ap (λ ys. f x ++ ys) (all_of-map f xs)

-- the names behind the type arguments
pub names_behind : (parameters : List ℕ → ℕ) (raws : List RawTerm) (n m : ℕ) → m ≡ n →
    all_of (drop m (map (names_of_term parameters) raws))
    ≡ flat_map (names_of_term parameters) (drop n raws)
names_behind parameters raws n m is =
    ap (λ k. all_of (drop k (map (names_of_term parameters) raws))) is
    ∙ ap all_of (drop-map (names_of_term parameters) n raws)
    ∙ all_of-map (names_of_term parameters) (drop n raws)

-- what the arguments of a symbol are where they are visited without a fault
module _ (entry : ℕ) where
  pub place_clean : (ty : Ty) (visit : Visited Typed) → IsClean (term_in_place entry ty visit) →
      IsClean visit × (visit.value ≡ ((term_in_place entry ty visit).value, ty))
  place_clean ty visit clean =
      let after : Typed → Visited Term = λ typed.
      expect (same_type ty typed.1) (Mismatch entry ty typed.1) >> good typed.0 in
      let parts = clean-bind visit after clean in
      let test : Visited (Unit {0}) = expect (same_type ty visit.value.1) (Mismatch entry ty visit.value.1) in
      let rest = clean-then test (good visit.value.0) parts.1 in
      let same : ty ≡ visit.value.1 =
      same_type-equal ty visit.value.1
      (clean-expect (same_type ty visit.value.1) (Mismatch entry ty visit.value.1) rest.0) in
      let value : (term_in_place entry ty visit).value ≡ visit.value.0 =
      value-bind visit after ∙ value-then test (good visit.value.0) ∙ value-good visit.value.0 in
      (parts.0, λ i. (sym value i, sym same i))

  pub arguments_clean : (symbol : Symbol) (parts : List TermReading) (scope : Scope) →
      IsClean (arguments_of entry symbol parts scope) →
      (symbol.parameters + length symbol.arguments ≡ length parts)
      × IsClean (in_turn (type_readings (take symbol.parameters parts) scope))
      × IsClean (terms_in_places entry
      (map (instantiate (in_turn (type_readings (take symbol.parameters parts) scope)).value) symbol.arguments)
      (term_readings (drop symbol.parameters parts) scope))
      × ((arguments_of entry symbol parts scope).value ≡ record {
        types = (in_turn (type_readings (take symbol.parameters parts) scope)).value;
        terms = (terms_in_places entry
            (map (instantiate (in_turn (type_readings (take symbol.parameters parts) scope)).value) symbol.arguments)
            (term_readings (drop symbol.parameters parts) scope)).value;
      })
  arguments_clean symbol parts scope clean =
      let expected : ℕ = symbol.parameters + length symbol.arguments in
      let test : Visited (Unit {0}) = expect (expected == length parts) (Arity entry symbol.name expected (length parts)) in
      let types : Visited (List Ty) = in_turn (type_readings (take symbol.parameters parts) scope) in
      let terms : List Ty → Visited (List Term) = λ ts.
      terms_in_places entry (map (instantiate ts) symbol.arguments) (term_readings (drop symbol.parameters parts) scope) in
      let last : List Ty → List Term → Visited Arguments = λ ts as'. good (record { types = ts; terms = as' }) in
      let whole : Visited Arguments = types >>= λ ts. terms ts >>= λ as'. last ts as' in
      let first = clean-then test whole clean in
      let second = clean-bind types (λ ts. terms ts >>= λ as'. last ts as') first.1 in
      let third = clean-bind (terms types.value) (λ as'. last types.value as') second.1 in (
        tested_equal expected (length parts)
            (clean-expect (expected == length parts) (Arity entry symbol.name expected (length parts)) first.0),
        second.0,
        third.0,
        value-then test whole ∙ value-bind types (λ ts. terms ts >>= λ as'. last ts as')
            ∙ value-bind (terms types.value) (λ as'. last types.value as')
            ∙ value-good (record { types = types.value; terms = (terms types.value).value }),
      )

module _ (entry : ℕ) (g : Signature) (parameters : List ℕ → ℕ)
    (agree : (name : List ℕ) (place : ℕ) (symbol : Symbol) →
    symbol_named name g ≡ Some (place, symbol) → parameters name ≡ symbol.parameters)
  where
    -- what a reading says of a term that is visited without a fault
    pub record IsSoundTerm (x : RawTerm) (r : TermReading) : Type 0 where
      pub type : (scope : Scope) → IsClean (r.as_type scope) →
          TypeArgumentMeans g scope x (r.as_type scope).value
      pub term : (scope : Scope) → IsClean (r.as_term scope) →
          TermMeans g scope x (r.as_term scope).value.0 (r.as_term scope).value.1
      pub names : (scope : Scope) → IsClean (r.as_term scope) →
          AllByRecursion (IsNumbered g) (names_of_term parameters x)

    abbrev AreSound : List RawTerm → Type 0
    AreSound = AllByRecursion (λ x. IsSoundTerm x (term_reading entry g x))

    at_step : (x : RawTerm) (r : TermReading) → term_reading entry g x ≡ r → IsSoundTerm x r →
        IsSoundTerm x (term_reading entry g x)
    at_step x r is sound = subst (IsSoundTerm x) (sym is) sound

    -- a variable in the place of a term
    term_variable_clean : (name : List ℕ) (m : Meaning) → IsClean (term_variable entry name m) →
        (i : ℕ) × (ty : Ty) × (m ≡ OfTerm i ty) × ((term_variable entry name m).value ≡ (term.Var i, ty))
    term_variable_clean name Unbound clean = absurd (not_clean-bad (FreeVariable entry name) no_term clean)
    term_variable_clean name (OfType i) clean = absurd (not_clean-bad (NotATerm entry name) no_term clean)
    term_variable_clean name (OfTerm i ty) clean = (i, ty, refl, value-good (term.Var i, ty))

    variable_sound : (name : List ℕ) → IsSoundTerm (t.Variable name) (term_reading entry g (t.Variable name))
    variable_sound name =
        at_step (t.Variable name) (term_step entry g (layer.Variable name)) (l.term_reading-variable entry g name)
        (record {
          type = λ scope clean.
              (let found = variable_clean entry name (meaning scope name) clean in
              rw found.2 (bound_argument name found.0 found.1));
          term = λ scope clean.
              (let found = term_variable_clean name (meaning scope name) clean in
              rw found.3 (bound_term name found.0 found.1 found.2));
          names = λ scope clean. rw (l.names_of_term-variable parameters name) tt;
        })

    individuals_sound : IsSoundTerm t.Individuals (term_reading entry g t.Individuals)
    individuals_sound =
        at_step t.Individuals (term_step entry g layer.Individuals) (l.term_reading-individuals entry g)
        (record {
          type = λ scope clean. rw (value-good individuals) individuals_argument;
          term = λ scope clean. absurd (not_clean-bad (NotATerm entry (codes "$i")) no_term clean);
          names = λ scope clean. absurd (not_clean-bad (NotATerm entry (codes "$i")) no_term clean);
        })

    pub type_arguments_sound : (scope : Scope) (xs : List RawTerm) → AreSound xs →
        IsClean (in_turn (type_readings (map (term_reading entry g) xs) scope)) →
        TypeArgumentsMean g scope xs (in_turn (type_readings (map (term_reading entry g) xs) scope)).value
    type_arguments_sound scope [] all clean = rw (value-none {A = Ty}) no_type_arguments
    type_arguments_sound scope (x ∷ xs) all clean =
        let first : Visited Ty = (term_reading entry g x).as_type scope in
        let rest : List (Visited Ty) = type_readings (map (term_reading entry g) xs) scope in
        let parts = clean-more first rest clean in
        rw (value-more first rest)
        (more_type_arguments x first.value xs (in_turn rest).value (all.0.type scope parts.0)
        (type_arguments_sound scope xs all.1 parts.1))

    -- terms in places, and the names in them
    pub terms_sound : (scope : Scope) (xs : List RawTerm) (types : List Ty) → AreSound xs →
        length types ≡ length xs →
        IsClean (terms_in_places entry types (term_readings (map (term_reading entry g) xs) scope)) →
        TermsMean g scope xs
        (terms_in_places entry types (term_readings (map (term_reading entry g) xs) scope)).value types
        × AllByRecursion (IsNumbered g) (flat_map (names_of_term parameters) xs)
    terms_sound scope [] [] all count clean = (rw (value-none {A = Term}) no_terms, tt)
    terms_sound scope [] (ty ∷ types) all count clean = absurd (omega arith)
    terms_sound scope (x ∷ xs) [] all count clean = absurd (omega arith)
    terms_sound scope (x ∷ xs) (ty ∷ types) all count clean =
        let visit : Visited Typed = (term_reading entry g x).as_term scope in
        let first : Visited Term = term_in_place entry ty visit in
        let rest : List (Visited Term) =
        map (λ (place : Ty × Visited Typed). term_in_place entry place.0 place.1)
        (zip types (term_readings (map (term_reading entry g) xs) scope)) in
        let parts = clean-more first rest clean in
        let here = place_clean entry ty visit parts.0 in
        let more = terms_sound scope xs types all.1 (omega arith) parts.1 in
        let means : TermMeans g scope x first.value ty =
        subst (λ (typed : Typed). TermMeans g scope x typed.0 typed.1) here.1
        (all.0.term scope here.0) in (
          rw (value-more first rest)
              (more_terms x first.value ty xs (in_turn rest).value types means more.0),
          all_append (IsNumbered g) (names_of_term parameters x)
              (flat_map (names_of_term parameters) xs) (all.0.names scope here.0) more.1,
        )

    -- the arguments of a symbol that is found: the front is types, the back is terms
    pub record AreArguments (scope : Scope) (name : List ℕ) (place : ℕ) (symbol : Symbol)
        (raws : List RawTerm) (given : Arguments) : Type 0 where
      pub front : List RawTerm
      pub back : List RawTerm
      pub split : raws ≡ front ++ back
      pub count : length front ≡ symbol.parameters
      pub types : TypeArgumentsMean g scope front given.types
      pub terms : TermsMean g scope back given.terms (map (instantiate given.types) symbol.arguments)
      pub names : AllByRecursion (IsNumbered g)
          (flat_map (names_of_term parameters) (drop symbol.parameters raws))

    pub arguments_sound : (scope : Scope) (name : List ℕ) (place : ℕ) (symbol : Symbol)
        (raws : List RawTerm) → AreSound raws →
        IsClean (arguments_of entry symbol (map (term_reading entry g) raws) scope) →
        AreArguments scope name place symbol raws
        (arguments_of entry symbol (map (term_reading entry g) raws) scope).value
    arguments_sound scope name place symbol raws all clean =
        let n : ℕ = symbol.parameters in
        let parts : List TermReading = map (term_reading entry g) raws in
        let found = arguments_clean entry symbol parts scope clean in
        let whole : take n raws ++ drop n raws ≡ raws = take-append-drop n raws in
        let many : symbol.parameters + length symbol.arguments ≡ length raws =
        found.0 ∙ length-map raws (term_reading entry g) in
        let count : length (take n raws) ≡ n = length-take-le n raws (omega (arith, many)) in
        let fronts : take n parts ≡ map (term_reading entry g) (take n raws) =
        subst (λ rs. take n (map (term_reading entry g) rs) ≡ map (term_reading entry g) (take n raws)) whole
        (take-front (term_reading entry g) (take n raws) (drop n raws) n count) in
        let backs : drop n parts ≡ map (term_reading entry g) (drop n raws) =
        subst (λ rs. drop n (map (term_reading entry g) rs) ≡ map (term_reading entry g) (drop n raws)) whole
        (drop-front (term_reading entry g) (take n raws) (drop n raws) n count) in
        let types : List Ty = (in_turn (type_readings (take n parts) scope)).value in
        let expected : List Ty = map (instantiate types) symbol.arguments in
        let left : length expected ≡ length (drop n raws) =
        omega (arith, length-map symbol.arguments (instantiate types), many, length-drop n raws) in
        let first : TypeArgumentsMean g scope (take n raws) types =
        subst (λ ps. TypeArgumentsMean g scope (take n raws) (in_turn (type_readings ps scope)).value) (sym fronts)
        (type_arguments_sound scope (take n raws)
        (all_take (λ x. IsSoundTerm x (term_reading entry g x)) n raws all)
        (subst (λ ps. IsClean (in_turn (type_readings ps scope))) fronts found.1)) in
        let second =
        terms_sound scope (drop n raws) expected
        (all_drop (λ x. IsSoundTerm x (term_reading entry g x)) n raws all) left
        (subst (λ ps. IsClean (terms_in_places entry expected (term_readings ps scope))) backs found.2) in
        let third : TermsMean g scope (drop n raws)
        (terms_in_places entry expected (term_readings (drop n parts) scope)).value expected =
        subst (λ ps. TermsMean g scope (drop n raws) (terms_in_places entry expected (term_readings ps scope)).value expected)
        (sym backs) second.0 in
        subst (AreArguments scope name place symbol raws) (sym found.3) (record {
          front = take n raws;
          back = drop n raws;
          split = sym whole;
          count = count;
          types = first;
          terms = third;
          names = second.1;
        })

    -- a function with its arguments
    function_clean : (name : List ℕ) (place : ℕ) (arguments : Visited Arguments) (result : Option Ty) →
        IsClean (function_applied entry name place result arguments) →
        (ty : Ty) × (result ≡ Some ty) × IsClean arguments
        × ((function_applied entry name place result arguments).value
        ≡ (term.Apply place arguments.value.types arguments.value.terms, instantiate arguments.value.types ty))
    function_clean name place arguments None clean = absurd (not_clean-bad (NotATerm entry name) no_term clean)
    function_clean name place arguments (Some ty) clean =
        let last : Arguments → Visited Typed = λ a.
        good (term.Apply place a.types a.terms, instantiate a.types ty) in (
          ty,
          refl,
          (clean-bind arguments last clean).0,
          value-bind arguments last
              ∙ value-good (
                term.Apply place arguments.value.types arguments.value.terms,
                instantiate arguments.value.types ty,
              ),
        )

    -- a name with arguments in the place of a term
    applied_clean_term : (name : List ℕ) (at : Option (ℕ × Symbol)) (parts : List TermReading) (scope : Scope) →
        IsClean (term_applied entry g name at parts scope) →
        (place : ℕ) × (symbol : Symbol) × (result : Ty) × (at ≡ Some (place, symbol)) × (symbol.result ≡ Some result)
        × (number_of g place ≤ most_symbols) × IsClean (arguments_of entry symbol parts scope)
        × ((term_applied entry g name at parts scope).value
        ≡ (
          term.Apply place (arguments_of entry symbol parts scope).value.types
              (arguments_of entry symbol parts scope).value.terms,
          instantiate (arguments_of entry symbol parts scope).value.types result,
        ))
    applied_clean_term name None parts scope clean = absurd (not_clean-bad (NotATerm entry name) no_term clean)
    applied_clean_term name (Some (place, symbol)) parts scope clean =
        let arguments : Visited Arguments = arguments_of entry symbol parts scope in
        let test : Visited (Unit {0}) = expect_number (number_of g place) in
        let first = clean-then test (function_applied entry name place symbol.result arguments) clean in
        let found = function_clean name place arguments symbol.result first.1 in (
          place,
          symbol,
          found.0,
          refl,
          found.1,
          number_clean (number_of g place) first.0,
          found.2,
          value-then test (function_applied entry name place symbol.result arguments) ∙ found.3,
        )

    names_are : (name : List ℕ) (place : ℕ) (symbol : Symbol) (raws : List RawTerm) →
        symbol_named name g ≡ Some (place, symbol) →
        names_of_term parameters (t.Apply name raws)
        ≡ record { name = name; arguments = length raws; is_function = true }
        ∷ flat_map (names_of_term parameters) (drop symbol.parameters raws)
    names_are name place symbol raws named =
        l.names_of_term-apply parameters name raws
        ∙ (λ i. record { name = name; arguments = length-map raws (names_of_term parameters) i; is_function = true }
        ∷ names_behind parameters raws symbol.parameters (parameters name) (agree name place symbol named) i)

    apply_sound : (name : List ℕ) (raws : List RawTerm) → AreSound raws →
        IsSoundTerm (t.Apply name raws) (term_reading entry g (t.Apply name raws))
    apply_sound name raws all =
        let parts : List TermReading = map (term_reading entry g) raws in
        at_step (t.Apply name raws) (term_step entry g (layer.Apply name parts)) (l.term_reading-apply entry g name raws)
        (record {
          type = λ scope clean.
              (let at : Option (ℕ × Constructor) = constructor_named name g.constructors in
              let found = applied_clean entry name at (type_readings parts scope) clean in
              rw found.5
              (applied_argument name found.0 found.1 raws (in_turn (type_readings parts scope)).value found.2
              (found.3 ∙ length-map parts (λ (part : TermReading). part.as_type scope)
              ∙ length-map raws (term_reading entry g))
              (type_arguments_sound scope raws all found.4)));
          term = λ scope clean.
              (let found = applied_clean_term name (symbol_named name g) parts scope clean in
              let given = arguments_sound scope name found.0 found.1 raws all found.6 in
              let value : Arguments = (arguments_of entry found.1 parts scope).value in
              rw found.7
              (subst (λ rs. TermMeans g scope (t.Apply name rs) (term.Apply found.0 value.types value.terms)
              (instantiate value.types found.2)) (sym given.split)
              (applied_term name found.0 found.1 found.2 given.front value.types given.back value.terms
              (record { named = found.3; gives = found.4; count = given.count; means = given.types })
              given.terms)));
          names = λ scope clean.
              (let found = applied_clean_term name (symbol_named name g) parts scope clean in
              let given = arguments_sound scope name found.0 found.1 raws all found.6 in
              rw (names_are name found.0 found.1 raws found.3)
              (record { place = found.0; symbol = found.1; named = found.3; within = found.5 }, given.names));
        })

    -- every term that is visited without a fault is well typed
    pub term_sound : (x : RawTerm) → IsSoundTerm x (term_reading entry g x)
    term_sound =
        term_induction (λ x. IsSoundTerm x (term_reading entry g x)) variable_sound apply_sound individuals_sound
