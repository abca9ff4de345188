-- Well typed terms are visited without a fault, and give what they mean.
use Rattle.std.proofs.Common.{zip, ◌≡◌, ℕ, ◌+◌, ◌==◌, ◌≤◌, List, [], ◌∷◌, ◌++◌, map, length, take, drop, refl, sym, ap, ◌∙◌, subst, arith, Option, Some, nat_le}
use Rattle.std.proofs.lemmas.List.{length-map}
use Rattle.tptp_syntax.specs.declared.term.RawTerm.{RawTerm}
use Rattle.tf_core.specs.declared.ty.Ty.{Ty}
use Rattle.tf_core.specs.declared.ty.Ty.TheVariants as type
use Rattle.tf_core.specs.declared.term.Term.{Term}
use Rattle.tf_core.specs.declared.term.Term.TheVariants as term
use Rattle.tf_core.specs.declared.signature.Symbol.{Symbol}
use Rattle.tf_core.specs.declared.signature.Signature.{Signature}
use Rattle.tf_core.specs.Types.{instantiate, same_type}
use Rattle.tf_check.specs.declared.error.TypeError.TheVariants.{Arity, Mismatch, TooManySymbols}
use Rattle.tf_check.specs.Scope.{Scope}
use Rattle.tf_check.specs.Visited.{Visited, good, expect, in_turn, ◌>>=◌, ◌>>◌}
use Rattle.tf_check.specs.Types.{individuals}
use Rattle.tf_check.specs.Signature.{symbol_named}
use Rattle.tf_check.specs.declared.terms.Arguments.{Arguments}
use Rattle.tf_check.specs.Terms.{Typed, TermReading, term_reading, type_readings, term_readings, terms_in_places, term_in_place, arguments_of, function_applied, expect_number, number_of, most_symbols}
use Rattle.tf_check.specs.Typing.{TypeArgumentMeans, bound_argument, applied_argument, individuals_argument, TypeArgumentsMean, no_type_arguments, more_type_arguments}
use Rattle.tf_check.specs.Typing.{IsApplied, TermMeans, bound_term, applied_term, TermsMean, no_terms, more_terms}
use Rattle.tf_check.proofs.VisitLemmas.{Gives, gives-good, gives-bind, gives-then, gives-expect, gives-none, gives-more}
use Rattle.tf_check.proofs.SameLemmas.{equal_test, within_test, same_type-self}
use Rattle.tf_check.proofs.TypesGive.{applied_gives}
use Rattle.tf_check.proofs.TermLemmas as l

-- ---- the parts of a list of arguments

pub take-front : {A B : Type 0} (f : A → B) (front back : List A) (n : ℕ) → length front ≡ n →
    take n (map f (front ++ back)) ≡ map f front
take-front f [] back n is = rw (sym is) refl
take-front f (x ∷ front) back n is =
    subst (λ k. take k (map f ((x ∷ front) ++ back)) ≡ map f (x ∷ front)) is
    (ap (λ xs. f x ∷ xs) (take-front f front back (length front) refl))

pub drop-front : {A B : Type 0} (f : A → B) (front back : List A) (n : ℕ) → length front ≡ n →
    drop n (map f (front ++ back)) ≡ map f back
drop-front f [] back n is = rw (sym is) refl
drop-front f (x ∷ front) back n is =
    subst (λ k. drop k (map f ((x ∷ front) ++ back)) ≡ map f back) is
    (drop-front f front back (length front) refl)

pub length-parts : {A B : Type 0} (f : A → B) (front back : List A) →
    length (map f (front ++ back)) ≡ length front + length back
length-parts f [] back = length-map back f ∙ omega arith
length-parts f (x ∷ front) back = omega (arith, length-parts f front back)

-- the numbers of all symbols that are found are allowed
pub record AreAllowed (g : Signature) : Type 0 where
  pub within : (name : List ℕ) (place : ℕ) (symbol : Symbol) →
      symbol_named name g ≡ Some (place, symbol) → number_of g place ≤ most_symbols

pub number_gives : (number : ℕ) → number ≤ most_symbols → Gives (expect_number number) tt
number_gives number within =
    gives-expect (nat_le number most_symbols) (TooManySymbols (most_symbols + 1))
    (within_test number most_symbols within)

module _ (entry : ℕ) (g : Signature) (scope : Scope) (allowed : AreAllowed g) where
  mutual
    pub type_argument_gives : (x : RawTerm) (ty : Ty) → TypeArgumentMeans g scope x ty →
        Gives ((term_reading entry g x).as_type scope) ty
    type_argument_gives _ _ (bound_argument name i is) =
        rw (l.term_reading-variable entry g name, is) (gives-good (type.Var i))
    type_argument_gives _ _ (applied_argument name place constructor parts types named arity means) =
        rw (l.term_reading-apply entry g name parts, named)
        (applied_gives entry name place constructor
        (type_readings (map (term_reading entry g) parts) scope) types
        (arity
        ∙ sym (length-map (map (term_reading entry g) parts) (λ (part : TermReading). part.as_type scope)
        ∙ length-map parts (term_reading entry g)))
        (type_arguments_give parts types means))
    type_argument_gives _ _ individuals_argument =
        rw (l.term_reading-individuals entry g) (gives-good individuals)

    pub type_arguments_give : (xs : List RawTerm) (types : List Ty) → TypeArgumentsMean g scope xs types →
        Gives (in_turn (type_readings (map (term_reading entry g) xs) scope)) types
    type_arguments_give _ _ no_type_arguments = gives-none
    type_arguments_give _ _ (more_type_arguments part ty parts types means others) =
        gives-more ((term_reading entry g part).as_type scope)
        (type_readings (map (term_reading entry g) parts) scope)
        ty types (type_argument_gives part ty means) (type_arguments_give parts types others)

  -- a term in the place of an argument of its type
  place_gives : (ty : Ty) (a : Term) (visit : Visited Typed) → Gives visit (a, ty) →
      Gives (term_in_place entry ty visit) a
  place_gives ty a visit given =
      gives-bind visit
      (λ typed. expect (same_type ty typed.1) (Mismatch entry ty typed.1) >> good typed.0)
      (a, ty) a given
      (gives-then (expect (same_type ty ty) (Mismatch entry ty ty)) (good a) a
      (gives-expect (same_type ty ty) (Mismatch entry ty ty) (same_type-self ty))
      (gives-good a))

  -- as many terms as types
  pub terms_count : (xs : List RawTerm) (terms : List Term) (types : List Ty) →
      TermsMean g scope xs terms types → length xs ≡ length types
  terms_count _ _ _ no_terms = refl
  terms_count _ _ _ (more_terms part a ty parts terms types means others) =
      omega (arith, terms_count parts terms types others)

  -- the arguments of a symbol
  pub arguments_of_gives : (name : List ℕ) (place : ℕ) (symbol : Symbol) (result : Option Ty)
      (front : List RawTerm) (types : List Ty) (back : List RawTerm) (terms : List Term) →
      IsApplied g scope name place symbol result front types →
      length back ≡ length symbol.arguments →
      Gives (terms_in_places entry (map (instantiate types) symbol.arguments)
      (term_readings (map (term_reading entry g) back) scope)) terms →
      Gives (arguments_of entry symbol (map (term_reading entry g) (front ++ back)) scope)
      (record { types = types; terms = terms })
  arguments_of_gives name place symbol result front types back terms applied count given =
      let parts : List TermReading = map (term_reading entry g) (front ++ back) in
      let expected : ℕ = symbol.parameters + length symbol.arguments in
      gives-then (expect (expected == length parts) (Arity entry symbol.name expected (length parts)))
      (in_turn (type_readings (take symbol.parameters parts) scope) >>= λ ts.
      terms_in_places entry (map (instantiate ts) symbol.arguments)
      (term_readings (drop symbol.parameters parts) scope) >>= λ as'.
      good (record { types = ts; terms = as' }))
      (record { types = types; terms = terms })
      (gives-expect (expected == length parts) (Arity entry symbol.name expected (length parts))
      (equal_test expected (length parts)
      (omega (arith, applied.count, count, length-parts (term_reading entry g) front back))))
      (rw (
        take-front (term_reading entry g) front back symbol.parameters applied.count,
        drop-front (term_reading entry g) front back symbol.parameters applied.count,
      )
      (gives-bind (in_turn (type_readings (map (term_reading entry g) front) scope))
      (λ ts.
      terms_in_places entry (map (instantiate ts) symbol.arguments)
      (term_readings (map (term_reading entry g) back) scope) >>= λ as'.
      good (record { types = ts; terms = as' }))
      types (record { types = types; terms = terms })
      (type_arguments_give front types applied.means)
      (gives-bind (terms_in_places entry (map (instantiate types) symbol.arguments)
      (term_readings (map (term_reading entry g) back) scope))
      (λ as'. good (record { types = types; terms = as' })) terms
      (record { types = types; terms = terms }) given
      (gives-good (record { types = types; terms = terms })))))

  -- a function with its arguments
  function_gives : (name : List ℕ) (place : ℕ) (result : Ty) (arguments : Visited Arguments)
      (types : List Ty) (terms : List Term) →
      Gives arguments (record { types = types; terms = terms }) →
      Gives (function_applied entry name place (Some result) arguments)
      (term.Apply place types terms, instantiate types result)
  function_gives name place result arguments types terms given =
      gives-bind arguments
      (λ a. good (term.Apply place a.types a.terms, instantiate a.types result))
      (record { types = types; terms = terms })
      (term.Apply place types terms, instantiate types result) given
      (gives-good (term.Apply place types terms, instantiate types result))

  mutual
    pub term_gives : (x : RawTerm) (a : Term) (ty : Ty) → TermMeans g scope x a ty →
        Gives ((term_reading entry g x).as_term scope) (a, ty)
    term_gives _ _ _ (bound_term name i ty is) =
        rw (l.term_reading-variable entry g name, is) (gives-good (term.Var i, ty))
    term_gives _ _ _ (applied_term name place symbol result front types back terms applied means) =
        rw (l.term_reading-apply entry g name (front ++ back), applied.named, applied.gives)
        (gives-then (expect_number (number_of g place))
        (function_applied entry name place (Some result)
        (arguments_of entry symbol (map (term_reading entry g) (front ++ back)) scope))
        (term.Apply place types terms, instantiate types result)
        (number_gives (number_of g place) (allowed.within name place symbol applied.named))
        (function_gives name place result
        (arguments_of entry symbol (map (term_reading entry g) (front ++ back)) scope) types terms
        (arguments_of_gives name place symbol (Some result) front types back terms applied
        (terms_count back terms (map (instantiate types) symbol.arguments) means
        ∙ length-map symbol.arguments (instantiate types))
        (terms_give back terms (map (instantiate types) symbol.arguments) means))))

    pub terms_give : (xs : List RawTerm) (terms : List Term) (types : List Ty) →
        TermsMean g scope xs terms types →
        Gives (terms_in_places entry types (term_readings (map (term_reading entry g) xs) scope)) terms
    terms_give _ _ _ no_terms = gives-none
    terms_give _ _ _ (more_terms part a ty parts terms types means others) =
        gives-more (term_in_place entry ty ((term_reading entry g part).as_term scope))
        (map (λ (place : Ty × Visited Typed). term_in_place entry place.0 place.1)
        (zip types (term_readings (map (term_reading entry g) parts) scope)))
        a terms
        (place_gives ty a ((term_reading entry g part).as_term scope) (term_gives part a ty means))
        (terms_give parts terms types others)
