-- A file without faults is well typed with the problem that it stands for.
use Rattle.std.proofs.Common.{◌≡◌, ℕ, ◌+◌, ◌==◌, ◌-◌, ◌≤◌, Bool, true, false, not, ◌&&◌, ◌||◌, List, [], ◌∷◌, ◌++◌, map, length, refl, sym, ap, ◌∙◌, subst, arith, Option, Some, None, is_some, unwrap_or, option_map, count_by, cond, if◌then◌else◌, flat_map, filter, bytes_eq}
use Rattle.std.specs.List.{AllByRecursion}
use Rattle.std.proofs.lemmas.Bool.{false≢true}
use Rattle.std.proofs.lemmas.List.Sums.{sum_by-cons}
use Rattle.tptp_syntax.specs.declared.types.TypeExpr.{TypeExpr}
use Rattle.tptp_syntax.specs.declared.types.TypeExpr.TheVariants as e
use Rattle.tptp_syntax.specs.declared.entry.File.{File}
use Rattle.tf_core.specs.declared.formula.Formula.{Formula}
use Rattle.tf_core.specs.declared.problem.Problem.{Problem}
use Rattle.tf_core.specs.declared.problem.Stated.{Stated}
use Rattle.tf_core.specs.declared.signature.Constructor.{Constructor}
use Rattle.tf_core.specs.declared.signature.Symbol.{Symbol}
use Rattle.tf_core.specs.declared.signature.Signature.{Signature}
use Rattle.tf_check.specs.declared.error.TypeError.TheVariants.{BadDeclaration, Redeclared, SecondConjecture}
use Rattle.tf_check.specs.Kinds.{Kind, kind, types_of_all, added}
use Rattle.tf_check.specs.Scope.{Scope}
use Rattle.tf_check.specs.Visited.{Visited, good, expect, in_turn, ◌>>=◌}
use Rattle.tf_check.specs.Types.{constructor_named, reading}
use Rattle.tf_check.specs.Equal.{same_profile}
use Rattle.tf_check.specs.Entries.{Declared, RawStatement, declared, entries_of, constructor_declarations, symbol_declarations, statements}
use Rattle.tf_check.specs.Names.{Occurrence, over_individuals, parameters_in, names_of_formula}
use Rattle.tf_check.specs.Signature.{individuals_constructor, declared_constructor, declared_symbol, declared_symbols, visited_names, constructors_of, symbols_of, symbol_among, symbol_named, signature_of}
use Rattle.tf_check.specs.Terms.{most_symbols, expect_number, number_of}
use Rattle.tf_check.specs.Formulas.{formula_reading, prefix_types}
use Rattle.tf_check.specs.Faults.{constructor_agrees, visited_constructor, symbol_agrees, visited_symbol, is_conjecture, role_of, visited_statement, visited_statements, visited_file, faults, problem_of}
use Rattle.tf_check.specs.Typing.{JoinsTypes, one_type, joined_types, AllJoinTypes, nothing_joined, more_joined, IsKind, constant_kind, mapped_kind}
use Rattle.tf_check.specs.Typing.{SymbolMeans, constant_symbol, mapped_symbol, quantified_symbol, with_parameters}
use Rattle.tf_check.specs.Typing.{IsDeclaredConstructor, IsDeclaredSymbol, StatementMeans, StatementsMean, no_statements, more_statements, IsTyped}
use Rattle.tf_check.proofs.VisitLemmas.{IsClean, clean-bind, value-bind, clean-then, value-then, value-good, clean-expect, clean-more}
use Rattle.tf_check.proofs.SameLemmas.{tested_equal, same_profile-equal}
use Rattle.tf_check.proofs.Variants.{type_induction, IsVariant, is_variable, is_apply, is_individuals, is_truth, is_types, is_product, is_map, is_quantified, variant}
use Rattle.tf_check.proofs.KindLemmas as k
use Rattle.tf_check.proofs.FoundLemmas.{found_named, found-append, found-first_of_each, item_of, tested, item_of-tested, apart-first_of_each, all-first_of_each, places_bound}
use Rattle.tf_check.proofs.TypesClean.{reading_sound}
use Rattle.tf_check.proofs.TermsClean.{IsNumbered, number_clean, all_append}
use Rattle.tf_check.proofs.FormulasClean.{formula_sound, is_types_says}

-- ---- kinds

abbrev JoinsWhere : TypeExpr → Type 0
JoinsWhere x = (count : ℕ) → (kind x).types ≡ Some count → JoinsTypes x count

never : (x : TypeExpr) → (kind x).types ≡ None → JoinsWhere x
never x none count some = cc

added_parts : (a b : Option ℕ) (count : ℕ) → added a b ≡ Some count →
    (m : ℕ) × (n : ℕ) × (a ≡ Some m) × (b ≡ Some n) × (m + n ≡ count)
added_parts None b count some = cc
added_parts (Some m) None count some = cc
added_parts (Some m) (Some n) count some =
    let sum : m + n ≡ count = cc in
    (m, n, refl, refl, sum)

all_join : (xs : List TypeExpr) → AllByRecursion JoinsWhere xs → (count : ℕ) →
    types_of_all (map kind xs) ≡ Some count → AllJoinTypes xs count
all_join [] all count some =
    let none : 0 ≡ count = cc in
    subst (AllJoinTypes []) none nothing_joined
all_join (x ∷ xs) all count some =
    let parts = added_parts (kind x).types (types_of_all (map kind xs)) count some in
    subst (AllJoinTypes (x ∷ xs)) parts.4
    (more_joined x parts.0 xs parts.1 (all.0 parts.0 parts.2) (all_join xs all.1 parts.1 parts.3))

joins : (x : TypeExpr) → JoinsWhere x
joins =
    type_induction JoinsWhere (record {
      on_variable = λ name. never (e.Variable name) (ap (λ (k : Kind). k.types) (k.kind-variable name));
      on_apply = λ name parts all. never (e.Apply name parts) (ap (λ (k : Kind). k.types) (k.kind-apply name parts));
      on_individuals = never e.Individuals (ap (λ (k : Kind). k.types) k.kind-individuals);
      on_truth = never e.Truth (ap (λ (k : Kind). k.types) k.kind-truth);
      on_types = λ count some.
          (let one : Some 1 ≡ Some count = sym (ap (λ (k : Kind). k.types) k.kind-types) ∙ some in
          let same : 1 ≡ count = cc in
          subst (JoinsTypes e.Types) same one_type);
      on_product = λ parts all count some.
          joined_types parts count
          (all_join parts all count (sym (ap (λ (k : Kind). k.types) (k.kind-product parts)) ∙ some));
      on_map = λ left right one other. never (e.Map left right) (ap (λ (k : Kind). k.types) (k.kind-map left right));
      on_quantified = λ bounds body sound.
          never (e.Quantified bounds body) (ap (λ (k : Kind). k.types) (k.kind-quantified bounds body));
    })

-- a body that is said to declare a constructor with so many arguments does so
kind_sound : (x : TypeExpr) → IsVariant x → (kind x).is_kind ≡ true → (count : ℕ) →
    (kind x).arity ≡ Some count → IsKind x count
kind_sound _ (is_variable name) says count some =
    absurd (false≢true (ap (λ (k : Kind). k.is_kind) (sym (k.kind-variable name)) ∙ says))
kind_sound _ (is_apply name parts) says count some =
    absurd (false≢true (ap (λ (k : Kind). k.is_kind) (sym (k.kind-apply name parts)) ∙ says))
kind_sound _ is_individuals says count some =
    absurd (false≢true (ap (λ (k : Kind). k.is_kind) (sym k.kind-individuals) ∙ says))
kind_sound _ is_truth says count some =
    absurd (false≢true (ap (λ (k : Kind). k.is_kind) (sym k.kind-truth) ∙ says))
kind_sound _ is_types says count some =
    let zero_is : Some 0 ≡ Some count = sym (ap (λ (k : Kind). k.arity) k.kind-types) ∙ some in
    let same : 0 ≡ count = cc in
    subst (IsKind e.Types) same constant_kind
kind_sound _ (is_product parts) says count some =
    absurd (false≢true (ap (λ (k : Kind). k.is_kind) (sym (k.kind-product parts)) ∙ says))
kind_sound _ (is_map left right) says count some =
    let types : right ≡ e.Types =
    is_types_says right (variant right) (sym (ap (λ (k : Kind). k.is_kind) (k.kind-map left right)) ∙ says) in
    let joined : (kind left).types ≡ Some count = sym (ap (λ (k : Kind). k.arity) (k.kind-map left right)) ∙ some in
    subst (λ r. IsKind (e.Map left r) count) (sym types) (mapped_kind left count (joins left count joined))
kind_sound _ (is_quantified bounds body) says count some =
    absurd (false≢true (ap (λ (k : Kind). k.is_kind) (sym (k.kind-quantified bounds body)) ∙ says))

-- ---- the parts of a file without faults

-- what is said of each of several that are visited without a fault
each_clean : {A : Type 0} (visit : A → Visited (Unit {0})) (P : A → Type 0) →
    ((x : A) → IsClean (visit x) → P x) → (xs : List A) → IsClean (in_turn (map visit xs)) →
    AllByRecursion P xs
each_clean visit P one [] clean = tt
each_clean visit P one (x ∷ xs) clean =
    let parts = clean-more (visit x) (map visit xs) clean in
    (one x parts.0, each_clean visit P one xs parts.1)

-- the name stands for a symbol whose number is allowed
pub record HasNumber (g : Signature) (symbol : Symbol) : Type 0 where
  pub place : ℕ
  pub first : Symbol
  pub named : symbol_named symbol.name g ≡ Some (place, first)
  pub within : number_of g place ≤ most_symbols

constructor_clean : (g : Signature) (d : Declared) → (kind d.body).is_kind ≡ true → IsClean (visited_constructor g d) →
    (means : IsDeclaredConstructor g d) × (means.place ≤ most_symbols)
constructor_clean g d is clean =
    let test : Visited (Unit {0}) = expect (is_some (kind d.body).arity) (BadDeclaration d.entry) in
    let agrees : Visited (Unit {0}) = constructor_agrees d (declared_constructor d).arity
    (constructor_named d.name g.constructors) in
    let parts = clean-then test agrees clean in
    by_arity (kind d.body).arity refl (clean-expect (is_some (kind d.body).arity) (BadDeclaration d.entry) parts.0)
    (constructor_named d.name g.constructors) refl parts.1
  where
    by_arity : (arity : Option ℕ) → (kind d.body).arity ≡ arity → is_some arity ≡ true →
        (at : Option (ℕ × Constructor)) → constructor_named d.name g.constructors ≡ at →
        IsClean (constructor_agrees d (declared_constructor d).arity at) →
        (means : IsDeclaredConstructor g d) × (means.place ≤ most_symbols)
    by_arity None gives some at named agrees = absurd (false≢true some)
    by_arity (Some arity) gives some None named agrees =
        absurd (false≢true (clean-expect false (Redeclared d.entry d.name) agrees))
    by_arity (Some arity) gives some (Some (place, first)) named agrees =
        let declared : (declared_constructor d).arity ≡ arity = ap (λ a. unwrap_or a 0) gives in
        let same : Visited (Unit {0}) = expect (first.arity == (declared_constructor d).arity) (Redeclared d.entry d.name) in
        let parts = clean-then same (expect_number place) agrees in
        let equal : first.arity ≡ arity =
        tested_equal first.arity (declared_constructor d).arity
        (clean-expect (first.arity == (declared_constructor d).arity) (Redeclared d.entry d.name) parts.0)
        ∙ declared in
        let name : d.name ≡ first.name =
        found_named (λ (c : Constructor). c.name) d.name g.constructors place first named in
        let whole : first ≡ record { name = d.name; arity = arity } =
        λ i. record { name = sym name i; arity = equal i } in (
          record {
            arity = arity;
            place = place;
            means = kind_sound d.body (variant d.body) is arity gives;
            first = named ∙ ap (λ (c : Constructor). Some (place, c)) whole;
          },
          number_clean place parts.1,
        )

-- the symbol that a declaration means has the name
means_name : (constructors : List Constructor) (name : List ℕ) (scope : Scope) (x : TypeExpr) (symbol : Symbol) →
    SymbolMeans constructors name scope x symbol → symbol.name ≡ name
means_name constructors name _ _ _ (constant_symbol scope body result means) = refl
means_name constructors name _ _ _ (mapped_symbol scope left right arguments result means gives) = refl
means_name constructors name _ _ _ (quantified_symbol scope names body symbol means) =
    means_name constructors name (with_parameters names scope) body symbol means

symbol_clean : (g : Signature) (d : Declared) → IsClean (visited_symbol g d) →
    IsDeclaredSymbol g d × HasNumber g (declared_symbol g.constructors d)
symbol_clean g d clean =
    let visit : Visited Symbol = (reading d.entry g.constructors d.body).as_symbol d.name [] in
    let parts = clean-bind visit (λ s. symbol_agrees g d s (symbol_named d.name g)) clean in
    by (symbol_named d.name g) refl ((reading_sound d.entry g.constructors d.body).symbol d.name [] parts.0) parts.1
  where
    hidden : (b : Bool) (place : ℕ) (first : Symbol) →
        (if b then None else symbol_among d.name g.symbols) ≡ Some (place, first) → d.name ≡ first.name
    hidden true place first is = cc
    hidden false place first is = found_named (λ (s : Symbol). s.name) d.name g.symbols place first is

    first_name : (place : ℕ) (first : Symbol) → symbol_named d.name g ≡ Some (place, first) → d.name ≡ first.name
    first_name place first is = hidden (is_some (constructor_named d.name g.constructors)) place first is

    by : (at : Option (ℕ × Symbol)) → symbol_named d.name g ≡ at →
        SymbolMeans g.constructors d.name [] d.body (declared_symbol g.constructors d) →
        IsClean (symbol_agrees g d (declared_symbol g.constructors d) at) →
        IsDeclaredSymbol g d × HasNumber g (declared_symbol g.constructors d)
    by None named means agrees =
        absurd (false≢true (clean-expect false (Redeclared d.entry d.name) agrees))
    by (Some (place, first)) named means agrees =
        let symbol : Symbol = declared_symbol g.constructors d in
        let same : Visited (Unit {0}) = expect (same_profile first symbol) (Redeclared d.entry d.name) in
        let parts = clean-then same (expect_number (number_of g place)) agrees in
        let name : d.name ≡ first.name = first_name place first named in
        let own : symbol.name ≡ d.name = means_name g.constructors d.name [] d.body symbol means in
        let equal : first ≡ symbol =
        same_profile-equal first symbol (sym name ∙ sym own)
        (clean-expect (same_profile first symbol) (Redeclared d.entry d.name) parts.0) in (
          record {
            symbol = symbol;
            place = place;
            means = means;
            first = named ∙ ap (λ (s : Symbol). Some (place, s)) equal;
          },
          record {
            place = place;
            first = first;
            named = ap (λ n. symbol_named n g) own ∙ named;
            within = number_clean (number_of g place) parts.1;
          },
        )

-- ---- statements

abbrev bit : Bool → ℕ
bit b = cond b 1 0

conjecture_once : (conjectured conjecture : Bool) (others : ℕ) → not (conjectured && conjecture) ≡ true →
    bit (conjectured || conjecture) + others ≤ 1 → bit conjectured + (bit conjecture + others) ≤ 1
conjecture_once true true others first most = absurd (false≢true first)
conjecture_once true false others first most = omega arith
conjecture_once false true others first most = omega arith
conjecture_once false false others first most = omega arith

abbrev Agrees : Signature → (List ℕ → ℕ) → Type 0
Agrees g parameters = (name : List ℕ) (place : ℕ) (symbol : Symbol) →
    symbol_named name g ≡ Some (place, symbol) → parameters name ≡ symbol.parameters

statement_clean : (g : Signature) (parameters : List ℕ → ℕ) → Agrees g parameters → (conjectured : Bool)
    (statement : RawStatement) → IsClean (visited_statement g conjectured statement) →
    (not (conjectured && is_conjecture statement.role) ≡ true)
    × StatementMeans g statement (visited_statement g conjectured statement).value
    × AllByRecursion (IsNumbered g) (names_of_formula parameters statement.formula)
statement_clean g parameters agree conjectured statement clean =
    let test : Visited (Unit {0}) =
    expect (not (conjectured && is_conjecture statement.role)) (SecondConjecture statement.entry) in
    let body : Visited Formula = formula_reading statement.entry g statement.formula true [] in
    let made : Formula → Stated = λ a. record {
      name = statement.label;
      role = role_of statement.role;
      type_variables = prefix_types statement.formula;
      body = a;
    } in
    let parts = clean-then test (body >>= λ a. good (made a)) clean in
    let more = clean-bind body (λ a. good (made a)) parts.1 in
    let sound = formula_sound statement.entry g parameters agree statement.formula in
    let value : (visited_statement g conjectured statement).value ≡ made body.value =
    value-then test (body >>= λ a. good (made a)) ∙ value-bind body (λ a. good (made a)) ∙ value-good (made body.value) in (
      clean-expect (not (conjectured && is_conjecture statement.role)) (SecondConjecture statement.entry) parts.0,
      subst (StatementMeans g statement) (sym value)
          (record { name = refl; role = refl; type_variables = refl; body = sound.means true [] more.0 }),
      sound.names true [] more.0,
    )

statements_clean : (g : Signature) (parameters : List ℕ → ℕ) → Agrees g parameters → (conjectured : Bool)
    (xs : List RawStatement) → IsClean (visited_statements g conjectured xs) →
    StatementsMean g xs (visited_statements g conjectured xs).value
    × (bit conjectured + count_by (λ (statement : RawStatement). is_conjecture statement.role) xs ≤ 1)
    × AllByRecursion (IsNumbered g)
    (flat_map (λ (statement : RawStatement). names_of_formula parameters statement.formula) xs)
statements_clean g parameters agree true [] clean = (rw (value-good {A = List Stated} []) no_statements, omega arith, tt)
statements_clean g parameters agree false [] clean = (rw (value-good {A = List Stated} []) no_statements, omega arith, tt)
statements_clean g parameters agree conjectured (statement ∷ rest) clean =
    let first : Visited Stated = visited_statement g conjectured statement in
    let others : Visited (List Stated) = visited_statements g (conjectured || is_conjecture statement.role) rest in
    let parts = clean-bind first (λ x. others >>= λ xs. good (x ∷ xs)) clean in
    let more = clean-bind others (λ xs. good (first.value ∷ xs)) parts.1 in
    let one = statement_clean g parameters agree conjectured statement parts.0 in
    let sound = statements_clean g parameters agree (conjectured || is_conjecture statement.role) rest more.0 in (
      rw (
        value-bind first (λ x. others >>= λ xs. good (x ∷ xs)),
        value-bind others (λ xs. good (first.value ∷ xs)),
        value-good (first.value ∷ others.value),
      )
          (more_statements statement first.value rest others.value one.1 sound.0),
      subst (λ k. bit conjectured + k ≤ 1)
          (sym (sum_by-cons (λ (x : RawStatement). bit (is_conjecture x.role)) statement rest))
          (conjecture_once conjectured (is_conjecture statement.role)
          (count_by (λ (x : RawStatement). is_conjecture x.role) rest) one.0 sound.1),
      all_append (IsNumbered g) (names_of_formula parameters statement.formula)
          (flat_map (λ (x : RawStatement). names_of_formula parameters x.formula) rest) one.2 sound.2,
    )

pub same_place : {A : Type 0} (a b : ℕ) (x y : A) → ◌≡◌ {A = Option (ℕ × A)} (Some (a, x)) (Some (b, y)) → a ≡ b
same_place {A = A} a b x y is =
    let first : ℕ × A = (a, x) in
    let second : ℕ × A = (b, y) in
    let equal : first ≡ second = cc in
    ap (λ (at : ℕ × A). at.0) equal

-- ---- the symbols of the signature

all_map : {A B : Type 0} (f : A → B) (P : B → Type 0) (Q : A → Type 0) → ((a : A) → Q a → P (f a)) →
    (xs : List A) → AllByRecursion Q xs → AllByRecursion P (map f xs)
all_map f P Q one [] all = tt
all_map f P Q one (x ∷ xs) all = (one x all.0, all_map f P Q one xs all.1)

-- among symbols over `$i` a name takes no type arguments
over_takes_none : (name : List ℕ) (occurrences : List Occurrence) (symbol : Symbol) →
    item_of (λ (s : Symbol). s.name) (symbol_among name (map over_individuals occurrences)) ≡ Some symbol →
    symbol.parameters ≡ 0
over_takes_none name [] symbol is = cc
over_takes_none name (o ∷ os) symbol is =
    by (bytes_eq name o.name) (sym (item_of-tested (λ (s : Symbol). s.name) (bytes_eq name o.name) (over_individuals o)
    (symbol_among name (map over_individuals os))) ∙ is) (over_takes_none name os symbol)
  where
    by : (same : Bool) → (if same then Some (over_individuals o)
        else item_of (λ (s : Symbol). s.name) (symbol_among name (map over_individuals os))) ≡ Some symbol →
        (item_of (λ (s : Symbol). s.name) (symbol_among name (map over_individuals os)) ≡ Some symbol →
        symbol.parameters ≡ 0) → symbol.parameters ≡ 0
    by true here more =
        let equal : over_individuals o ≡ symbol = cc in
        sym (ap (λ (s : Symbol). s.parameters) equal)
    by false here more = more here

-- what is not found in a front is found behind it
behind : (name : List ℕ) (front back : List Symbol) → symbol_among name front ≡ None →
    item_of (λ (s : Symbol). s.name) (symbol_among name (front ++ back))
    ≡ item_of (λ (s : Symbol). s.name) (symbol_among name back)
behind name [] back none = refl
behind name (x ∷ front) back none =
    item_of-tested (λ (s : Symbol). s.name) (bytes_eq name x.name) x (symbol_among name (front ++ back))
    ∙ by (bytes_eq name x.name) (symbol_among name front) none (behind name front back)
  where
    by : (same : Bool) (rest : Option (ℕ × Symbol)) → tested (λ (s : Symbol). s.name) same x rest ≡ None →
        (rest ≡ None → item_of (λ (s : Symbol). s.name) (symbol_among name (front ++ back))
        ≡ item_of (λ (s : Symbol). s.name) (symbol_among name back)) →
        (if same then Some x else item_of (λ (s : Symbol). s.name) (symbol_among name (front ++ back)))
        ≡ item_of (λ (s : Symbol). s.name) (symbol_among name back)
    by true rest is more = cc
    by false None is more = more refl
    by false (Some at) is more = cc

parameters_by : (name : List ℕ) (declared : List Symbol) (occurrences : List Occurrence) (symbol : Symbol) →
    item_of (λ (s : Symbol). s.name) (symbol_among name (declared ++ map over_individuals occurrences)) ≡ Some symbol →
    parameters_in declared name ≡ symbol.parameters
parameters_by name declared occurrences symbol is = by (symbol_among name declared) refl
  where
    by : (at : Option (ℕ × Symbol)) → symbol_among name declared ≡ at →
        unwrap_or (option_map (λ (at : ℕ × Symbol). at.1.parameters) at) 0 ≡ symbol.parameters
    by None none =
        sym (over_takes_none name occurrences symbol
        (sym (behind name declared (map over_individuals occurrences) none) ∙ is))
    by (Some (p, s)) there =
        let whole : Some s ≡ Some symbol =
        sym (ap (item_of (λ (s : Symbol). s.name))
        (found-append (λ (s : Symbol). s.name) name declared (map over_individuals occurrences) (p, s) there)) ∙ is in
        let equal : s ≡ symbol = cc in
        ap (λ (s : Symbol). s.parameters) equal

-- the symbol that is named is found among the symbols
among : (name : List ℕ) (g : Signature) (place : ℕ) (symbol : Symbol) → symbol_named name g ≡ Some (place, symbol) →
    symbol_among name g.symbols ≡ Some (place, symbol)
among name g place symbol is = by (is_some (constructor_named name g.constructors)) is
  where
    by : (hidden : Bool) → (if hidden then None else symbol_among name g.symbols) ≡ Some (place, symbol) →
        symbol_among name g.symbols ≡ Some (place, symbol)
    by true here = cc
    by false here = here

file_agrees : (file : File) → Agrees (signature_of file) (parameters_in (declared_symbols file))
unfolding signature_of
file_agrees file name place symbol is =
    parameters_by name (declared_symbols file) (visited_names file) symbol
    (sym (found-first_of_each (λ (s : Symbol). s.name) name
    (declared_symbols file ++ map over_individuals (visited_names file)))
    ∙ ap (item_of (λ (s : Symbol). s.name)) (among name (signature_of file) place symbol is))

-- ---- how many names there are

-- the constructor is found at a place that is allowed
pub record IsPlaced (constructors : List Constructor) (constructor : Constructor) : Type 0 where
  pub place : ℕ
  pub first : Constructor
  pub named : constructor_named constructor.name constructors ≡ Some (place, first)
  pub within : place ≤ most_symbols

constructors_bound : (file : File) →
    AllByRecursion (λ d. (means : IsDeclaredConstructor (signature_of file) d) × (means.place ≤ most_symbols))
    (constructor_declarations file) →
    length (signature_of file).constructors ≤ most_symbols + 1
unfolding signature_of
constructors_bound file all =
    let name_of : Constructor → List ℕ = λ c. c.name in
    let items : List Constructor = individuals_constructor ∷ map declared_constructor (constructor_declarations file) in
    let placed : AllByRecursion (IsPlaced (constructors_of file)) items = (
      record {
        place = 0;
        first = individuals_constructor;
        named = refl;
        within = omega arith;
      },
      all_map declared_constructor (IsPlaced (constructors_of file))
          (λ d. (means : IsDeclaredConstructor (signature_of file) d) × (means.place ≤ most_symbols))
          (λ d is. record {
            place = is.0.place;
            first = record { name = d.name; arity = is.0.arity };
            named = is.0.first;
            within = is.1;
          }) (constructor_declarations file) all,
    ) in
    places_bound name_of (IsPlaced (constructors_of file)) (constructors_of file) (most_symbols + 1)
    (apart-first_of_each name_of items) (all-first_of_each name_of (IsPlaced (constructors_of file)) items placed)
    (λ y place is there.
    let same : is.place ≡ place = same_place is.place place is.first y (sym is.named ∙ there) in
    omega (arith, is.within))

symbols_bound : (file : File) →
    length (signature_of file).constructors ≤ most_symbols + 1 →
    AllByRecursion (λ d. HasNumber (signature_of file) (declared_symbol (constructors_of file) d))
    (symbol_declarations file) →
    AllByRecursion (IsNumbered (signature_of file)) (visited_names file) →
    length (signature_of file).constructors + length (signature_of file).symbols ≤ most_symbols + 1
unfolding signature_of
symbols_bound file size declared visited =
    let g : Signature = signature_of file in
    let name_of : Symbol → List ℕ = λ s. s.name in
    let front : List Symbol = declared_symbols file in
    let back : List Symbol = map over_individuals (visited_names file) in
    let items : AllByRecursion (HasNumber g) (front ++ back) =
    all_append (HasNumber g) front back
    (all_map (declared_symbol (constructors_of file)) (HasNumber g)
    (λ d. HasNumber g (declared_symbol (constructors_of file) d)) (λ d is. is) (symbol_declarations file)
    declared)
    (all_map over_individuals (HasNumber g) (IsNumbered g)
    (λ o is. record { place = is.place; first = is.symbol; named = is.named; within = is.within })
    (visited_names file) visited) in
    let bound : length (symbols_of file) ≤ most_symbols + 1 - length (constructors_of file) =
    places_bound name_of (HasNumber g) (symbols_of file) (most_symbols + 1 - length (constructors_of file))
    (apart-first_of_each name_of (front ++ back)) (all-first_of_each name_of (HasNumber g) (front ++ back) items)
    (λ y place is there.
    let same : is.place ≡ place =
    same_place is.place place is.first y (sym (among y.name g is.place is.first is.named) ∙ there) in
    omega (arith, is.within)) in
    omega (arith, bound, size)

-- ---- files

all_firsts : {A : Type 0} (P Q : A → Type 0) (xs : List A) → AllByRecursion (λ x. P x × Q x) xs →
    AllByRecursion P xs × AllByRecursion Q xs
all_firsts P Q [] all = (tt, tt)
all_firsts P Q (x ∷ xs) all =
    let rest = all_firsts P Q xs all.1 in
    ((all.0.0, rest.0), (all.0.1, rest.1))

-- declarations of constructors have bodies of kinds
kinds_of : (ds : List Declared) → AllByRecursion (λ d. (kind d.body).is_kind ≡ true) (filter (λ d. (kind d.body).is_kind) ds)
kinds_of [] = tt
kinds_of (d ∷ ds) = by (kind d.body).is_kind refl (kinds_of ds)
  where
    by : (is : Bool) → (kind d.body).is_kind ≡ is →
        AllByRecursion (λ d. (kind d.body).is_kind ≡ true) (filter (λ d. (kind d.body).is_kind) ds) →
        AllByRecursion (λ d. (kind d.body).is_kind ≡ true)
        (if is then d ∷ filter (λ d. (kind d.body).is_kind) ds else filter (λ d. (kind d.body).is_kind) ds)
    by true says rest = (says, rest)
    by false says rest = rest

each_constructor : (g : Signature) (ds : List Declared) → AllByRecursion (λ d. (kind d.body).is_kind ≡ true) ds →
    IsClean (in_turn (map (visited_constructor g) ds)) →
    AllByRecursion (λ d. (means : IsDeclaredConstructor g d) × (means.place ≤ most_symbols)) ds
each_constructor g [] kinds clean = tt
each_constructor g (d ∷ ds) kinds clean =
    let parts = clean-more (visited_constructor g d) (map (visited_constructor g) ds) clean in
    (constructor_clean g d kinds.0 parts.0, each_constructor g ds kinds.1 parts.1)

placed_only : (g : Signature) (ds : List Declared) →
    AllByRecursion (λ d. (means : IsDeclaredConstructor g d) × (means.place ≤ most_symbols)) ds →
    AllByRecursion (IsDeclaredConstructor g) ds
placed_only g [] all = tt
placed_only g (d ∷ ds) all = (all.0.0, placed_only g ds all.1)

numbered : (file : File) →
    AllByRecursion (λ d. HasNumber (signature_of file) (declared_symbol (signature_of file).constructors d))
    (symbol_declarations file) →
    AllByRecursion (λ d. HasNumber (signature_of file) (declared_symbol (constructors_of file) d))
    (symbol_declarations file)
unfolding signature_of
numbered file all = all

-- a file that is visited without a fault is well typed
file_clean : (file : File) → IsClean (visited_file (signature_of file) file) →
    IsTyped file (visited_file (signature_of file) file).value
file_clean file clean =
    let g : Signature = signature_of file in
    let first : Visited (List (Unit {0})) = in_turn (map (visited_constructor g) (constructor_declarations file)) in
    let second : Visited (List (Unit {0})) = in_turn (map (visited_symbol g) (symbol_declarations file)) in
    let third : Visited (List Stated) = visited_statements g false (statements file) in
    let made : List Stated → Problem = λ xs. record { signature = g; formulas = xs } in
    let parts = clean-bind first (λ cs. second >>= λ ss. third >>= λ xs. good (made xs)) clean in
    let more = clean-bind second (λ ss. third >>= λ xs. good (made xs)) parts.1 in
    let last = clean-bind third (λ xs. good (made xs)) more.1 in
    let value : (visited_file g file).value ≡ made third.value =
    value-bind first (λ cs. second >>= λ ss. third >>= λ xs. good (made xs))
    ∙ value-bind second (λ ss. third >>= λ xs. good (made xs)) ∙ value-bind third (λ xs. good (made xs))
    ∙ value-good (made third.value) in
    let constructors = each_constructor g (constructor_declarations file) (kinds_of (declared (entries_of file))) parts.0 in
    let symbols = all_firsts (IsDeclaredSymbol g) (λ d. HasNumber g (declared_symbol g.constructors d))
    (symbol_declarations file)
    (each_clean (visited_symbol g) (λ d. IsDeclaredSymbol g d × HasNumber g (declared_symbol g.constructors d))
    (symbol_clean g) (symbol_declarations file) more.0) in
    let stated = statements_clean g (parameters_in (declared_symbols file)) (file_agrees file) false (statements file) last.0 in
    subst (IsTyped file) (sym value) (record {
      signature = refl;
      constructors = placed_only g (constructor_declarations file) constructors;
      symbols = symbols.0;
      formulas = stated.0;
      conjectures = omega (arith, stated.1);
      size = symbols_bound file (constructors_bound file constructors) (numbered file symbols.1) stated.2;
    })

-- A file without faults is well typed with the problem that it stands for.
pub faultless-typed : (file : File) → faults file ≡ [] → IsTyped file (problem_of file)
unfolding faults problem_of
faultless-typed file none = file_clean file none
