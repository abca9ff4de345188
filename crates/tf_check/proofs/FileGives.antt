-- A well typed file has no faults, and stands for its one problem.
use Rattle.std.proofs.Common.{◌≡◌, ℕ, ◌+◌, ◌==◌, ◌≤◌, ◌<◌, Bool, true, false, not, ◌&&◌, ◌||◌, List, [], ◌∷◌, map, length, refl, sym, ap, ◌∙◌, subst, arith, Some, None, is_some, unwrap_or, count_by, cond, if◌then◌else◌}
use Rattle.std.specs.List.{AllByRecursion}
use Rattle.std.proofs.lemmas.List.Sums.{sum_by-cons}
use Rattle.tptp_syntax.specs.declared.types.TypeExpr.{TypeExpr}
use Rattle.tptp_syntax.specs.declared.types.TypeExpr.TheVariants as e
use Rattle.tptp_syntax.specs.declared.entry.File.{File}
use Rattle.tf_core.specs.declared.formula.Formula.{Formula}
use Rattle.tf_core.specs.declared.problem.Problem.{Problem}
use Rattle.tf_core.specs.declared.problem.Stated.{Stated}
use Rattle.tf_core.specs.declared.signature.Constructor.{Constructor}
use Rattle.tf_core.specs.declared.signature.Symbol.{Symbol}
use Rattle.tf_core.specs.declared.signature.Signature.{Signature}
use Rattle.tf_check.specs.declared.error.TypeError.TheVariants.{BadDeclaration, Redeclared, SecondConjecture}
use Rattle.tf_check.specs.Kinds.{Kind, kind, types_of_all, added}
use Rattle.tf_check.specs.Visited.{Visited, good, expect, in_turn, ◌>>=◌}
use Rattle.tf_check.specs.Types.{constructor_named, reading, found}
use Rattle.tf_check.specs.Equal.{same_profile}
use Rattle.tf_check.specs.Entries.{Declared, RawStatement, constructor_declarations, symbol_declarations, statements}
use Rattle.tf_check.specs.Signature.{declared_constructor, symbol_named}
use Rattle.tf_check.specs.Terms.{most_symbols, expect_number, number_of}
use Rattle.tf_check.specs.Formulas.{formula_reading, prefix_types}
use Rattle.tf_check.specs.Faults.{constructor_agrees, visited_constructor, symbol_agrees, visited_symbol, is_conjecture, role_of, visited_statement, visited_statements, visited_file, faults, problem_of}
use Rattle.tf_check.specs.Typing.{JoinsTypes, one_type, joined_types, AllJoinTypes, nothing_joined, more_joined, IsKind, constant_kind, mapped_kind}
use Rattle.tf_check.specs.Typing.{IsDeclaredConstructor, IsDeclaredSymbol, StatementMeans, StatementsMean, no_statements, more_statements, IsTyped}
use Rattle.tf_check.proofs.VisitLemmas.{Gives, gives-good, gives-bind, gives-then, gives-expect, gives-none, gives-more}
use Rattle.tf_check.proofs.SameLemmas.{equal_test, same_profile-self}
use Rattle.tf_check.proofs.KindLemmas as k
use Rattle.tf_check.proofs.FoundLemmas.{found_within}
use Rattle.tf_check.proofs.TypesGive.{symbol_gives}
use Rattle.tf_check.proofs.TermsGive.{AreAllowed, number_gives}
use Rattle.tf_check.proofs.FormulasGive.{formula_gives}

-- ---- kinds

mutual
  joined_types_are : (x : TypeExpr) (count : ℕ) → JoinsTypes x count → (kind x).types ≡ Some count
  joined_types_are _ _ one_type = ap (λ (k : Kind). k.types) k.kind-types
  joined_types_are _ _ (joined_types parts count means) =
      ap (λ (k : Kind). k.types) (k.kind-product parts) ∙ all_joined_are parts count means

  all_joined_are : (xs : List TypeExpr) (count : ℕ) → AllJoinTypes xs count →
      types_of_all (map kind xs) ≡ Some count
  all_joined_are _ _ nothing_joined = refl
  all_joined_are _ _ (more_joined part count parts counts means others) =
      ap (λ n. added n (types_of_all (map kind parts))) (joined_types_are part count means)
      ∙ ap (added (Some count)) (all_joined_are parts counts others)

pub kind_is : (x : TypeExpr) (arity : ℕ) → IsKind x arity → (kind x).arity ≡ Some arity
kind_is _ _ constant_kind = ap (λ (k : Kind). k.arity) k.kind-types
kind_is _ _ (mapped_kind left count means) =
    ap (λ (k : Kind). k.arity) (k.kind-map left e.Types) ∙ joined_types_are left count means

-- ---- declarations

constructor_gives : (g : Signature) (d : Declared) → length g.constructors ≤ most_symbols + 1 →
    IsDeclaredConstructor g d → Gives (visited_constructor g d) tt
constructor_gives g d size means =
    let arity : (kind d.body).arity ≡ Some means.arity = kind_is d.body means.arity means.means in
    let declared : (declared_constructor d).arity ≡ means.arity = ap (λ a. unwrap_or a 0) arity in
    let below : means.place < length g.constructors =
    found_within (λ (c : Constructor). c.name) d.name g.constructors means.place
    (record { name = d.name; arity = means.arity }) means.first in
    rw (declared, arity, means.first)
    (gives-then (expect true (BadDeclaration d.entry))
    (constructor_agrees d means.arity
    (Some (means.place, record { name = d.name; arity = means.arity }))) tt
    (gives-expect true (BadDeclaration d.entry) refl)
    (gives-then (expect (means.arity == means.arity) (Redeclared d.entry d.name))
    (expect_number means.place) tt
    (gives-expect (means.arity == means.arity) (Redeclared d.entry d.name)
    (equal_test means.arity means.arity refl))
    (number_gives means.place (omega arith))))

symbol_declared : (g : Signature) (d : Declared) → AreAllowed g → IsDeclaredSymbol g d →
    Gives (visited_symbol g d) tt
symbol_declared g d allowed means =
    gives-bind ((reading d.entry g.constructors d.body).as_symbol d.name [])
    (λ s. symbol_agrees g d s (symbol_named d.name g)) means.symbol tt
    (symbol_gives d.entry g.constructors d.name [] d.body means.symbol means.means)
    (rw means.first
    (gives-then (expect (same_profile means.symbol means.symbol) (Redeclared d.entry d.name))
    (expect_number (number_of g means.place)) tt
    (gives-expect (same_profile means.symbol means.symbol) (Redeclared d.entry d.name)
    (same_profile-self means.symbol))
    (number_gives (number_of g means.place)
    (allowed.within d.name means.place means.symbol means.first))))

-- nothing is given by each of several
units : {A : Type 0} → List A → List (Unit {0})
units [] = []
units (x ∷ xs) = tt ∷ units xs

each_gives : {A : Type 0} (visit : A → Visited (Unit {0})) (P : A → Type 0) →
    ((x : A) → P x → Gives (visit x) tt) → (xs : List A) → AllByRecursion P xs →
    Gives (in_turn (map visit xs)) (units xs)
unfolding units
each_gives visit P one [] all = gives-none
each_gives visit P one (x ∷ xs) all =
    gives-more (visit x) (map visit xs) tt (units xs) (one x all.0) (each_gives visit P one xs all.1)

-- ---- statements

abbrev bit : Bool → ℕ
bit b = cond b 1 0

conjecture_allowed : (conjectured conjecture : Bool) (others : ℕ) →
    bit conjectured + (bit conjecture + others) ≤ 1 →
    (not (conjectured && conjecture) ≡ true) × (bit (conjectured || conjecture) + others ≤ 1)
conjecture_allowed true true others most = absurd (omega arith)
conjecture_allowed true false others most = (refl, omega arith)
conjecture_allowed false true others most = (refl, omega arith)
conjecture_allowed false false others most = (refl, omega arith)

statement_gives : (g : Signature) (conjectured : Bool) (statement : RawStatement) (stated : Stated) →
    AreAllowed g → not (conjectured && is_conjecture statement.role) ≡ true →
    StatementMeans g statement stated → Gives (visited_statement g conjectured statement) stated
statement_gives g conjectured statement stated allowed first means =
    let made : Formula → Stated = λ body. record {
      name = statement.label;
      role = role_of statement.role;
      type_variables = prefix_types statement.formula;
      body = body;
    } in
    let is : made stated.body ≡ stated = λ i. record {
      name = sym means.name i;
      role = sym means.role i;
      type_variables = sym means.type_variables i;
      body = stated.body;
    } in
    gives-then
    (expect (not (conjectured && is_conjecture statement.role)) (SecondConjecture statement.entry))
    (formula_reading statement.entry g statement.formula true [] >>= λ body. good (made body)) stated
    (gives-expect (not (conjectured && is_conjecture statement.role))
    (SecondConjecture statement.entry) first)
    (gives-bind (formula_reading statement.entry g statement.formula true [])
    (λ body. good (made body)) stated.body stated
    (formula_gives statement.entry g allowed true [] statement.formula stated.body means.body)
    (subst (Gives (good (made stated.body))) is (gives-good (made stated.body))))

statements_give : (g : Signature) → AreAllowed g → (conjectured : Bool) (xs : List RawStatement)
    (formulas : List Stated) →
    bit conjectured + count_by (λ (statement : RawStatement). is_conjecture statement.role) xs ≤ 1 →
    StatementsMean g xs formulas → Gives (visited_statements g conjectured xs) formulas
statements_give g allowed conjectured _ _ most no_statements = gives-good []
statements_give g allowed conjectured _ _ most (more_statements statement stated rest formulas means others) =
    let parts = conjecture_allowed conjectured (is_conjecture statement.role)
    (count_by (λ (statement : RawStatement). is_conjecture statement.role) rest)
    (subst (λ n. bit conjectured + n ≤ 1)
    (sum_by-cons (λ (x : RawStatement). bit (is_conjecture x.role)) statement rest) most) in
    gives-bind (visited_statement g conjectured statement)
    (λ x. visited_statements g (conjectured || is_conjecture statement.role) rest >>= λ xs.
    good (x ∷ xs)) stated (stated ∷ formulas)
    (statement_gives g conjectured statement stated allowed parts.0 means)
    (gives-bind (visited_statements g (conjectured || is_conjecture statement.role) rest)
    (λ xs. good (stated ∷ xs)) formulas (stated ∷ formulas)
    (statements_give g allowed (conjectured || is_conjecture statement.role) rest formulas parts.1 others)
    (gives-good (stated ∷ formulas)))

-- ---- files

are_allowed : (g : Signature) → length g.constructors + length g.symbols ≤ most_symbols + 1 → AreAllowed g
are_allowed g size = record { within = λ name place symbol is. omega (arith, place_below name place symbol is) }
  where
    named : (name : List ℕ) (place : ℕ) (symbol : Symbol) (hidden : Bool) →
        (if hidden then None else found (λ (s : Symbol). s.name) name g.symbols) ≡ Some (place, symbol) →
        place < length g.symbols
    named name place symbol true is = cc
    named name place symbol false is = found_within (λ (s : Symbol). s.name) name g.symbols place symbol is

    place_below : (name : List ℕ) (place : ℕ) (symbol : Symbol) → symbol_named name g ≡ Some (place, symbol) →
        place < length g.symbols
    place_below name place symbol is = named name place symbol (is_some (constructor_named name g.constructors)) is

file_gives : (file : File) (p : Problem) → IsTyped file p → Gives (visited_file p.signature file) p
file_gives file p typed =
    let g : Signature = p.signature in
    let allowed : AreAllowed g = are_allowed g typed.size in
    gives-bind (in_turn (map (visited_constructor g) (constructor_declarations file)))
    (λ cs. in_turn (map (visited_symbol g) (symbol_declarations file)) >>= λ ss.
    visited_statements g false (statements file) >>= λ xs.
    good (record { signature = g; formulas = xs }))
    (units (constructor_declarations file)) p
    (each_gives (visited_constructor g) (IsDeclaredConstructor g)
    (λ d means. constructor_gives g d (omega (arith, typed.size)) means) (constructor_declarations file)
    typed.constructors)
    (gives-bind (in_turn (map (visited_symbol g) (symbol_declarations file)))
    (λ ss. visited_statements g false (statements file) >>= λ xs.
    good (record { signature = g; formulas = xs }))
    (units (symbol_declarations file)) p
    (each_gives (visited_symbol g) (IsDeclaredSymbol g)
    (λ d means. symbol_declared g d allowed means) (symbol_declarations file) typed.symbols)
    (gives-bind (visited_statements g false (statements file))
    (λ xs. good (record { signature = g; formulas = xs })) p.formulas p
    (statements_give g allowed false (statements file) p.formulas (omega (arith, typed.conjectures))
    typed.formulas)
    (gives-good p)))

-- A well typed file has no faults.
pub typed-faults : (file : File) (p : Problem) → IsTyped file p → faults file ≡ []
unfolding faults
typed-faults file p typed =
    subst (λ g. (visited_file g file).faults ≡ []) typed.signature (file_gives file p typed).clean

-- A well typed file stands for its problem.
pub typed-problem_of : (file : File) (p : Problem) → IsTyped file p → p ≡ problem_of file
unfolding problem_of
typed-problem_of file p typed =
    sym (file_gives file p typed).is ∙ ap (λ g. (visited_file g file).value) typed.signature
