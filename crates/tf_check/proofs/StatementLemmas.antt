-- The statements of a file, entry by entry: their names, and what answers say of their visits.
use Rattle.std.proofs.Common.{◌≡◌, ℕ, ◌+◌, ◌<◌, ◌≤◌, Bool, true, false, not, ◌&&◌, ◌||◌, List, [], ◌∷◌, ◌++◌, length, flat_map, drop, get_or, append_assoc, Result, Ok, Err, refl, sym, ap, ◌∙◌, subst}
use Rattle.std.specs.List.{enumerate_from}
use Rattle.std.proofs.Math.ListN.{drop_of_length-le}
use Rattle.std.proofs.lemmas.Bool.{false≢true}
use Rattle.std.proofs.lemmas.List.{append-nil}
use Rattle.tptp_syntax.specs.declared.entry.Entry.{Entry}
use Rattle.tptp_syntax.specs.declared.entry.Entry.TheVariants.{Declaration, Statement}
use Rattle.tptp_syntax.specs.declared.entry.StatedRole.{StatedRole}
use Rattle.tptp_syntax.specs.declared.types.TypeExpr.{TypeExpr}
use Rattle.tptp_syntax.specs.declared.formula.RawFormula.{RawFormula}
use Rattle.tf_core.specs.declared.formula.Formula.{Formula}
use Rattle.tf_core.specs.declared.problem.Stated.{Stated}
use Rattle.tf_core.specs.declared.signature.Signature.{Signature}
use Rattle.tf_check.specs.declared.error.TypeError.{TypeError}
use Rattle.tf_check.specs.declared.error.TypeError.TheVariants.{SecondConjecture}
use Rattle.tf_check.specs.Answers.{Answers, map_ok}
use Rattle.tf_check.specs.Entries.{RawStatement, statement_at, stated}
use Rattle.tf_check.specs.Faults.{is_conjecture, role_of, visited_statement, visited_statements}
use Rattle.tf_check.specs.Formulas.{formula_reading, prefix_types}
use Rattle.tf_check.specs.Names.{Occurrence, names_of_formula}
use Rattle.tf_check.specs.Signature.{names_stated}
use Rattle.tf_check.specs.Visited.{Visited, good, expect, ◌>>=◌}
use Rattle.tf_check.proofs.AnswerLemmas.{answers-good, answers-bind, answers-stop, answers-then, answers-then_stop, answers-pass, answers-fail}
use Rattle.tf_check.proofs.FormulaAnswers.{at_drop, answers-made, answers-unmade}

-- ---- names

-- the names in an entry
abbrev pub names_in : (List ℕ → ℕ) → Entry → List Occurrence
names_in parameters (Declaration label name body) = []
names_in parameters (Statement label role formula) = names_of_formula parameters formula

pub names_stated-entries : (parameters : List ℕ → ℕ) (n : ℕ) (entries : List Entry) →
    names_stated parameters (stated (enumerate_from n entries)) ≡ flat_map (names_in parameters)
    entries
names_stated-entries parameters n [] = refl
names_stated-entries parameters n (Declaration label name body ∷ entries) =
    names_stated-entries parameters (n + 1) entries
names_stated-entries parameters n (Statement label role formula ∷ entries) =
    ap (λ names. names_of_formula parameters formula ++ names)
    (names_stated-entries parameters (n + 1) entries)

-- ---- one statement

module _ (g : Signature) (conjectured : Bool) (statement : RawStatement) where
  abbrev first : Visited (Unit {0})
  first =
      expect (not (conjectured && is_conjecture statement.role)) (SecondConjecture statement.entry)

  abbrev body : Visited Formula
  body = formula_reading statement.entry g statement.formula true []

  -- what is stated by the formula
  abbrev pub stated_as : Formula → Stated
  stated_as a =
      record {
        name = statement.label;
        role = role_of statement.role;
        type_variables = prefix_types statement.formula;
        body = a;
      }

  pub statement_second : (conjectured && is_conjecture statement.role) ≡ true →
      Answers (visited_statement g conjectured statement) (Err (SecondConjecture statement.entry))
  statement_second second =
      answers-then_stop first (body >>= λ a. good (stated_as a)) (SecondConjecture statement.entry)
      (answers-fail (not (conjectured && is_conjecture statement.role))
      (SecondConjecture statement.entry) (ap not second))

  behind_first : (conjectured && is_conjecture statement.role) ≡ false →
      (answer : Result Stated TypeError) →
      Answers (body >>= λ a. good (stated_as a)) answer →
      Answers (visited_statement g conjectured statement) answer
  behind_first only answer one =
      answers-then first (body >>= λ a. good (stated_as a)) answer
      (answers-pass (not (conjectured && is_conjecture statement.role))
      (SecondConjecture statement.entry) (ap not only))
      one

  pub statement_stop : (fault : TypeError) → (conjectured && is_conjecture statement.role)
      ≡ false →
      Answers (formula_reading statement.entry g statement.formula true []) (Err fault) →
      Answers (visited_statement g conjectured statement) (Err fault)
  statement_stop fault only one = behind_first only (Err fault)
      (answers-unmade body stated_as fault one)

  pub statement_done : (a : Formula) → (conjectured && is_conjecture statement.role) ≡ false →
      Answers (formula_reading statement.entry g statement.formula true []) (Ok a) →
      Answers (visited_statement g conjectured statement) (Ok (stated_as a))
  statement_done a only one = behind_first only (Ok (stated_as a))
      (answers-made body stated_as a one)

-- ---- several statements

module _ (g : Signature) where
  -- the visits of the statements among entries
  abbrev pub visits_from : Bool → ℕ → List Entry → Visited (List Stated)
  visits_from conjectured i entries = visited_statements g conjectured
      (stated (enumerate_from i entries))

  abbrev behind : List Stated → Result (List Stated) TypeError → Result (List Stated) TypeError
  behind formulas answer = map_ok (λ more. formulas ++ more) answer

  -- What the entries that are left answer, all answer with the formulas so far.
  abbrev pub AreLeft : List Entry → Bool → ℕ → List Stated → Type 0
  AreLeft entries conjectured i formulas =
      (answer : Result (List Stated) TypeError) →
      Answers (visits_from conjectured i (drop i entries)) answer →
      Answers (visits_from false 0 entries) (behind formulas answer)

  pub statements_start : (entries : List Entry) → AreLeft entries false 0 []
  statements_start entries (Ok formulas) one = one
  statements_start entries (Err fault) one = one

  behind_more : (formulas more : List Stated) (answer : Result (List Stated) TypeError) →
      behind formulas (behind more answer) ≡ behind (formulas ++ more) answer
  behind_more formulas more (Ok rest) = ap Ok (sym (append_assoc formulas more rest))
  behind_more formulas more (Err fault) = refl

  -- a statement and those behind it
  visited_next : (conjectured : Bool) (statement : RawStatement) (rest : List RawStatement)
      (formula : Stated)
      (answer : Result (List Stated) TypeError) →
      Answers (visited_statement g conjectured statement) (Ok formula) →
      Answers (visited_statements g (conjectured || is_conjecture statement.role) rest) answer →
      Answers (visited_statements g conjectured (statement ∷ rest)) (behind (formula ∷ []) answer)
  visited_next conjectured statement rest formula (Ok formulas) one others =
      answers-bind (visited_statement g conjectured statement)
      (λ x. visited_statements g (conjectured || is_conjecture statement.role) rest >>= λ xs.
      good (x ∷ xs)) formula (Ok (formula ∷ formulas)) one
      (answers-made (visited_statements g (conjectured || is_conjecture statement.role) rest)
      (λ xs. formula ∷ xs) formulas others)
  visited_next conjectured statement rest formula (Err fault) one others =
      answers-bind (visited_statement g conjectured statement)
      (λ x. visited_statements g (conjectured || is_conjecture statement.role) rest >>= λ xs.
      good (x ∷ xs)) formula (Err fault) one
      (answers-unmade (visited_statements g (conjectured || is_conjecture statement.role) rest)
      (λ xs. formula ∷ xs) fault others)

  visited_here : (conjectured : Bool) (statement : RawStatement) (rest : List RawStatement)
      (fault : TypeError) → Answers (visited_statement g conjectured statement) (Err fault) →
      Answers (visited_statements g conjectured (statement ∷ rest)) (Err fault)
  visited_here conjectured statement rest fault one =
      answers-stop (visited_statement g conjectured statement)
      (λ x. visited_statements g (conjectured || is_conjecture statement.role) rest >>= λ xs.
      good (x ∷ xs)) fault one

  module _ (entries : List Entry) (conjectured : Bool) (i : ℕ) (formulas : List Stated)
      (before : AreLeft entries conjectured i formulas) (e : Entry) (within : i < length entries)
      (is : e ≡ get_or entries i e)
    where
      split : (x : Entry) → e ≡ x → drop i entries ≡ x ∷ drop (i + 1) entries
      split x same = at_drop entries i e within is ∙ ap (λ y. y ∷ drop (i + 1) entries) same

      pub statements_skip : (label name : List ℕ) (body : TypeExpr) →
          e ≡ Declaration label name body →
          AreLeft entries conjectured (i + 1) formulas
      statements_skip label name body same answer one =
          before answer
          (subst (λ left. Answers (visits_from conjectured i left) answer)
          (sym (split (Declaration label name body) same)) one)

      pub statements_next : (label : List ℕ) (role : StatedRole) (raw : RawFormula)
          (formula : Stated) →
          e ≡ Statement label role raw →
          Answers (visited_statement g conjectured (statement_at i label role raw)) (Ok formula) →
          AreLeft entries (conjectured || is_conjecture role) (i + 1) (formulas ++ formula ∷ [])
      statements_next label role raw formula same one answer others =
          subst (Answers (visits_from false 0 entries))
          (behind_more formulas (formula ∷ []) answer)
          (before (behind (formula ∷ []) answer)
          (subst (λ left. Answers (visits_from conjectured i left) (behind (formula ∷ []) answer))
          (sym (split (Statement label role raw) same))
          (visited_next conjectured (statement_at i label role raw)
          (stated (enumerate_from (i + 1) (drop (i + 1) entries))) formula answer one others)))

      pub statements_stop : (label : List ℕ) (role : StatedRole) (raw : RawFormula)
          (fault : TypeError) →
          e ≡ Statement label role raw →
          Answers (visited_statement g conjectured (statement_at i label role raw)) (Err fault) →
          Answers (visits_from false 0 entries) (Err fault)
      statements_stop label role raw fault same one =
          before (Err fault)
          (subst (λ left. Answers (visits_from conjectured i left) (Err fault))
          (sym (split (Statement label role raw) same))
          (visited_here conjectured (statement_at i label role raw)
          (stated (enumerate_from (i + 1) (drop (i + 1) entries))) fault one))

  pub statements_end : (entries : List Entry) (conjectured : Bool) (i : ℕ)
      (formulas : List Stated) →
      length entries ≤ i → AreLeft entries conjectured i formulas →
      Answers (visits_from false 0 entries) (Ok formulas)
  statements_end entries conjectured i formulas past before =
      subst (λ all. Answers (visits_from false 0 entries) (Ok all)) (append-nil formulas)
      (before (Ok [])
      (subst (λ left. Answers (visits_from conjectured i left) (Ok []))
      (sym (drop_of_length-le entries past)) (answers-good [])))

-- ---- the test of a second conjecture

pub neither : (a b : Bool) → b ≡ false → (a && b) ≡ false
neither true b fails = fails
neither false b fails = refl

pub not_first : (a b : Bool) → a ≡ false → (a && b) ≡ false
not_first true b fails = absurd (false≢true (sym fails))
not_first false b fails = refl

pub both_hold : (a b : Bool) → a ≡ true → b ≡ true → (a && b) ≡ true
both_hold true b holds second = second
both_hold false b holds second = absurd (false≢true holds)

pub either_holds : (a b : Bool) → a ≡ true → (a || b) ≡ true
either_holds true b holds = refl
either_holds false b holds = absurd (false≢true holds)

pub neither_first : (a b : Bool) → a ≡ false → (a || b) ≡ b
neither_first true b fails = absurd (false≢true (sym fails))
neither_first false b fails = refl
