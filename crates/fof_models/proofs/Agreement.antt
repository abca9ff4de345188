-- Structures that agree wherever a signature looks make the same formulas true.
use Rattle.std.specs.Prelude.{ℕ, zero, suc, ◌+◌, ◌<◌, ◌≡◌, Bool, true, false, not, ◌&&◌, ◌||◌, List, [], ◌∷◌, map, length, cond, eqb, replicate, slice_index, slice_get, Option, Some, None, IsTrue}
use Rattle.std.specs.List.{AllByRecursion, list_all, list_any}
use Rattle.std.proofs.Common.{refl, sym, ap, ◌∙◌, subst, arith}
use Rattle.std.proofs.lemmas.Bool.{and_parts, eqb-true, ltb-true, false≢true, not-true}
use Rattle.enc_base.specs.Tables.{EachBelow}
use Rattle.enc_base.specs.Quantifiers.{all_below, some_below}
use Rattle.enc_base.proofs.Quantifiers.{all_below-same, some_below-same}
use Rattle.fof_models.specs.declared.formula.FofTerm.{FofTerm}
use Rattle.fof_models.specs.declared.formula.Fof.{Fof}
use Rattle.fof_models.specs.declared.problem.FofSymbol.{FofSymbol}
use Rattle.fof_models.specs.Structures.{Untyped, AreElements, IsStructure}
use Rattle.fof_models.specs.Truth.{value, truth}
use Rattle.fof_models.specs.Sound.{is_of_kind, is_symbol, is_term, are_terms, is_formula}
use Rattle.fof_models.proofs.Truth.{value-variable, value-apply, truth-true, truth-false, truth-atom, truth-equal, truth-not, truth-and, truth-or, truth-implies, truth-for_all, truth-exists}
use Rattle.fof_models.proofs.Sound.{is_term-variable, is_term-apply, is_formula-atom, is_formula-equal, is_formula-not, is_formula-and, is_formula-or, is_formula-implies, is_formula-for_all, is_formula-exists}
use Rattle.fof_models.proofs.Induction.{term_induction, FormulaCases, formula_induction}

-- one element more
pub AreElements-more : (size element : ℕ) (elements : List ℕ) → element < size →
    AreElements size elements → AreElements size (element ∷ elements)
AreElements-more size element elements below each = record { below = go }
  where
    go : (i : ℕ) → i < length (element ∷ elements) → slice_index (element ∷ elements) i < size
    go zero within = below
    go (suc i) within = each.below i (omega arith)

-- what the test of a symbol says
pub is_symbol-says : (found : Option FofSymbol) (predicate : Bool) (arity : ℕ) →
    IsTrue (is_symbol found predicate arity) →
    (symbol : FofSymbol) × (found ≡ Some symbol) × (symbol.predicate ≡ predicate) × (symbol.arity ≡ arity)
is_symbol-says None predicate arity holds = absurd (false≢true holds)
is_symbol-says (Some symbol) predicate arity holds =
    let parts = and_parts (is_of_kind symbol predicate) (eqb symbol.arity arity) holds in
    (symbol, refl, kind predicate parts.0, eqb-true symbol.arity arity parts.1)
  where
    kind : (predicate : Bool) → IsTrue (is_of_kind symbol predicate) → symbol.predicate ≡ predicate
    kind true is = is
    kind false is = not-true symbol.predicate is

module _ (signature : List FofSymbol) (s other : Untyped) (fits : IsStructure signature s)
    (size : other.size ≡ s.size)
    (same : (f : ℕ) (symbol : FofSymbol) (elements : List ℕ) → slice_get signature f ≡ Some symbol →
    EachBelow (replicate symbol.arity s.size) elements →
    other.symbol_at f elements ≡ s.symbol_at f elements)
  where
    -- a term's value is an element, and the same in both
    abbrev TermAgrees : List ℕ → FofTerm → Type 0
    TermAgrees elements t =
        IsTrue (is_term signature t (length elements)) →
        (value s elements t < s.size) × (value other elements t ≡ value s elements t)

    terms_agree : (elements : List ℕ) (terms : List FofTerm) →
        AllByRecursion (TermAgrees elements) terms →
        IsTrue (are_terms signature terms (length elements)) →
        EachBelow (replicate (length terms) s.size) (map (value s elements) terms)
        × (map (value other elements) terms ≡ map (value s elements) terms)
    terms_agree elements [] agree sound = (tt, refl)
    terms_agree elements (t ∷ terms) agree sound =
        let parts = and_parts (is_term signature t (length elements)) (are_terms signature terms (length elements)) sound in
        let first = agree.0 parts.0 in
        let rest = terms_agree elements terms agree.1 parts.1 in (
          (first.0, rest.0),
          ap (λ v. v ∷ map (value other elements) terms) first.1
              ∙ ap (λ vs. value s elements t ∷ vs) rest.1,
        )

    term_agrees : (elements : List ℕ) → AreElements s.size elements → (t : FofTerm) → TermAgrees elements t
    term_agrees elements are = term_induction (TermAgrees elements)
        (λ i sound.
        let within : i < length elements = ltb-true i (length elements) (sym (is_term-variable signature i (length elements)) ∙ sound) in (
          subst (λ v. v < s.size) (sym (value-variable s elements i)) (are.below i within),
          value-variable other elements i ∙ sym (value-variable s elements i),
        ))
        (λ f terms agree sound.
        let parts = and_parts (is_symbol (slice_get signature f) false (length terms)) (are_terms signature terms (length elements))
        (sym (is_term-apply signature f terms (length elements)) ∙ sound) in
        let symbol = is_symbol-says (slice_get signature f) false (length terms) parts.0 in
        let inner = terms_agree elements terms agree parts.1 in
        let below = subst (λ n. EachBelow (replicate n s.size) (map (value s elements) terms)) (sym symbol.3) inner.0 in (
          subst (λ v. v < s.size) (sym (value-apply s elements f terms))
              (subst (λ b. s.symbol_at f (map (value s elements) terms) < cond b 2 s.size) symbol.2
              (fits.values f symbol.0 (map (value s elements) terms) symbol.1 below)),
          value-apply other elements f terms
              ∙ ap (other.symbol_at f) inner.1
              ∙ same f symbol.0 (map (value s elements) terms) symbol.1 below
              ∙ sym (value-apply s elements f terms),
        ))

    -- a formula is as true in the one as in the other
    abbrev FormulaAgrees : Fof → Type 0
    FormulaAgrees p =
        (elements : List ℕ) → AreElements s.size elements →
        IsTrue (is_formula signature p (length elements)) → truth other p elements ≡ truth s p elements

    all_agree : (parts : List Fof) → AllByRecursion FormulaAgrees parts →
        (elements : List ℕ) → AreElements s.size elements →
        IsTrue (list_all (λ part. is_formula signature part (length elements)) parts) →
        list_all (λ part. truth other part elements) parts ≡ list_all (λ part. truth s part elements) parts
    all_agree [] agree elements are sound = refl
    all_agree (part ∷ parts) agree elements are sound =
        let both = and_parts (is_formula signature part (length elements)) (list_all (λ x. is_formula signature x (length elements)) parts) sound in
        ap (λ b. b && list_all (λ x. truth other x elements) parts) (agree.0 elements are both.0)
        ∙ ap (λ b. truth s part elements && b) (all_agree parts agree.1 elements are both.1)

    some_agree : (parts : List Fof) → AllByRecursion FormulaAgrees parts →
        (elements : List ℕ) → AreElements s.size elements →
        IsTrue (list_all (λ part. is_formula signature part (length elements)) parts) →
        list_any (λ part. truth other part elements) parts ≡ list_any (λ part. truth s part elements) parts
    some_agree [] agree elements are sound = refl
    some_agree (part ∷ parts) agree elements are sound =
        let both = and_parts (is_formula signature part (length elements)) (list_all (λ x. is_formula signature x (length elements)) parts) sound in
        ap (λ b. b || list_any (λ x. truth other x elements) parts) (agree.0 elements are both.0)
        ∙ ap (λ b. truth s part elements || b) (some_agree parts agree.1 elements are both.1)

    -- the body of a binder, at one element more
    body_agrees : (body : Fof) → FormulaAgrees body → (elements : List ℕ) → AreElements s.size elements →
        IsTrue (is_formula signature body (length elements + 1)) →
        (element : ℕ) → element < s.size →
        truth other body (element ∷ elements) ≡ truth s body (element ∷ elements)
    body_agrees body agree elements are sound element below =
        let more : length elements + 1 ≡ length (element ∷ elements) = omega arith in
        agree (element ∷ elements) (AreElements-more s.size element elements below are)
        (subst (λ n. IsTrue (is_formula signature body n)) more sound)

    formula_cases : FormulaCases FormulaAgrees
    formula_cases = record {
      on_true = λ elements are sound. truth-true other elements ∙ sym (truth-true s elements);
      on_false = λ elements are sound. truth-false other elements ∙ sym (truth-false s elements);
      on_atom = λ p terms elements are sound.
          let parts = and_parts (is_symbol (slice_get signature p) true (length terms)) (are_terms signature terms (length elements))
          (sym (is_formula-atom signature p terms (length elements)) ∙ sound) in
          let symbol = is_symbol-says (slice_get signature p) true (length terms) parts.0 in
          let inner = terms_agree elements terms (each_agrees elements are terms) parts.1 in
          let below = subst (λ n. EachBelow (replicate n s.size) (map (value s elements) terms)) (sym symbol.3) inner.0 in
          truth-atom other p terms elements
          ∙ ap (λ v. eqb v 1) (ap (other.symbol_at p) inner.1 ∙ same p symbol.0 (map (value s elements) terms) symbol.1 below)
          ∙ sym (truth-atom s p terms elements);
      on_equal = λ left right elements are sound.
          let parts = and_parts (is_term signature left (length elements)) (is_term signature right (length elements))
          (sym (is_formula-equal signature left right (length elements)) ∙ sound) in
          truth-equal other left right elements
          ∙ ap (λ v. eqb v (value other elements right)) (term_agrees elements are left parts.0).1
          ∙ ap (λ v. eqb (value s elements left) v) (term_agrees elements are right parts.1).1
          ∙ sym (truth-equal s left right elements);
      on_not = λ a agree elements are sound.
          truth-not other a elements
          ∙ ap not (agree elements are (sym (is_formula-not signature a (length elements)) ∙ sound))
          ∙ sym (truth-not s a elements);
      on_and = λ parts agree elements are sound.
          truth-and other parts elements
          ∙ all_agree parts agree elements are (sym (is_formula-and signature parts (length elements)) ∙ sound)
          ∙ sym (truth-and s parts elements);
      on_or = λ parts agree elements are sound.
          truth-or other parts elements
          ∙ some_agree parts agree elements are (sym (is_formula-or signature parts (length elements)) ∙ sound)
          ∙ sym (truth-or s parts elements);
      on_implies = λ a b agree_a agree_b elements are sound.
          let parts = and_parts (is_formula signature a (length elements)) (is_formula signature b (length elements))
          (sym (is_formula-implies signature a b (length elements)) ∙ sound) in
          truth-implies other a b elements
          ∙ ap (λ x. not x || truth other b elements) (agree_a elements are parts.0)
          ∙ ap (λ x. not (truth s a elements) || x) (agree_b elements are parts.1)
          ∙ sym (truth-implies s a b elements);
      on_for_all = λ body agree elements are sound.
          truth-for_all other body elements
          ∙ ap (λ n. all_below n (λ element. truth other body (element ∷ elements))) size
          ∙ all_below-same s.size (λ element. truth other body (element ∷ elements)) (λ element. truth s body (element ∷ elements))
          (body_agrees body agree elements are (sym (is_formula-for_all signature body (length elements)) ∙ sound))
          ∙ sym (truth-for_all s body elements);
      on_exists = λ body agree elements are sound.
          truth-exists other body elements
          ∙ ap (λ n. some_below n (λ element. truth other body (element ∷ elements))) size
          ∙ some_below-same s.size (λ element. truth other body (element ∷ elements)) (λ element. truth s body (element ∷ elements))
          (body_agrees body agree elements are (sym (is_formula-exists signature body (length elements)) ∙ sound))
          ∙ sym (truth-exists s body elements);
    }
      where
        each_agrees : (elements : List ℕ) → AreElements s.size elements → (terms : List FofTerm) →
            AllByRecursion (TermAgrees elements) terms
        each_agrees elements are [] = tt
        each_agrees elements are (t ∷ terms) =
            (term_agrees elements are t, each_agrees elements are terms)

    pub truth-agrees : (p : Fof) (elements : List ℕ) → AreElements s.size elements →
        IsTrue (is_formula signature p (length elements)) → truth other p elements ≡ truth s p elements
    truth-agrees = formula_induction FormulaAgrees formula_cases
