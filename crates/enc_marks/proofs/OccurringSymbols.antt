-- The symbols that occur in a well formed formula are symbols of its signature; so those that occur
-- in a translation are marked ones.
use Rattle.std.specs.Prelude.{ℕ, ◌+◌, ◌<◌, ◌≡◌, Bool, true, false, ◌&&◌, ◌||◌, List, [], ◌∷◌, map, length, eqb, slice_get, Option, Some, None, IsTrue}
use Rattle.std.specs.List.{AllByRecursion, list_any}
use Rattle.std.proofs.Common.{refl, sym, ◌∙◌, arith, ⊎_elim}
use Rattle.std.proofs.lemmas.Bool.{and_parts, or_cases, eqb-true, false≢true}
use Rattle.std.proofs.lemmas.List.{length-map}
use Rattle.std.proofs.lemmas.Option.{slice_get_within}
use Rattle.fof_models.specs.declared.formula.FofTerm.{FofTerm}
use Rattle.fof_models.specs.declared.formula.Fof.{Fof}
use Rattle.fof_models.specs.declared.problem.FofSymbol.{FofSymbol}
use Rattle.fof_models.specs.declared.problem.FofFormula.{FofFormula}
use Rattle.fof_models.specs.Sound.{is_symbol, is_term, are_terms, is_formula, are_formulas}
use Rattle.fof_models.proofs.Induction.{term_induction, formula_induction}
use Rattle.fof_models.proofs.Sound.{is_term-apply, is_formula-atom, is_formula-equal, is_formula-not, is_formula-and, is_formula-or, is_formula-implies, is_formula-for_all, is_formula-exists}
use Rattle.enc_marks.specs.Occurrence.{occurs_in_term, occurs}
use Rattle.enc_marks.specs.Encoded.{MarkedSymbol, all_marks, is_present, translation}
use Rattle.enc_marks.specs.Laws.{OnlyMarkedSymbolsOccur}
use Rattle.enc_marks.proofs.Occurrence.{occurs_in_term-variable, occurs_in_term-apply, occurs-true, occurs-false, occurs-atom, occurs-equal, occurs-not, occurs-and, occurs-or, occurs-implies, occurs-for_all, occurs-exists}
use Rattle.enc_marks.proofs.SoundAxioms.{translation-formed}

module _ (symbols : List FofSymbol) (m : ℕ) where
  -- a symbol that passes is one
  symbol_within : (f : ℕ) (predicate : Bool) (count : ℕ) →
      is_symbol (slice_get symbols f) predicate count ≡ true → f < length symbols
  symbol_within f predicate count = by (slice_get symbols f) refl
    where
      by : (o : Option FofSymbol) → slice_get symbols f ≡ o → is_symbol o predicate count ≡ true →
          f < length symbols
      by None is passes = absurd (false≢true passes)
      by (Some symbol) is passes = slice_get_within symbols f symbol is

  abbrev TermWithin : FofTerm → Type 0
  TermWithin t = (depth : ℕ) → is_term symbols t depth ≡ true → IsTrue (occurs_in_term m t) →
      m < length symbols

  terms_within : (terms : List FofTerm) → AllByRecursion TermWithin terms → (depth : ℕ) →
      are_terms symbols terms depth ≡ true → IsTrue (list_any (occurs_in_term m) terms) →
      m < length symbols
  terms_within [] each depth formed some = absurd (false≢true some)
  terms_within (t ∷ terms) each depth formed some =
      let parts = and_parts (is_term symbols t depth) (are_terms symbols terms depth) formed in
      ⊎_elim (each.0 depth parts.0) (terms_within terms each.1 depth parts.1)
      (or_cases (occurs_in_term m t) (list_any (occurs_in_term m) terms) some)

  -- a symbol with its arguments
  applied_within : (f : ℕ) (predicate : Bool) (terms : List FofTerm) →
      AllByRecursion TermWithin terms → (depth : ℕ) →
      (is_symbol (slice_get symbols f) predicate (length terms) && are_terms symbols terms depth)
      ≡ true → IsTrue (eqb m f || list_any (occurs_in_term m) terms) → m < length symbols
  applied_within f predicate terms each depth formed some =
      let parts = and_parts (is_symbol (slice_get symbols f) predicate (length terms))
      (are_terms symbols terms depth) formed in
      ⊎_elim
      (λ here. omega (
        arith,
        eqb-true m f here,
        symbol_within f predicate (length terms) parts.0,
      ))
      (terms_within terms each depth parts.1)
      (or_cases (eqb m f) (list_any (occurs_in_term m) terms) some)

  term_within : (t : FofTerm) → TermWithin t
  term_within = term_induction TermWithin
      (λ i depth formed some. absurd (false≢true (sym (occurs_in_term-variable m i) ∙ some)))
      (λ f terms each depth formed some.
      applied_within f false terms each depth (sym (is_term-apply symbols f terms depth) ∙ formed)
      (sym (occurs_in_term-apply m f terms) ∙ some))

  all_within : (terms : List FofTerm) → AllByRecursion TermWithin terms
  all_within [] = tt
  all_within (t ∷ terms) = (term_within t, all_within terms)

  abbrev Within : Fof → Type 0
  Within p = (depth : ℕ) → is_formula symbols p depth ≡ true → IsTrue (occurs m p) →
      m < length symbols

  parts_within : (parts : List Fof) → AllByRecursion Within parts → (depth : ℕ) →
      are_formulas symbols parts depth ≡ true → IsTrue (list_any (occurs m) parts) →
      m < length symbols
  parts_within [] each depth formed some = absurd (false≢true some)
  parts_within (p ∷ parts) each depth formed some =
      let both = and_parts (is_formula symbols p depth) (are_formulas symbols parts depth) formed in
      ⊎_elim (each.0 depth both.0) (parts_within parts each.1 depth both.1)
      (or_cases (occurs m p) (list_any (occurs m) parts) some)

  pub occurs_within : (p : Fof) → Within p
  occurs_within = formula_induction Within (record {
    on_true = λ depth formed some. absurd (false≢true (sym (occurs-true m) ∙ some));
    on_false = λ depth formed some. absurd (false≢true (sym (occurs-false m) ∙ some));
    on_atom = λ f terms depth formed some.
        applied_within f true terms (all_within terms) depth
        (sym (is_formula-atom symbols f terms depth) ∙ formed)
        (sym (occurs-atom m f terms) ∙ some);
    on_equal = λ left right depth formed some.
        let parts = and_parts (is_term symbols left depth) (is_term symbols right depth)
        (sym (is_formula-equal symbols left right depth) ∙ formed) in
        ⊎_elim (term_within left depth parts.0) (term_within right depth parts.1)
        (or_cases (occurs_in_term m left) (occurs_in_term m right)
        (sym (occurs-equal m left right) ∙ some));
    on_not = λ a inside depth formed some.
        inside depth (sym (is_formula-not symbols a depth) ∙ formed) (sym (occurs-not m a) ∙ some);
    on_and = λ parts each depth formed some.
        parts_within parts each depth (sym (is_formula-and symbols parts depth) ∙ formed)
        (sym (occurs-and m parts) ∙ some);
    on_or = λ parts each depth formed some.
        parts_within parts each depth (sym (is_formula-or symbols parts depth) ∙ formed)
        (sym (occurs-or m parts) ∙ some);
    on_implies = λ a b first second depth formed some.
        let parts = and_parts (is_formula symbols a depth) (is_formula symbols b depth)
        (sym (is_formula-implies symbols a b depth) ∙ formed) in
        ⊎_elim (first depth parts.0) (second depth parts.1)
        (or_cases (occurs m a) (occurs m b) (sym (occurs-implies m a b) ∙ some));
    on_for_all = λ body inside depth formed some.
        inside (depth + 1) (sym (is_formula-for_all symbols body depth) ∙ formed)
        (sym (occurs-for_all m body) ∙ some);
    on_exists = λ body inside depth formed some.
        inside (depth + 1) (sym (is_formula-exists symbols body depth) ∙ formed)
        (sym (occurs-exists m body) ∙ some);
  })

  -- what occurs in formulas without free variables
  pub present_within : (formulas : List FofFormula) →
      AllByRecursion (λ (formula : FofFormula). is_formula symbols formula.body 0 ≡ true) formulas →
      IsTrue (is_present formulas m) → m < length symbols
  present_within [] formed some = absurd (false≢true some)
  present_within (formula ∷ formulas) formed some =
      ⊎_elim (occurs_within formula.body 0 formed.0) (present_within formulas formed.1)
      (or_cases (occurs m formula.body) (is_present formulas m) some)

pub only_marked : OnlyMarkedSymbolsOccur
only_marked c normal fit typed m some =
    let symbol_of = λ (one : MarkedSymbol). one.symbol in
    omega (
      arith,
      length-map (all_marks c normal) symbol_of,
      present_within (map symbol_of (all_marks c normal)) m (translation c normal)
          (translation-formed c normal fit typed.signature typed.formulas) some,
    )
