-- A formula under new numbers is as sound as it is, where each symbol that occurs stands at its new
-- number as it stands at its old one.
use Rattle.std.specs.Prelude.{ℕ, ◌+◌, ◌≡◌, Bool, true, false, ◌&&◌, ◌||◌, List, [], ◌∷◌, map, length, eqb, leb, sum, slice_get, IsTrue}
use Rattle.std.specs.List.{AllByRecursion, list_all, list_any}
use Rattle.std.proofs.Common.{refl, sym, ap, ◌∙◌}
use Rattle.std.proofs.lemmas.Bool.{or_left, or_right, eq-eqb}
use Rattle.std.proofs.lemmas.List.{length-map}
use Rattle.std.proofs.lemmas.List.Sums.{sum_by-cons}
use Rattle.fof_models.specs.declared.formula.FofTerm.{FofTerm}
use Rattle.fof_models.specs.declared.formula.FofTerm.TheVariants as term
use Rattle.fof_models.specs.declared.formula.Fof.{Fof}
use Rattle.fof_models.specs.declared.formula.Fof.TheVariants as fof
use Rattle.fof_models.specs.declared.problem.FofSymbol.{FofSymbol}
use Rattle.fof_models.specs.Sound.{is_symbol, is_term, are_terms, is_formula, are_formulas, has_pairs, binder_count}
use Rattle.fof_models.proofs.Induction.{term_induction, FormulaCases, formula_induction}
use Rattle.fof_models.proofs.Sound.{is_term-variable, is_term-apply, is_formula-true, is_formula-false, is_formula-atom, is_formula-equal, is_formula-not, is_formula-and, is_formula-or, is_formula-implies, is_formula-for_all, is_formula-exists, has_pairs-true, has_pairs-false, has_pairs-atom, has_pairs-equal, has_pairs-not, has_pairs-and, has_pairs-or, has_pairs-implies, has_pairs-for_all, has_pairs-exists, binder_count-true, binder_count-false, binder_count-atom, binder_count-equal, binder_count-not, binder_count-and, binder_count-or, binder_count-implies, binder_count-for_all, binder_count-exists}
use Rattle.enc_marks.specs.Occurrence.{occurs_in_term, occurs, renumber_term, renumber}
use Rattle.enc_marks.proofs.Occurrence.{occurs_in_term-apply, occurs-atom, occurs-equal, occurs-not, occurs-and, occurs-or, occurs-implies, occurs-for_all, occurs-exists, renumber_term-variable, renumber_term-apply, renumber-true, renumber-false, renumber-atom, renumber-equal, renumber-not, renumber-and, renumber-or, renumber-implies, renumber-for_all, renumber-exists}

module _ (number : ℕ → ℕ) where
  -- ---- lists of parts, and binders

  pairs_same : (parts : List Fof) →
      AllByRecursion (λ p. has_pairs (renumber number p) ≡ has_pairs p) parts →
      (leb 2 (length (map (renumber number) parts))
      && list_all has_pairs (map (renumber number) parts))
      ≡ (leb 2 (length parts) && list_all has_pairs parts)
  pairs_same parts same =
      ap (λ n. leb 2 n && list_all has_pairs (map (renumber number) parts))
      (length-map parts (renumber number))
      ∙ ap (λ b. leb 2 (length parts) && b) (each parts same)
    where
      each : (parts : List Fof) →
          AllByRecursion (λ p. has_pairs (renumber number p) ≡ has_pairs p) parts →
          list_all has_pairs (map (renumber number) parts) ≡ list_all has_pairs parts
      each [] same = refl
      each (p ∷ parts) same =
          ap (λ b. b && list_all has_pairs (map (renumber number) parts)) same.0
          ∙ ap (λ b. has_pairs p && b) (each parts same.1)

  -- a formula has pairs under new numbers where it has them
  pub has_pairs-renumber : (p : Fof) → has_pairs (renumber number p) ≡ has_pairs p
  has_pairs-renumber = formula_induction (λ p. has_pairs (renumber number p) ≡ has_pairs p) (record {
    on_true = ap has_pairs (renumber-true number);
    on_false = ap has_pairs (renumber-false number);
    on_atom = λ p terms.
        ap has_pairs (renumber-atom number p terms)
        ∙ has_pairs-atom (number p) (map (renumber_term number) terms)
        ∙ sym (has_pairs-atom p terms);
    on_equal = λ left right.
        ap has_pairs (renumber-equal number left right)
        ∙ has_pairs-equal (renumber_term number left) (renumber_term number right)
        ∙ sym (has_pairs-equal left right);
    on_not = λ a same.
        ap has_pairs (renumber-not number a) ∙ has_pairs-not (renumber number a) ∙ same
        ∙ sym (has_pairs-not a);
    on_and = λ parts same.
        ap has_pairs (renumber-and number parts) ∙ has_pairs-and (map (renumber number) parts)
        ∙ pairs_same parts same ∙ sym (has_pairs-and parts);
    on_or = λ parts same.
        ap has_pairs (renumber-or number parts) ∙ has_pairs-or (map (renumber number) parts)
        ∙ pairs_same parts same ∙ sym (has_pairs-or parts);
    on_implies = λ a b same_a same_b.
        ap has_pairs (renumber-implies number a b)
        ∙ has_pairs-implies (renumber number a) (renumber number b)
        ∙ ap (λ x. x && has_pairs (renumber number b)) same_a
        ∙ ap (λ x. has_pairs a && x) same_b
        ∙ sym (has_pairs-implies a b);
    on_for_all = λ body same.
        ap has_pairs (renumber-for_all number body) ∙ has_pairs-for_all (renumber number body)
        ∙ same ∙ sym (has_pairs-for_all body);
    on_exists = λ body same.
        ap has_pairs (renumber-exists number body) ∙ has_pairs-exists (renumber number body)
        ∙ same ∙ sym (has_pairs-exists body);
  })

  counts_same : (parts : List Fof) →
      AllByRecursion (λ p. binder_count (renumber number p) ≡ binder_count p) parts →
      sum (map binder_count (map (renumber number) parts)) ≡ sum (map binder_count parts)
  counts_same [] same = refl
  counts_same (p ∷ parts) same =
      sum_by-cons (λ n. n) (binder_count (renumber number p))
      (map binder_count (map (renumber number) parts))
      ∙ ap (λ n. n + sum (map binder_count (map (renumber number) parts))) same.0
      ∙ ap (λ n. binder_count p + n) (counts_same parts same.1)
      ∙ sym (sum_by-cons (λ n. n) (binder_count p) (map binder_count parts))

  -- and as many binders
  pub binder_count-renumber : (p : Fof) → binder_count (renumber number p) ≡ binder_count p
  binder_count-renumber = formula_induction
      (λ p. binder_count (renumber number p) ≡ binder_count p) (record {
        on_true = ap binder_count (renumber-true number);
        on_false = ap binder_count (renumber-false number);
        on_atom = λ p terms.
            ap binder_count (renumber-atom number p terms)
            ∙ binder_count-atom (number p) (map (renumber_term number) terms)
            ∙ sym (binder_count-atom p terms);
        on_equal = λ left right.
            ap binder_count (renumber-equal number left right)
            ∙ binder_count-equal (renumber_term number left) (renumber_term number right)
            ∙ sym (binder_count-equal left right);
        on_not = λ a same.
            ap binder_count (renumber-not number a) ∙ binder_count-not (renumber number a) ∙ same
            ∙ sym (binder_count-not a);
        on_and = λ parts same.
            ap binder_count (renumber-and number parts) ∙ binder_count-and (map (renumber number) parts)
            ∙ counts_same parts same ∙ sym (binder_count-and parts);
        on_or = λ parts same.
            ap binder_count (renumber-or number parts) ∙ binder_count-or (map (renumber number) parts)
            ∙ counts_same parts same ∙ sym (binder_count-or parts);
        on_implies = λ a b same_a same_b.
            ap binder_count (renumber-implies number a b)
            ∙ binder_count-implies (renumber number a) (renumber number b)
            ∙ ap (λ x. x + binder_count (renumber number b)) same_a
            ∙ ap (λ x. binder_count a + x) same_b
            ∙ sym (binder_count-implies a b);
        on_for_all = λ body same.
            ap binder_count (renumber-for_all number body) ∙ binder_count-for_all (renumber number body)
            ∙ ap (λ n. n + 1) same ∙ sym (binder_count-for_all body);
        on_exists = λ body same.
            ap binder_count (renumber-exists number body) ∙ binder_count-exists (renumber number body)
            ∙ ap (λ n. n + 1) same ∙ sym (binder_count-exists body);
      })

  -- ---- symbols

  module _ (before after : List FofSymbol) where
    -- each symbol that passes stands at its new number as it stands at its old one
    abbrev pub Stand : (ℕ → Bool) → Type 0
    Stand test = (m : ℕ) → IsTrue (test m) → slice_get after (number m) ≡ slice_get before m

    abbrev IsSameTerm : FofTerm → Type 0
    IsSameTerm t = Stand (λ m. occurs_in_term m t) → (binders : ℕ) →
        is_term after (renumber_term number t) binders ≡ is_term before t binders

    terms_same : (terms : List FofTerm) → AllByRecursion IsSameTerm terms →
        Stand (λ m. list_any (occurs_in_term m) terms) → (binders : ℕ) →
        are_terms after (map (renumber_term number) terms) binders ≡ are_terms before terms binders
    terms_same [] same stand binders = refl
    terms_same (t ∷ terms) same stand binders =
        ap (λ b. b && are_terms after (map (renumber_term number) terms) binders)
        (same.0 (λ m o. stand m (or_left _ _ o)) binders)
        ∙ ap (λ b. is_term before t binders && b)
        (terms_same terms same.1 (λ m o. stand m (or_right _ _ o)) binders)

    -- a symbol with its arguments
    applied_same : (predicate : Bool) (f : ℕ) (terms : List FofTerm) →
        AllByRecursion IsSameTerm terms →
        Stand (λ m. eqb m f || list_any (occurs_in_term m) terms) → (binders : ℕ) →
        (is_symbol (slice_get after (number f)) predicate (length (map (renumber_term number) terms))
        && are_terms after (map (renumber_term number) terms) binders)
        ≡ (is_symbol (slice_get before f) predicate (length terms) && are_terms before terms binders)
    applied_same predicate f terms same stand binders =
        ap (λ n. is_symbol (slice_get after (number f)) predicate n
        && are_terms after (map (renumber_term number) terms) binders)
        (length-map terms (renumber_term number))
        ∙ ap (λ o. is_symbol o predicate (length terms)
        && are_terms after (map (renumber_term number) terms) binders)
        (stand f (or_left (eqb f f) _ (eq-eqb f f refl)))
        ∙ ap (λ b. is_symbol (slice_get before f) predicate (length terms) && b)
        (terms_same terms same (λ m o. stand m (or_right (eqb m f) _ o)) binders)

    term_same : (t : FofTerm) → IsSameTerm t
    term_same = term_induction IsSameTerm
        (λ i stand binders.
        ap (λ t. is_term after t binders) (renumber_term-variable number i)
        ∙ is_term-variable after i binders ∙ sym (is_term-variable before i binders))
        (λ f terms same stand binders.
        ap (λ t. is_term after t binders) (renumber_term-apply number f terms)
        ∙ is_term-apply after (number f) (map (renumber_term number) terms) binders
        ∙ applied_same false f terms same
        (λ m o. stand m (occurs_in_term-apply m f terms ∙ o)) binders
        ∙ sym (is_term-apply before f terms binders))

    all_same : (terms : List FofTerm) → AllByRecursion IsSameTerm terms
    all_same [] = tt
    all_same (t ∷ terms) = (term_same t, all_same terms)

    abbrev IsSame : Fof → Type 0
    IsSame p = Stand (λ m. occurs m p) → (binders : ℕ) →
        is_formula after (renumber number p) binders ≡ is_formula before p binders

    parts_same : (parts : List Fof) → AllByRecursion IsSame parts →
        Stand (λ m. list_any (occurs m) parts) → (binders : ℕ) →
        are_formulas after (map (renumber number) parts) binders
        ≡ are_formulas before parts binders
    parts_same [] same stand binders = refl
    parts_same (p ∷ parts) same stand binders =
        ap (λ b. b && are_formulas after (map (renumber number) parts) binders)
        (same.0 (λ m o. stand m (or_left _ _ o)) binders)
        ∙ ap (λ b. is_formula before p binders && b)
        (parts_same parts same.1 (λ m o. stand m (or_right _ _ o)) binders)

    -- a formula under new numbers is one where it is one under the old
    pub is_formula-renumber : (p : Fof) → IsSame p
    is_formula-renumber = formula_induction IsSame (record {
      on_true = λ stand binders.
          ap (λ p. is_formula after p binders) (renumber-true number)
          ∙ is_formula-true after binders ∙ sym (is_formula-true before binders);
      on_false = λ stand binders.
          ap (λ p. is_formula after p binders) (renumber-false number)
          ∙ is_formula-false after binders ∙ sym (is_formula-false before binders);
      on_atom = λ f terms stand binders.
          ap (λ p. is_formula after p binders) (renumber-atom number f terms)
          ∙ is_formula-atom after (number f) (map (renumber_term number) terms) binders
          ∙ applied_same true f terms (all_same terms)
          (λ m o. stand m (occurs-atom m f terms ∙ o)) binders
          ∙ sym (is_formula-atom before f terms binders);
      on_equal = λ left right stand binders.
          ap (λ p. is_formula after p binders) (renumber-equal number left right)
          ∙ is_formula-equal after (renumber_term number left) (renumber_term number right) binders
          ∙ ap (λ b. b && is_term after (renumber_term number right) binders)
          (term_same left (λ m o. stand m (occurs-equal m left right ∙ or_left _ _ o)) binders)
          ∙ ap (λ b. is_term before left binders && b)
          (term_same right (λ m o. stand m (occurs-equal m left right ∙ or_right _ _ o)) binders)
          ∙ sym (is_formula-equal before left right binders);
      on_not = λ a same stand binders.
          ap (λ p. is_formula after p binders) (renumber-not number a)
          ∙ is_formula-not after (renumber number a) binders
          ∙ same (λ m o. stand m (occurs-not m a ∙ o)) binders
          ∙ sym (is_formula-not before a binders);
      on_and = λ parts same stand binders.
          ap (λ p. is_formula after p binders) (renumber-and number parts)
          ∙ is_formula-and after (map (renumber number) parts) binders
          ∙ parts_same parts same (λ m o. stand m (occurs-and m parts ∙ o)) binders
          ∙ sym (is_formula-and before parts binders);
      on_or = λ parts same stand binders.
          ap (λ p. is_formula after p binders) (renumber-or number parts)
          ∙ is_formula-or after (map (renumber number) parts) binders
          ∙ parts_same parts same (λ m o. stand m (occurs-or m parts ∙ o)) binders
          ∙ sym (is_formula-or before parts binders);
      on_implies = λ a b same_a same_b stand binders.
          ap (λ p. is_formula after p binders) (renumber-implies number a b)
          ∙ is_formula-implies after (renumber number a) (renumber number b) binders
          ∙ ap (λ x. x && is_formula after (renumber number b) binders)
          (same_a (λ m o. stand m (occurs-implies m a b ∙ or_left _ _ o)) binders)
          ∙ ap (λ x. is_formula before a binders && x)
          (same_b (λ m o. stand m (occurs-implies m a b ∙ or_right _ _ o)) binders)
          ∙ sym (is_formula-implies before a b binders);
      on_for_all = λ body same stand binders.
          ap (λ p. is_formula after p binders) (renumber-for_all number body)
          ∙ is_formula-for_all after (renumber number body) binders
          ∙ same (λ m o. stand m (occurs-for_all m body ∙ o)) (binders + 1)
          ∙ sym (is_formula-for_all before body binders);
      on_exists = λ body same stand binders.
          ap (λ p. is_formula after p binders) (renumber-exists number body)
          ∙ is_formula-exists after (renumber number body) binders
          ∙ same (λ m o. stand m (occurs-exists m body ∙ o)) (binders + 1)
          ∙ sym (is_formula-exists before body binders);
    })
