-- Truth speaks of the marked symbols that occur, and of no number.
use Rattle.std.specs.Prelude.{ℕ, ◌≡◌, Bool, not, ◌&&◌, ◌||◌, List, [], ◌∷◌, map, eqb, IsTrue}
use Rattle.std.specs.List.{AllByRecursion, list_all, list_any}
use Rattle.std.proofs.Common.{refl, sym, ap, ◌∙◌}
use Rattle.std.proofs.lemmas.Bool.{or_left, or_right, eq-eqb}
use Rattle.enc_base.specs.Quantifiers.{all_below, some_below}
use Rattle.enc_base.proofs.Quantifiers.{all_below-same, some_below-same}
use Rattle.fof_models.specs.declared.formula.FofTerm.{FofTerm}
use Rattle.fof_models.specs.declared.formula.Fof.{Fof}
use Rattle.fof_models.specs.declared.problem.FofFormula.{FofFormula}
use Rattle.fof_models.specs.Structures.{Untyped}
use Rattle.fof_models.specs.Truth.{value, truth}
use Rattle.fof_models.specs.Models.{AreSatisfied}
use Rattle.fof_models.proofs.Induction.{term_induction, formula_induction}
use Rattle.fof_models.proofs.Truth.{value-variable, value-apply, truth-true, truth-false, truth-atom, truth-equal, truth-not, truth-and, truth-or, truth-implies, truth-for_all, truth-exists}
use Rattle.enc_marks.specs.Occurrence.{occurs_in_term, occurs, renumber_term, renumber, count_below}
use Rattle.enc_marks.specs.Encoded.{is_present, renumbered}
use Rattle.enc_marks.proofs.Occurrence.{occurs_in_term-apply, occurs-atom, occurs-equal, occurs-not, occurs-and, occurs-or, occurs-implies, occurs-for_all, occurs-exists, renumber_term-variable, renumber_term-apply, renumber-true, renumber-false, renumber-atom, renumber-equal, renumber-not, renumber-and, renumber-or, renumber-implies, renumber-for_all, renumber-exists}

module _ (number : ℕ → ℕ) (i j : Untyped) (size : i.size ≡ j.size) where
  -- the structures agree on the symbols that pass, each in its numbers
  abbrev pub Agree : (ℕ → Bool) → Type 0
  Agree test = (m : ℕ) → IsTrue (test m) → (values : List ℕ) →
      i.symbol_at (number m) values ≡ j.symbol_at m values

  abbrev IsSameTerm : FofTerm → Type 0
  IsSameTerm t = Agree (λ m. occurs_in_term m t) → (elements : List ℕ) →
      value i elements (renumber_term number t) ≡ value j elements t

  values_same : (terms : List FofTerm) → AllByRecursion IsSameTerm terms →
      Agree (λ m. list_any (occurs_in_term m) terms) → (elements : List ℕ) →
      map (value i elements) (map (renumber_term number) terms) ≡ map (value j elements) terms
  values_same [] same agree elements = refl
  values_same (t ∷ terms) same agree elements =
      ap (λ x. x ∷ map (value i elements) (map (renumber_term number) terms))
      (same.0 (λ m o. agree m (or_left _ _ o)) elements)
      ∙ ap (λ xs. value j elements t ∷ xs)
      (values_same terms same.1 (λ m o. agree m (or_right _ _ o)) elements)

  term_same : (t : FofTerm) → IsSameTerm t
  term_same = term_induction IsSameTerm
      (λ n agree elements.
      ap (value i elements) (renumber_term-variable number n) ∙ value-variable i elements n
      ∙ sym (value-variable j elements n))
      (λ f terms same agree elements.
      ap (value i elements) (renumber_term-apply number f terms)
      ∙ value-apply i elements (number f) (map (renumber_term number) terms)
      ∙ ap (i.symbol_at (number f))
      (values_same terms same
      (λ m o. agree m (occurs_in_term-apply m f terms ∙ or_right (eqb m f) _ o))
      elements)
      ∙ agree f (occurs_in_term-apply f f terms ∙ or_left (eqb f f) _ (eq-eqb f f refl))
      (map (value j elements) terms)
      ∙ sym (value-apply j elements f terms))

  all_same : (terms : List FofTerm) → AllByRecursion IsSameTerm terms
  all_same [] = tt
  all_same (t ∷ terms) = (term_same t, all_same terms)

  abbrev IsSame : Fof → Type 0
  IsSame p = Agree (λ m. occurs m p) → (elements : List ℕ) →
      truth i (renumber number p) elements ≡ truth j p elements

  all_are : (parts : List Fof) → AllByRecursion IsSame parts →
      Agree (λ m. list_any (occurs m) parts) → (elements : List ℕ) →
      list_all (λ part. truth i part elements) (map (renumber number) parts)
      ≡ list_all (λ part. truth j part elements) parts
  all_are [] same agree elements = refl
  all_are (p ∷ parts) same agree elements =
      ap (λ b. b && list_all (λ part. truth i part elements) (map (renumber number) parts))
      (same.0 (λ m o. agree m (or_left _ _ o)) elements)
      ∙ ap (λ b. truth j p elements && b)
      (all_are parts same.1 (λ m o. agree m (or_right _ _ o)) elements)

  any_are : (parts : List Fof) → AllByRecursion IsSame parts →
      Agree (λ m. list_any (occurs m) parts) → (elements : List ℕ) →
      list_any (λ part. truth i part elements) (map (renumber number) parts)
      ≡ list_any (λ part. truth j part elements) parts
  any_are [] same agree elements = refl
  any_are (p ∷ parts) same agree elements =
      ap (λ b. b || list_any (λ part. truth i part elements) (map (renumber number) parts))
      (same.0 (λ m o. agree m (or_left _ _ o)) elements)
      ∙ ap (λ b. truth j p elements || b)
      (any_are parts same.1 (λ m o. agree m (or_right _ _ o)) elements)

  -- a formula is as true as it is under other numbers
  pub truth-renumber : (p : Fof) → IsSame p
  truth-renumber = formula_induction IsSame (record {
    on_true = λ agree elements.
        ap (λ p. truth i p elements) (renumber-true number) ∙ truth-true i elements
        ∙ sym (truth-true j elements);
    on_false = λ agree elements.
        ap (λ p. truth i p elements) (renumber-false number) ∙ truth-false i elements
        ∙ sym (truth-false j elements);
    on_atom = λ f terms agree elements.
        ap (λ p. truth i p elements) (renumber-atom number f terms)
        ∙ truth-atom i (number f) (map (renumber_term number) terms) elements
        ∙ ap (λ x. eqb (i.symbol_at (number f) x) 1)
        (values_same terms (all_same terms)
        (λ m o. agree m (occurs-atom m f terms ∙ or_right (eqb m f) _ o)) elements)
        ∙ ap (λ x. eqb x 1)
        (agree f (occurs-atom f f terms ∙ or_left (eqb f f) _ (eq-eqb f f refl))
        (map (value j elements) terms))
        ∙ sym (truth-atom j f terms elements);
    on_equal = λ left right agree elements.
        ap (λ p. truth i p elements) (renumber-equal number left right)
        ∙ truth-equal i (renumber_term number left) (renumber_term number right) elements
        ∙ ap (λ z. eqb z (value i elements (renumber_term number right)))
        (term_same left (λ m o. agree m (occurs-equal m left right ∙ or_left _ _ o)) elements)
        ∙ ap (λ z. eqb (value j elements left) z)
        (term_same right (λ m o. agree m (occurs-equal m left right ∙ or_right _ _ o)) elements)
        ∙ sym (truth-equal j left right elements);
    on_not = λ a same agree elements.
        ap (λ p. truth i p elements) (renumber-not number a)
        ∙ truth-not i (renumber number a) elements
        ∙ ap not (same (λ m o. agree m (occurs-not m a ∙ o)) elements)
        ∙ sym (truth-not j a elements);
    on_and = λ parts same agree elements.
        ap (λ p. truth i p elements) (renumber-and number parts)
        ∙ truth-and i (map (renumber number) parts) elements
        ∙ all_are parts same (λ m o. agree m (occurs-and m parts ∙ o)) elements
        ∙ sym (truth-and j parts elements);
    on_or = λ parts same agree elements.
        ap (λ p. truth i p elements) (renumber-or number parts)
        ∙ truth-or i (map (renumber number) parts) elements
        ∙ any_are parts same (λ m o. agree m (occurs-or m parts ∙ o)) elements
        ∙ sym (truth-or j parts elements);
    on_implies = λ a b same_a same_b agree elements.
        ap (λ p. truth i p elements) (renumber-implies number a b)
        ∙ truth-implies i (renumber number a) (renumber number b) elements
        ∙ ap (λ x. not x || truth i (renumber number b) elements)
        (same_a (λ m o. agree m (occurs-implies m a b ∙ or_left _ _ o)) elements)
        ∙ ap (λ x. not (truth j a elements) || x)
        (same_b (λ m o. agree m (occurs-implies m a b ∙ or_right _ _ o)) elements)
        ∙ sym (truth-implies j a b elements);
    on_for_all = λ body same agree elements.
        ap (λ p. truth i p elements) (renumber-for_all number body)
        ∙ truth-for_all i (renumber number body) elements
        ∙ ap (λ n. all_below n (λ e. truth i (renumber number body) (e ∷ elements))) size
        ∙ all_below-same j.size (λ e. truth i (renumber number body) (e ∷ elements))
        (λ e. truth j body (e ∷ elements))
        (λ e within. same (λ m o. agree m (occurs-for_all m body ∙ o)) (e ∷ elements))
        ∙ sym (truth-for_all j body elements);
    on_exists = λ body same agree elements.
        ap (λ p. truth i p elements) (renumber-exists number body)
        ∙ truth-exists i (renumber number body) elements
        ∙ ap (λ n. some_below n (λ e. truth i (renumber number body) (e ∷ elements))) size
        ∙ some_below-same j.size (λ e. truth i (renumber number body) (e ∷ elements))
        (λ e. truth j body (e ∷ elements))
        (λ e within. same (λ m o. agree m (occurs-exists m body ∙ o)) (e ∷ elements))
        ∙ sym (truth-exists j body elements);
  })

-- the same of stated formulas, where the numbers are those among the symbols that occur
module _ (present : ℕ → Bool) (i j : Untyped) (size : i.size ≡ j.size) where
  abbrev pub AgreePresent : (ℕ → Bool) → Type 0
  AgreePresent test = (m : ℕ) → IsTrue (test m) → (values : List ℕ) →
      i.symbol_at (count_below m present) values ≡ j.symbol_at m values

  pub satisfied-renumbered : (formulas : List FofFormula) →
      AgreePresent (is_present formulas) → AreSatisfied j formulas →
      AreSatisfied i (map (renumbered present) formulas)
  satisfied-renumbered [] agree h = tt
  satisfied-renumbered (formula ∷ formulas) agree h = (
    truth-renumber (λ m. count_below m present) i j size formula.body
        (λ m o. agree m (or_left _ _ o)) [] ∙ h.0,
    satisfied-renumbered formulas (λ m o. agree m (or_right _ _ o)) h.1,
  )

  pub satisfied-all_marks : (formulas : List FofFormula) →
      AgreePresent (is_present formulas) → AreSatisfied i (map (renumbered present) formulas) →
      AreSatisfied j formulas
  satisfied-all_marks [] agree h = tt
  satisfied-all_marks (formula ∷ formulas) agree h = (
    sym (truth-renumber (λ m. count_below m present) i j size formula.body
        (λ m o. agree m (or_left _ _ o)) []) ∙ h.0,
    satisfied-all_marks formulas (λ m o. agree m (or_right _ _ o)) h.1,
  )
