-- A scheme applies to a problem, or it is refused for one reason, and not both.
use Rattle.std.specs.Prelude.{ℕ, ◌≡◌, Bool, true, false, not, ◌&&◌, eqb, List, [], ◌∷◌, map, cond, filter, slice_get, Option, Some, None}
use Rattle.std.specs.List.{list_all}
use Rattle.std.proofs.Common.{refl, sym, ap, ◌∙◌, ⊎_elim}
use Rattle.std.proofs.lemmas.Bool.{and_parts, and_cases, false≢true}
use Rattle.std.proofs.lemmas.Option.{same_Some}
use Rattle.tf_core.specs.declared.signature.Symbol.{Symbol}
use Rattle.tf_core.specs.declared.normal.NormalFormula.{NormalFormula}
use Rattle.tf_core.specs.declared.normal.Normal.{Normal}
use Rattle.tf_core.specs.Typing.{IsNormal}
use Rattle.tf_core.specs.Sound.{is_monomorphic}
use Rattle.tf_naked.specs.declared.place.Place.{Place}
use Rattle.enc_marks.specs.declared.refusal.Refusal.{Refusal}
use Rattle.enc_marks.specs.declared.refusal.Refusal.TheVariants as refusal
use Rattle.enc_marks.specs.declared.scheme.Scheme.{Scheme}
use Rattle.enc_marks.specs.Applies.{Applies, IsRefused, asks_monomorphic, or_else, first_polymorphic, refused_place}
use Rattle.enc_marks.proofs.AppliesLaws.{applies_exactly}
use Rattle.enc_pipeline.specs.Causes.{IsSchemeRefusal}

-- ---- the first name with type variables

-- the first name of the items that fail a test
module _ {A : Type 0} (test : A → Bool) (name : A → List ℕ) where
  abbrev failing : List A → List A
  failing items = filter (λ item. not (test item)) items

  abbrev first : List A → Option (List ℕ)
  first items = slice_get (map name (failing items)) 0

  none_fails : (items : List A) → list_all test items ≡ true → first items ≡ None
  none_fails [] all = refl
  none_fails (item ∷ items) all =
      let parts = and_parts (test item) (list_all test items) all in
      ap (λ b. slice_get (map name (cond (not b) (item ∷ failing items) (failing items))) 0) parts.0
      ∙ none_fails items parts.1

  abbrev HasFailing : List A → Type 0
  HasFailing items = (found : List ℕ) × (first items ≡ Some found)

  first_fails : (item : A) (items : List A) (b : Bool) → test item ≡ b →
      list_all test (item ∷ items) ≡ false →
      (list_all test items ≡ false → HasFailing items) → HasFailing (item ∷ items)
  first_fails item items false is fails later = (
    name item,
    ap (λ p. slice_get (map name (cond (not p) (item ∷ failing items) (failing items))) 0) is,
  )
  first_fails item items true is fails later =
      let found = later (sym (ap (λ p. p && list_all test items) is) ∙ fails) in (
        found.0,
        ap (λ p. slice_get (map name (cond (not p) (item ∷ failing items) (failing items))) 0) is
            ∙ found.1,
      )

  one_fails : (items : List A) → list_all test items ≡ false → HasFailing items
  one_fails [] fails = absurd (false≢true (sym fails))
  one_fails (item ∷ items) fails =
      first_fails item items (test item) refl fails (λ rest. one_fails items rest)

module _ (normal : Normal) where
  abbrev plain_symbol : Symbol → Bool
  plain_symbol symbol = eqb symbol.parameters 0

  abbrev plain_formula : NormalFormula → Bool
  plain_formula formula = eqb formula.type_variables 0

  abbrev first_symbol : Option (List ℕ)
  first_symbol = first plain_symbol (λ symbol. symbol.name) normal.signature.symbols

  abbrev first_formula : Option (List ℕ)
  first_formula = first plain_formula (λ formula. formula.name) normal.formulas

  monomorphic_none : is_monomorphic normal ≡ true → first_polymorphic normal ≡ None
  monomorphic_none is =
      let parts = and_parts (list_all plain_symbol normal.signature.symbols)
      (list_all plain_formula normal.formulas) is in
      ap (λ o. or_else o first_formula)
      (none_fails plain_symbol (λ symbol. symbol.name) normal.signature.symbols parts.0)
      ∙ none_fails plain_formula (λ formula. formula.name) normal.formulas parts.1

  abbrev HasFirst : Option (List ℕ) → Type 0
  HasFirst found = (name : List ℕ) × (found ≡ Some name)

  or_later : (found later : Option (List ℕ)) → HasFirst later → HasFirst (or_else found later)
  or_later None later has = has
  or_later (Some name) later has = (name, refl)

  polymorphic_first : is_monomorphic normal ≡ false → HasFirst (first_polymorphic normal)
  polymorphic_first is =
      ⊎_elim
      (λ symbols.
      let found = one_fails plain_symbol (λ symbol. symbol.name) normal.signature.symbols symbols in
      (found.0, ap (λ o. or_else o first_formula) found.1))
      (λ formulas.
      or_later first_symbol first_formula
      (one_fails plain_formula (λ formula. formula.name) normal.formulas formulas))
      (and_cases (list_all plain_symbol normal.signature.symbols)
      (list_all plain_formula normal.formulas) is)

-- ---- one or the other

module _ (which : Scheme) (normal : Normal) where
  abbrev Reason : Type 0
  Reason = (reason : Refusal) × IsSchemeRefusal reason × IsRefused which normal reason

  -- a scheme is refused for one reason
  pub one_scheme_refusal : (a b : Refusal) → IsSchemeRefusal a → IsRefused which normal a →
      IsSchemeRefusal b → IsRefused which normal b → a ≡ b
  one_scheme_refusal (refusal.NotMonomorphic a) (refusal.NotMonomorphic b) is_a why is_b other =
      ap refusal.NotMonomorphic (same_Some a b (sym why.1 ∙ other.1))
  one_scheme_refusal (refusal.NotMonotone a) (refusal.NotMonotone b) is_a why is_b other =
      ap refusal.NotMonotone (same_Some a b (sym why.1 ∙ other.1))
  one_scheme_refusal (refusal.NotMonomorphic a) (refusal.NotMonotone b) is_a why is_b other =
      let clash : None ≡ Some a = sym (monomorphic_none normal (other.0 why.0)) ∙ why.1 in absurd cc
  one_scheme_refusal (refusal.NotMonotone a) (refusal.NotMonomorphic b) is_a why is_b other =
      let clash : None ≡ Some b = sym (monomorphic_none normal (why.0 other.0)) ∙ other.1 in absurd cc
  one_scheme_refusal (refusal.TableTooLarge entries) b is_a why is_b other = absurd is_a
  one_scheme_refusal refusal.Memory b is_a why is_b other = absurd is_a
  one_scheme_refusal a (refusal.TableTooLarge entries) is_a why is_b other = absurd is_b
  one_scheme_refusal a refusal.Memory is_a why is_b other = absurd is_b

  module _ (typed : IsNormal normal) where
    -- to a problem for which it is refused it doesn't apply
    pub refused_unapplied : (reason : Refusal) → IsSchemeRefusal reason →
        IsRefused which normal reason → Applies which normal → ⊥
    refused_unapplied (refusal.NotMonomorphic name) is why applies =
        let no_cause = (applies_exactly which normal typed).0 applies in
        let clash : None ≡ Some name =
        sym (monomorphic_none normal (no_cause.0 why.0)) ∙ why.1 in absurd cc
    refused_unapplied (refusal.NotMonotone place) is why applies =
        let no_cause = (applies_exactly which normal typed).0 applies in
        let clash : None ≡ Some place = sym no_cause.1 ∙ why.1 in absurd cc
    refused_unapplied (refusal.TableTooLarge entries) is why applies = is
    refused_unapplied refusal.Memory is why applies = is

    -- to a problem to which it doesn't apply there is a reason to refuse it
    pub unapplied_refused : (Applies which normal → ⊥) → Reason
    unapplied_refused unapplied =
        by (asks_monomorphic which) (is_monomorphic normal) (refused_place which normal) refl refl refl
      where
        not_asked : asks_monomorphic which ≡ false → asks_monomorphic which ≡ true →
            is_monomorphic normal ≡ true
        not_asked never asked = absurd (false≢true (sym never ∙ asked))

        by : (asks monomorphic : Bool) (place : Option Place) → asks_monomorphic which ≡ asks →
            is_monomorphic normal ≡ monomorphic → refused_place which normal ≡ place → Reason
        by true false place asked is at =
            let found = polymorphic_first normal is in
            (refusal.NotMonomorphic found.0, tt, (asked, found.1))
        by true true (Some place) asked is at = (refusal.NotMonotone place, tt, (λ asks. is, at))
        by true true None asked is at =
            absurd (unapplied ((applies_exactly which normal typed).1 (λ asks. is, at)))
        by false monomorphic (Some place) never is at =
            (refusal.NotMonotone place, tt, (not_asked never, at))
        by false monomorphic None never is at =
            absurd (unapplied ((applies_exactly which normal typed).1 (not_asked never, at)))
