-- Truth of a formula under a prefix of quantifiers.
use Rattle.std.specs.Prelude.{ℕ, zero, suc, ◌≡◌, ◌<◌, ◌+◌, ◌↔◌, Bool, true, false, not, List, [], ◌∷◌, ◌++◌, replicate, reverse, IsTrue}
use Rattle.std.specs.Fn.{iterate}
use Rattle.std.proofs.Common.{refl, sym, ap, ◌∙◌, subst, arith}
use Rattle.std.proofs.lemmas.Bool.{false≢true}
use Rattle.std.proofs.lemmas.List.{append_assoc, reverse-append}
use Rattle.enc_base.specs.Tables.{EachBelow}
use Rattle.fof_models.specs.declared.formula.Fof.{Fof}
use Rattle.fof_models.specs.declared.formula.Fof.TheVariants.{ForAll, Exists}
use Rattle.fof_models.specs.Structures.{Untyped, reading}
use Rattle.fof_models.specs.declared.structure.Structure.{Structure}
use Rattle.fof_models.specs.Evaluation.{true_in, IsEach}
use Rattle.fof_models.specs.Prefix.{under_universals, under_existentials}
use Rattle.fof_models.specs.Truth.{truth}
use Rattle.fof_models.proofs.Quantified.{truth-for_all-says, truth-exists-says}
use Rattle.fof_models.proofs.Prefixes.{iterate-suc, under_universals-outside, under_existentials-outside}

-- a formula has a truth value for each tuple of so many elements, the last being the nearest
abbrev IsEachOf : Untyped → Fof → List ℕ → ℕ → Bool → Type 0
IsEachOf s body elements count value =
    (tuple : List ℕ) → EachBelow (replicate count s.size) tuple →
    truth s body (reverse tuple ++ elements) ≡ value

-- one more element at the head of a tuple
reverse-front : (element : ℕ) (tuple elements : List ℕ) →
    reverse (element ∷ tuple) ++ elements ≡ reverse tuple ++ (element ∷ elements)
reverse-front element tuple elements =
    ap (λ xs. xs ++ elements) (reverse-append (element ∷ []) tuple)
    ∙ append_assoc (reverse tuple) (element ∷ []) elements

module _ (s : Untyped) (value : Bool) (bind : Fof → Fof)
    (step : (body : Fof) (elements : List ℕ) →
    (truth s (bind body) elements ≡ value)
    ↔ ((element : ℕ) → element < s.size → truth s body (element ∷ elements) ≡ value))
  where
    bound-each : (count : ℕ) (body : Fof) (elements : List ℕ) →
        truth s (iterate bind count body) elements ≡ value → IsEachOf s body elements count value
    bound-each zero body elements is [] below = is
    bound-each zero body elements is (element ∷ tuple) below = absurd below
    bound-each (suc count) body elements is [] below = absurd below
    bound-each (suc count) body elements is (element ∷ tuple) below =
        let whole = ap (λ p. truth s p elements) (iterate-suc bind count body) ∙ is in
        let inner = (step (iterate bind count body) elements).0 whole element below.0 in
        ap (truth s body) (reverse-front element tuple elements)
        ∙ bound-each count body (element ∷ elements) inner tuple below.1

    each-bound : (count : ℕ) (body : Fof) (elements : List ℕ) →
        IsEachOf s body elements count value → truth s (iterate bind count body) elements ≡ value
    each-bound zero body elements each = each [] tt
    each-bound (suc count) body elements each =
        ap (λ p. truth s p elements) (sym (iterate-suc bind count body))
        ∙ (step (iterate bind count body) elements).1
        (λ element within. each-bound count body (element ∷ elements)
        (λ tuple below. ap (truth s body) (sym (reverse-front element tuple elements))
        ∙ each (element ∷ tuple) (within, below)))

-- an existential formula is false exactly where its body is false of each element

not_true : (b : Bool) → (IsTrue b → ⊥) → b ≡ false
not_true false fails = refl
not_true true fails = absurd (fails refl)

truth-exists-fails : (s : Untyped) (body : Fof) (elements : List ℕ) →
    (truth s (Exists body) elements ≡ false)
    ↔ ((element : ℕ) → element < s.size → truth s body (element ∷ elements) ≡ false)
truth-exists-fails s body elements = (
  λ fails element within.
      not_true (truth s body (element ∷ elements))
      (λ holds.
      false≢true (sym fails ∙ (truth-exists-says s body elements).1 (element, within, holds))),
  λ each.
      not_true (truth s (Exists body) elements)
      (λ holds.
      let found = (truth-exists-says s body elements).0 holds in
      false≢true (sym (each found.0 found.1) ∙ found.2)),
)

pub truth-under_universals : (s : Untyped) (count : ℕ) (body : Fof) (elements : List ℕ) →
    IsTrue (truth s (under_universals count body) elements)
    ↔ ((tuple : List ℕ) → EachBelow (replicate count s.size) tuple →
    IsTrue (truth s body (reverse tuple ++ elements)))
unfolding under_universals
truth-under_universals s count body elements = (
  bound-each s true (λ p. ForAll p) (truth-for_all-says s) count body elements,
  each-bound s true (λ p. ForAll p) (truth-for_all-says s) count body elements,
)

pub truth-under_existentials : (s : Untyped) (count : ℕ) (body : Fof) (elements : List ℕ) →
    (truth s (under_existentials count body) elements ≡ false)
    ↔ ((tuple : List ℕ) → EachBelow (replicate count s.size) tuple →
    truth s body (reverse tuple ++ elements) ≡ false)
unfolding under_existentials
truth-under_existentials s count body elements = (
  bound-each s false (λ p. Exists p) (truth-exists-fails s) count body elements,
  each-bound s false (λ p. Exists p) (truth-exists-fails s) count body elements,
)

-- an existential prefix, by a tuple of which the formula is true

module _ (s : Untyped) where
  bound-some : (count : ℕ) (body : Fof) (elements : List ℕ) →
      IsTrue (truth s (iterate (λ p. Exists p) count body) elements) →
      (tuple : List ℕ) × EachBelow (replicate count s.size) tuple
      × IsTrue (truth s body (reverse tuple ++ elements))
  bound-some zero body elements holds = ([], tt, holds)
  bound-some (suc count) body elements holds =
      let whole = ap (λ p. truth s p elements) (iterate-suc (λ p. Exists p) count body) ∙ holds in
      let first = (truth-exists-says s (iterate (λ p. Exists p) count body) elements).0 whole in
      let rest = bound-some count body (first.0 ∷ elements) first.2 in (
        first.0 ∷ rest.0,
        (first.1, rest.1),
        ap (truth s body) (reverse-front first.0 rest.0 elements) ∙ rest.2,
      )

  some-bound : (count : ℕ) (body : Fof) (elements tuple : List ℕ) →
      EachBelow (replicate count s.size) tuple →
      IsTrue (truth s body (reverse tuple ++ elements)) →
      IsTrue (truth s (iterate (λ p. Exists p) count body) elements)
  some-bound zero body elements [] below holds = holds
  some-bound zero body elements (element ∷ tuple) below holds = absurd below
  some-bound (suc count) body elements [] below holds = absurd below
  some-bound (suc count) body elements (element ∷ tuple) below holds =
      ap (λ p. truth s p elements) (sym (iterate-suc (λ p. Exists p) count body))
      ∙ (truth-exists-says s (iterate (λ p. Exists p) count body) elements).1 (
        element,
        below.0,
        some-bound count body (element ∷ elements) tuple below.1
            (ap (truth s body) (sym (reverse-front element tuple elements)) ∙ holds),
      )

pub truth-under_existentials-says : (s : Untyped) (count : ℕ) (body : Fof) (elements : List ℕ) →
    IsTrue (truth s (under_existentials count body) elements)
    ↔ ((tuple : List ℕ) × EachBelow (replicate count s.size) tuple
    × IsTrue (truth s body (reverse tuple ++ elements)))
unfolding under_existentials
truth-under_existentials-says s count body elements = (
  bound-some s count body elements,
  λ found. some-bound s count body elements found.0 found.1 found.2,
)

-- a formula that begins with a quantifier, as code finds its parts

same_truth : (a b : Bool) → (IsTrue a → IsTrue b) → (IsTrue b → IsTrue a) → a ≡ b
same_truth true b to from = sym (to refl)
same_truth false true to from = from refl
same_truth false false to from = refl

other_truth : (a b : Bool) → (IsTrue a → b ≡ false) → (b ≡ false → IsTrue a) → not a ≡ b
other_truth true b to from = sym (to refl)
other_truth false true to from = refl
other_truth false false to from = absurd (false≢true (from refl))

module _ (s : Structure) (items : List ℕ) (p inner lent body : Fof) (more : ℕ) (held : Bool)
    (lend : lent ≡ inner)
  where
    each_at : (value : Bool) → IsEach s items body (1 + more) value →
        IsEachOf (reading s) body (reverse items) (more + 1) value
    each_at value each tuple below =
        let count : more + 1 ≡ 1 + more = omega arith in
        ap (truth (reading s) body) (sym (reverse-append items tuple))
        ∙ each tuple (subst (λ n. EachBelow (replicate n s.size) tuple) count below)

    at_each : (value : Bool) → IsEachOf (reading s) body (reverse items) (more + 1) value →
        IsEach s items body (1 + more) value
    at_each value each tuple below =
        let count : 1 + more ≡ more + 1 = omega arith in
        ap (truth (reading s) body) (reverse-append items tuple)
        ∙ each tuple (subst (λ n. EachBelow (replicate n s.size) tuple) count below)

    pub universals_is : p ≡ ForAll inner → lent ≡ under_universals more body →
        (IsTrue held ↔ IsEach s items body (1 + more) true) → held ≡ true_in s items p
    universals_is is whole each =
        let prefixed : p ≡ under_universals (more + 1) body =
        is ∙ ap (λ x. ForAll x) (sym lend ∙ whole) ∙ under_universals-outside more body in
        let says = truth-under_universals (reading s) (more + 1) body (reverse items) in
        same_truth held (true_in s items p)
        (λ holds. ap (true_in s items) prefixed ∙ says.1 (each_at true (each.0 holds)))
        (λ holds. each.1 (at_each true (says.0 (sym (ap (true_in s items) prefixed) ∙ holds))))

    pub existentials_is : p ≡ Exists inner → lent ≡ under_existentials more body →
        (IsTrue held ↔ IsEach s items body (1 + more) false) → not held ≡ true_in s items p
    existentials_is is whole each =
        let prefixed : p ≡ under_existentials (more + 1) body =
        is ∙ ap (λ x. Exists x) (sym lend ∙ whole) ∙ under_existentials-outside more body in
        let says = truth-under_existentials (reading s) (more + 1) body (reverse items) in
        other_truth held (true_in s items p)
        (λ holds. ap (true_in s items) prefixed ∙ says.1 (each_at false (each.0 holds)))
        (λ fails. each.1 (at_each false (says.0 (sym (ap (true_in s items) prefixed) ∙ fails))))
