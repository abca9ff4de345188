-- Which of the open universal variables of a type stand in a way, told by a test of variables.
use Rattle.std.specs.Prelude.{ℕ, zero, suc, ◌+◌, ◌≡◌, Bool, true, false, ◌&&◌, ◌||◌, List, [], ◌∷◌, length, eqb, get_or, slice_get, Some}
use Rattle.std.proofs.Common.{refl, sym, ap, ◌∙◌, arith}
use Rattle.std.proofs.Math.Bool.{and-false, or-false}
use Rattle.tf_core.specs.declared.ty.Ty.{Ty}
use Rattle.tf_core.specs.declared.term.Term.{Term}
use Rattle.tf_core.specs.declared.signature.Signature.{Signature}
use Rattle.tf_core.specs.Types.{same_type}
use Rattle.tf_core.specs.Typing.{HasType, of_variable, of_apply}
use Rattle.tf_core.specs.declared.term.Term.TheVariants as term
use Rattle.tf_core.proofs.Induction.{term_induction}
use Rattle.std.specs.List.{AllByRecursion}
use Rattle.tf_naked.specs.declared.position.Kind.{Kind}
use Rattle.tf_naked.specs.declared.position.Kind.TheVariants.{Universal}
use Rattle.tf_naked.specs.Covers.{covers_of}
use Rattle.tf_naked.specs.Standing.{is_positive_side, is_universal, kind_of, Standing, standing, stands_in_arguments, stands_in_side}
use Rattle.tf_naked.proofs.Standing.{kind_of-variable, kind_of-apply, standing-variable, standing-apply}
use Rattle.std.specs.Prelude.{map}

-- ---- Booleans

none_first : (a b c : Bool) → c ≡ false → ((a && (b && false)) || c) ≡ false
none_first true true c is = is
none_first true false c is = is
none_first false b c is = is

first_none : (a b c q : Bool) → c ≡ false → ((a && (b && c)) || q) ≡ q
first_none true true c q is = ap (λ x. x || q) is
first_none true false c q is = refl
first_none false b c q is = refl

first_alone : (a b p : Bool) → p ≡ false → ((a && (b && true)) || p) ≡ (a && b)
first_alone true true p is = refl
first_alone true false p is = is
first_alone false b p is = is

split : (a b x y p q : Bool) →
    ((a && (b && (x || y))) || (p || q)) ≡ (((a && (b && x)) || p) || ((a && (b && y)) || q))
split true true true y p q = refl
split true true false true true q = refl
split true true false true false q = refl
split true true false false p q = refl
split true false x y p q = refl
split false b x y p q = refl

-- ---- open variables

module _ (ty : Ty) where
  -- whether one of the open variables is universal, of this type, and passes the test
  abbrev pub some_open : List Ty → List Kind → (ℕ → Bool) → Bool
  some_open [] kinds test = false
  some_open (open_type ∷ context) [] test = false
  some_open (open_type ∷ context) (kind ∷ kinds) test =
      (is_universal kind && (same_type ty open_type && test 0))
      || some_open context kinds (λ i. test (i + 1))

  pub some_open-same : (context : List Ty) (kinds : List Kind) (test other : ℕ → Bool) →
      ((i : ℕ) → test i ≡ other i) → some_open context kinds test ≡ some_open context kinds other
  some_open-same [] kinds test other same = refl
  some_open-same (t ∷ context) [] test other same = refl
  some_open-same (t ∷ context) (kind ∷ kinds) test other same =
      ap (λ b. (is_universal kind && (same_type ty t && b))
      || some_open context kinds (λ i. test (i + 1))) (same 0)
      ∙ ap (λ b. (is_universal kind && (same_type ty t && other 0)) || b)
      (some_open-same context kinds (λ i. test (i + 1)) (λ i. other (i + 1)) (λ i. same (i + 1)))

  pub some_open-none : (context : List Ty) (kinds : List Kind) →
      some_open context kinds (λ i. false) ≡ false
  some_open-none [] kinds = refl
  some_open-none (t ∷ context) [] = refl
  some_open-none (t ∷ context) (kind ∷ kinds) =
      none_first (is_universal kind) (same_type ty t) (some_open context kinds (λ i. false))
      (some_open-none context kinds)

  pub some_open-or : (context : List Ty) (kinds : List Kind) (test other : ℕ → Bool) →
      some_open context kinds (λ i. test i || other i)
      ≡ (some_open context kinds test || some_open context kinds other)
  some_open-or [] kinds test other = refl
  some_open-or (t ∷ context) [] test other = refl
  some_open-or (t ∷ context) (kind ∷ kinds) test other =
      ap (λ b. (is_universal kind && (same_type ty t && (test 0 || other 0))) || b)
      (some_open-or context kinds (λ i. test (i + 1)) (λ i. other (i + 1)))
      ∙ split (is_universal kind) (same_type ty t) (test 0) (other 0)
      (some_open context kinds (λ i. test (i + 1))) (some_open context kinds (λ i. other (i + 1)))

  some_open-one : (context : List Ty) (kinds : List Kind) (n : ℕ) (found : Ty) →
      slice_get context n ≡ Some found → length kinds ≡ length context →
      some_open context kinds (λ i. eqb n i)
      ≡ (is_universal (get_or kinds n Universal) && same_type ty found)
  some_open-one [] kinds n found at long = cc
  some_open-one (t ∷ context) [] n found at long = absurd (omega (arith, long))
  some_open-one (t ∷ context) (kind ∷ kinds) zero found at long =
      let same : t ≡ found = cc in
      first_alone (is_universal kind) (same_type ty t)
      (some_open context kinds (λ i. eqb 0 (i + 1)))
      (some_open-same context kinds (λ i. eqb 0 (i + 1)) (λ i. false) differs
      ∙ some_open-none context kinds)
      ∙ ap (λ x. is_universal kind && same_type ty x) same
    where
      differs : (i : ℕ) → eqb 0 (i + 1) ≡ false
      differs i = grind arith
  some_open-one (t ∷ context) (kind ∷ kinds) (suc n) found at long =
      first_none (is_universal kind) (same_type ty t) (eqb (suc n) 0)
      (some_open context kinds (λ i. eqb (suc n) (i + 1))) nearest
      ∙ some_open-same context kinds (λ i. eqb (suc n) (i + 1)) (λ i. eqb n i) shifted
      ∙ some_open-one context kinds n found at (omega (arith, long))
    where
      nearest : eqb (suc n) 0 ≡ false
      nearest = grind arith

      shifted : (i : ℕ) → eqb (suc n) (i + 1) ≡ eqb n i
      shifted i = grind arith

-- ---- variables in terms

module _ (g : Signature) where
  abbrev IsOffSides : Term → Type 0
  IsOffSides t = (i : ℕ) → (standing g is_positive_side t).inside i ≡ false

  -- no variable stands on a side inside terms at argument places
  pub off_sides_in : (covers : List Bool) (terms : List Term) → AllByRecursion IsOffSides terms →
      (i : ℕ) →
      stands_in_arguments is_positive_side covers (map (standing g is_positive_side) terms) i
      ≡ false
  off_sides_in [] terms each i = refl
  off_sides_in (cover ∷ covers) [] each i = refl
  off_sides_in (cover ∷ covers) (t ∷ terms) each i =
      ap (λ b. b || stands_in_arguments is_positive_side covers
      (map (standing g is_positive_side) terms) i) (each.0 i)
      ∙ off_sides_in covers terms each.1 i

  pub off_sides : (t : Term) → IsOffSides t
  off_sides = term_induction IsOffSides
      (λ n i. ap (λ (s : Standing). s.inside i) (standing-variable g is_positive_side n))
      (λ f types terms each i.
      ap (λ (s : Standing). s.inside i) (standing-apply g is_positive_side f types terms)
      ∙ off_sides_in (covers_of (slice_get g.symbols f)) terms each i)

  pub all_off_sides : (terms : List Term) → AllByRecursion IsOffSides terms
  all_off_sides [] = tt
  all_off_sides (t ∷ terms) = (off_sides t, all_off_sides terms)

  on_side : (positive : Bool) (t : Term) (i : ℕ) →
      stands_in_side is_positive_side positive (standing g is_positive_side t) i
      ≡ (positive && (standing g is_positive_side t).here i)
  on_side positive t i =
      ap (λ b. (positive && (standing g is_positive_side t).here i) || b) (off_sides t i)
      ∙ or-false (positive && (standing g is_positive_side t).here i)

  module _ (ty : Ty) (context : List Ty) (kinds : List Kind) (long : length kinds ≡ length context)
    where
      variable_side : (positive : Bool) (n : ℕ) (found : Ty) → slice_get context n ≡ Some found →
          some_open ty context kinds (λ i. positive && eqb n i)
          ≡ ((positive && is_universal (get_or kinds n Universal)) && same_type ty found)
      variable_side true n found at = some_open-one ty context kinds n found at long
      variable_side false n found at = some_open-none ty context kinds

      -- an open variable of the type on a side, and the side itself
      pub some_open-side : (variables : ℕ) (positive : Bool) (t : Term) (found : Ty) →
          HasType g variables context t found →
          some_open ty context kinds
          (stands_in_side is_positive_side positive (standing g is_positive_side t))
          ≡ ((positive && is_universal (kind_of kinds t)) && same_type ty found)
      some_open-side variables positive t found (of_variable n same at) =
          some_open-same ty context kinds _ (λ i. positive && eqb n i)
          (λ i. on_side positive (term.Var n) i
          ∙ ap (λ (s : Standing). positive && s.here i) (standing-variable g is_positive_side n))
          ∙ variable_side positive n found at
          ∙ ap (λ kind. (positive && is_universal kind) && same_type ty found)
          (sym (kind_of-variable kinds n))
      some_open-side variables positive t found
          (of_apply f symbol result types terms instance have) =
          some_open-same ty context kinds _ (λ i. false)
          (λ i. on_side positive (term.Apply f types terms) i
          ∙ ap (λ (s : Standing). positive && s.here i)
          (standing-apply g is_positive_side f types terms)
          ∙ and-false positive)
          ∙ some_open-none ty context kinds
          ∙ sym (ap (λ kind. (positive && is_universal kind) && same_type ty found)
          (kind_of-apply kinds f types terms)
          ∙ ap (λ b. b && same_type ty found) (and-false positive))
