-- A walk through equations, of each form of formula, and through formulas one after another.
use Rattle.std.specs.Prelude.{ℕ, ◌+◌, ◌<◌, ◌≤◌, ◌≡◌, ◌^◌, Bool, true, false, ◌&&◌, List, [], ◌∷◌, ◌++◌, map, length, drop, get_or, slice_get, Option, Some, None}
use Rattle.std.proofs.Common.{refl, sym, ap, ◌∙◌, arith, subst, length-append}
use Rattle.std.specs.List.{AllByRecursion}
use Rattle.std.proofs.lemmas.List.{append_assoc, drop_more, drop_all}
use Rattle.std.proofs.lemmas.List.Elements.{All-from_recursion, All-get_or}
use Rattle.tf_core.specs.declared.ty.Ty.{Ty}
use Rattle.tf_core.specs.declared.nnf.Nnf.{Nnf}
use Rattle.tf_core.specs.declared.normal.NormalFormula.{NormalFormula}
use Rattle.tf_core.specs.declared.signature.Signature.{Signature}
use Rattle.tf_core.specs.Sorts.{joined}
use Rattle.tf_core.specs.Sound.{IsSoundFormula}
use Rattle.tf_naked.specs.declared.place.Place.{Place}
use Rattle.tf_naked.specs.declared.position.Kind.{Kind}
use Rattle.tf_naked.specs.declared.kinds.Frames.TheVariants.{Outside}
use Rattle.tf_naked.specs.declared.first.Walk.TheVariants.{Found, Passed}
use Rattle.tf_naked.specs.Standing.{is_universal}
use Rattle.tf_naked.specs.Naked.{Equation, equations_of, NakedPlace, naked_sides, naked_in_equations, naked_in_formulas}
use Rattle.tf_naked.specs.Calls.Frames.{kinds_of}
use Rattle.tf_naked.specs.Calls.Walked.{first_or, walked, first_side, walked_side}
use Rattle.tf_naked.proofs.EquationCounts.{length-equations_of}

-- ---- naked places, one after another

first_or-found : (next other : ℕ) (places more : List NakedPlace) (place : Place) →
    Found place ≡ first_or next places → Found place ≡ first_or other (places ++ more)
first_or-found next other [] more place is = cc
first_or-found next other (naked ∷ places) more place is = is

first_or-passed : (next after other : ℕ) (places more : List NakedPlace) →
    Passed after ≡ first_or next places →
    (after ≡ next) × (first_or other (places ++ more) ≡ first_or other more)
first_or-passed next after other [] more is = let same : after ≡ next = cc in (same, refl)
first_or-passed next after other (naked ∷ places) more is = cc

pub naked_in_equations-append : (formula number : ℕ) (equations others : List Equation) →
    naked_in_equations formula number (equations ++ others)
    ≡ naked_in_equations formula number equations
    ++ naked_in_equations formula (number + length equations) others
naked_in_equations-append formula number [] others =
    let same : number ≡ number + 0 = omega arith in
    ap (λ n. naked_in_equations formula n others) same
naked_in_equations-append formula number (equation ∷ equations) others =
    let moved : number + 1 + length equations ≡ number + length (equation ∷ equations) =
    omega arith in
    ap (λ places. naked_sides formula number equation ++ places)
    (naked_in_equations-append formula (number + 1) equations others
    ∙ ap (λ n. naked_in_equations formula (number + 1) equations
    ++ naked_in_equations formula n others) moved)
    ∙ sym (append_assoc (naked_sides formula number equation)
    (naked_in_equations formula (number + 1) equations)
    (naked_in_equations formula (number + length (equation ∷ equations)) others))

-- ---- walks through equations, one after another

module _ (formula number : ℕ) (equations others : List Equation) where
  pub walked-found : (place : Place) → Found place ≡ walked formula number equations →
      Found place ≡ walked formula number (equations ++ others)
  walked-found place is =
      first_or-found (number + length equations) (number + length (equations ++ others))
      (naked_in_equations formula number equations)
      (naked_in_equations formula (number + length equations) others) place is
      ∙ ap (first_or (number + length (equations ++ others)))
      (sym (naked_in_equations-append formula number equations others))

  pub walked-next : (after : ℕ) → Passed after ≡ walked formula number equations →
      after ≡ number + length equations
  walked-next after is =
      (first_or-passed (number + length equations) after 0
      (naked_in_equations formula number equations) [] is).0

  pub walked-passed : (after : ℕ) → Passed after ≡ walked formula number equations →
      walked formula after others ≡ walked formula number (equations ++ others)
  walked-passed after is =
      let all : number + length equations + length others ≡ number + length (equations ++ others) =
      omega (arith, length-append equations others) in
      ap (λ n. walked formula n others) (walked-next after is)
      ∙ ap (λ n. first_or n (naked_in_equations formula (number + length equations) others)) all
      ∙ sym (ap (first_or (number + length (equations ++ others)))
      (naked_in_equations-append formula number equations others)
      ∙ (first_or-passed (number + length equations) after (number + length (equations ++ others))
      (naked_in_equations formula number equations)
      (naked_in_equations formula (number + length equations) others) is).1)

pub walked-none : (formula number : ℕ) (equations : List Equation) → equations ≡ [] →
    Passed number ≡ walked formula number equations
walked-none formula number equations none =
    ap Passed (let same : number ≡ number + 0 = omega arith in same)
    ∙ sym (ap (walked formula number) none)

-- an equation alone
module _ (formula number : ℕ) (positive : Bool) (ty : Ty) (left right : Kind) where
  abbrev equation : Equation
  equation = record { positive = positive; ty = ty; left = left; right = right }

  walked-sides : (a b : Bool) → (positive && is_universal left) ≡ a →
      (positive && is_universal right) ≡ b →
      walked_side formula number (first_side positive left right)
      ≡ walked formula number (equation ∷ [])
  walked-sides true b first second = rw first refl
  walked-sides false true first second = rw (first, second) refl
  walked-sides false false first second = rw (first, second) refl

  pub walked-equation : walked_side formula number (first_side positive left right)
      ≡ walked formula number (equation ∷ [])
  walked-equation =
      walked-sides (positive && is_universal left) (positive && is_universal right) refl refl

-- as few equations where the lists are equal
pub as_few : (number : ℕ) (equations others : List Equation) → equations ≡ others →
    number + length equations < 2 ^ 63 → number + length others < 2 ^ 63
as_few number equations others same few =
    subst (λ list. number + length list < 2 ^ 63) same few

-- ---- parts of a formula, one after another

module _ (kinds : List Kind) (parts : List Nnf) (i : ℕ) where
  -- the equations of the parts from the i-th on
  abbrev rest : ℕ → List Equation
  rest j = joined (map (λ part. equations_of part kinds) (drop j parts))

  pub rest-more : (part : Nnf) → i < length parts → part ≡ get_or parts i part →
      rest i ≡ equations_of part kinds ++ rest (i + 1)
  rest-more part within is =
      ap (λ list. joined (map (λ p. equations_of p kinds) list))
      (drop_more parts i part within ∙ ap (λ p. p ∷ drop (i + 1) parts) (sym is))

  pub rest-end : length parts ≤ i → rest i ≡ []
  rest-end ends = ap (λ list. joined (map (λ p. equations_of p kinds) list)) (drop_all i parts ends)

  module _ (formula number : ℕ) (part : Nnf) (within : i < length parts)
      (is : part ≡ get_or parts i part)
    where
      pub walked-part_found : (place : Place) →
          Found place ≡ walked formula number (equations_of part kinds) →
          Found place ≡ walked formula number (rest i)
      walked-part_found place found =
          walked-found formula number (equations_of part kinds) (rest (i + 1)) place found
          ∙ ap (walked formula number) (sym (rest-more part within is))

      pub walked-part_passed : (after : ℕ) →
          Passed after ≡ walked formula number (equations_of part kinds) →
          walked formula after (rest (i + 1)) ≡ walked formula number (rest i)
      walked-part_passed after passed =
          walked-passed formula number (equations_of part kinds) (rest (i + 1)) after passed
          ∙ ap (walked formula number) (sym (rest-more part within is))

      pub counted-part_passed : (after : ℕ) →
          Passed after ≡ walked formula number (equations_of part kinds) →
          after + length (rest (i + 1)) ≡ number + length (rest i)
      counted-part_passed after passed =
          omega (
            arith,
            walked-next formula number (equations_of part kinds) (rest (i + 1)) after passed,
            ap length (rest-more part within is),
            length-append (equations_of part kinds) (rest (i + 1)),
          )

      pub counted-part : number + length (equations_of part kinds) ≤ number + length (rest i)
      counted-part =
          omega (
            arith,
            ap length (rest-more part within is),
            length-append (equations_of part kinds) (rest (i + 1)),
          )

-- ---- formulas, one after another

-- the first of some naked places
abbrev pub first_of : List NakedPlace → Option Place
first_of places = slice_get (map (λ naked. naked.place) places) 0

found_first : (next : ℕ) (places more : List NakedPlace) (place : Place) →
    Found place ≡ first_or next places → Some place ≡ first_of (places ++ more)
found_first next [] more place is = cc
found_first next (naked ∷ places) more place is =
    let same : place ≡ naked.place = cc in ap Some same

passed_first : (next after : ℕ) (places more : List NakedPlace) →
    Passed after ≡ first_or next places → first_of more ≡ first_of (places ++ more)
passed_first next after [] more is = refl
passed_first next after (naked ∷ places) more is = cc

module _ (formulas : List NormalFormula) (i : ℕ) (formula : NormalFormula)
    (within : i < length formulas) (is : formula ≡ get_or formulas i formula)
  where
    -- the naked places of the formulas from the i-th on
    places-more : naked_in_formulas i (drop i formulas)
        ≡ naked_in_equations i 0 (equations_of formula.body [])
        ++ naked_in_formulas (i + 1) (drop (i + 1) formulas)
    places-more =
        ap (naked_in_formulas i)
        (drop_more formulas i formula within ∙ ap (λ f. f ∷ drop (i + 1) formulas) (sym is))

    pub formula-found : (place : Place) → Found place ≡ walked i 0 (equations_of formula.body []) →
        Some place ≡ first_of (naked_in_formulas i (drop i formulas))
    formula-found place found =
        found_first (0 + length (equations_of formula.body []))
        (naked_in_equations i 0 (equations_of formula.body []))
        (naked_in_formulas (i + 1) (drop (i + 1) formulas)) place found
        ∙ ap first_of (sym places-more)

    pub formula-passed : (after : ℕ) → Passed after ≡ walked i 0 (equations_of formula.body []) →
        first_of (naked_in_formulas (i + 1) (drop (i + 1) formulas))
        ≡ first_of (naked_in_formulas i (drop i formulas))
    formula-passed after passed =
        passed_first (0 + length (equations_of formula.body [])) after
        (naked_in_equations i 0 (equations_of formula.body []))
        (naked_in_formulas (i + 1) (drop (i + 1) formulas)) passed
        ∙ ap first_of (sym places-more)

-- a sound problem has few equations in each formula
pub few_equations : (g : Signature) (formulas items : List NormalFormula) (i : ℕ)
    (formula : NormalFormula) → items ≡ formulas → i < length items →
    formula ≡ get_or items i formula → AllByRecursion (IsSoundFormula g) formulas →
    0 + length (equations_of formula.body (kinds_of Outside)) < 2 ^ 63
few_equations g formulas items i formula same within is all =
    let sound : IsSoundFormula g formula =
    subst (IsSoundFormula g) (sym is)
    (All-get_or (IsSoundFormula g) items i formula within
    (All-from_recursion (IsSoundFormula g) items
    (subst (AllByRecursion (IsSoundFormula g)) (sym same) all))) in
    omega (arith, length-equations_of formula.body (kinds_of Outside), sound.equations)

pub formulas-end : (formulas : List NormalFormula) (i : ℕ) → length formulas ≤ i →
    None ≡ first_of (naked_in_formulas i (drop i formulas))
formulas-end formulas i ends =
    ap (λ list. first_of (naked_in_formulas i list)) (sym (drop_all i formulas ends))
