-- The parts of a formula: that they are sound, that they have room, and what their truth makes.
use Rattle.std.specs.Prelude.{ℕ, zero, suc, ◌≡◌, ◌<◌, ◌≤◌, max, Bool, true, false, not, ◌||◌, List, [], ◌∷◌, map, length, reverse, get_or, eqb, IsTrue, slice_get}
use Rattle.std.proofs.Common.{sym, ap, ◌∙◌, subst, arith}
use Rattle.std.proofs.lemmas.Bool.{and_parts}
use Rattle.fof_models.specs.declared.problem.FofSymbol.{FofSymbol}
use Rattle.fof_models.specs.declared.formula.FofTerm.{FofTerm}
use Rattle.fof_models.specs.declared.formula.Fof.{Fof}
use Rattle.fof_models.specs.declared.formula.Fof.TheVariants as formula
use Rattle.fof_models.specs.declared.structure.Structure.{Structure}
use Rattle.fof_models.specs.Structures.{reading}
use Rattle.fof_models.specs.Sound.{is_symbol, is_term, are_terms, is_formula, are_formulas, depth, greatest}
use Rattle.fof_models.specs.Evaluation.{value_in, true_in, all_true, some_true}
use Rattle.fof_models.proofs.Truth.{truth-true, truth-false, truth-atom, truth-equal, truth-not, truth-and, truth-or, truth-implies}
use Rattle.fof_models.proofs.Sound.{is_formula-atom, is_formula-equal, is_formula-not, is_formula-and, is_formula-or, is_formula-implies, depth-not, depth-and, depth-or, depth-implies}

-- soundness

module _ (signature : List FofSymbol) (binders : ℕ) (p : Fof) where
  sound_as : (q : Fof) → p ≡ q → IsTrue (is_formula signature p binders) →
      IsTrue (is_formula signature q binders)
  sound_as q is sound = subst (λ x. IsTrue (is_formula signature x binders)) is sound

  pub atom_sound : (f : ℕ) (terms : List FofTerm) → p ≡ formula.Atom f terms →
      IsTrue (is_formula signature p binders) →
      IsTrue (is_symbol (slice_get signature f) true (length terms)) × IsTrue (are_terms signature terms binders)
  atom_sound f terms is sound =
      and_parts (is_symbol (slice_get signature f) true (length terms)) (are_terms signature terms binders)
      (sym (is_formula-atom signature f terms binders) ∙ sound_as (formula.Atom f terms) is sound)

  pub equal_sound : (left right : FofTerm) → p ≡ formula.Equal left right →
      IsTrue (is_formula signature p binders) →
      IsTrue (is_term signature left binders) × IsTrue (is_term signature right binders)
  equal_sound left right is sound =
      and_parts (is_term signature left binders) (is_term signature right binders)
      (sym (is_formula-equal signature left right binders) ∙ sound_as (formula.Equal left right) is sound)

  pub not_sound : (a : Fof) → p ≡ formula.Not a → IsTrue (is_formula signature p binders) →
      IsTrue (is_formula signature a binders)
  not_sound a is sound = sym (is_formula-not signature a binders) ∙ sound_as (formula.Not a) is sound

  pub and_sound : (parts : List Fof) → p ≡ formula.And parts →
      IsTrue (is_formula signature p binders) → IsTrue (are_formulas signature parts binders)
  and_sound parts is sound =
      sym (is_formula-and signature parts binders) ∙ sound_as (formula.And parts) is sound

  pub or_sound : (parts : List Fof) → p ≡ formula.Or parts →
      IsTrue (is_formula signature p binders) → IsTrue (are_formulas signature parts binders)
  or_sound parts is sound =
      sym (is_formula-or signature parts binders) ∙ sound_as (formula.Or parts) is sound

  pub implies_sound : (a b : Fof) → p ≡ formula.Implies a b →
      IsTrue (is_formula signature p binders) →
      IsTrue (is_formula signature a binders) × IsTrue (is_formula signature b binders)
  implies_sound a b is sound =
      and_parts (is_formula signature a binders) (is_formula signature b binders)
      (sym (is_formula-implies signature a b binders) ∙ sound_as (formula.Implies a b) is sound)

-- depth

module _ (p : Fof) where
  pub not_depth : (a : Fof) → p ≡ formula.Not a → depth p ≡ depth a
  not_depth a is = ap depth is ∙ depth-not a

  pub and_depth : (parts : List Fof) → p ≡ formula.And parts → depth p ≡ greatest (map depth parts)
  and_depth parts is = ap depth is ∙ depth-and parts

  pub or_depth : (parts : List Fof) → p ≡ formula.Or parts → depth p ≡ greatest (map depth parts)
  or_depth parts is = ap depth is ∙ depth-or parts

  pub implies_depth : (a b : Fof) → p ≡ formula.Implies a b → depth p ≡ max (depth a) (depth b)
  implies_depth a b is = ap depth is ∙ depth-implies a b

-- truth

module _ (s : Structure) (items : List ℕ) (p : Fof) (held : Bool) where
  pub true_is : p ≡ formula.True → true ≡ true_in s items p
  true_is is = sym (ap (true_in s items) is ∙ truth-true (reading s) (reverse items))

  pub false_is : p ≡ formula.False → false ≡ true_in s items p
  false_is is = sym (ap (true_in s items) is ∙ truth-false (reading s) (reverse items))

  pub atom_is : (f : ℕ) (terms : List FofTerm) → p ≡ formula.Atom f terms →
      held ≡ eqb ((reading s).symbol_at f (map (value_in s items) terms)) 1 → held ≡ true_in s items p
  atom_is f terms is at =
      at ∙ sym (ap (true_in s items) is ∙ truth-atom (reading s) f terms (reverse items))

  pub equal_is : (left right : FofTerm) → p ≡ formula.Equal left right →
      held ≡ eqb (value_in s items left) (value_in s items right) → held ≡ true_in s items p
  equal_is left right is at =
      at ∙ sym (ap (true_in s items) is ∙ truth-equal (reading s) left right (reverse items))

  pub not_is : (a : Fof) → p ≡ formula.Not a → held ≡ true_in s items a → not held ≡ true_in s items p
  not_is a is at =
      ap not at ∙ sym (ap (true_in s items) is ∙ truth-not (reading s) a (reverse items))

  pub and_is : (parts : List Fof) → p ≡ formula.And parts → held ≡ all_true s items parts →
      held ≡ true_in s items p
  and_is parts is at =
      at ∙ sym (ap (true_in s items) is ∙ truth-and (reading s) parts (reverse items))

  pub or_is : (parts : List Fof) → p ≡ formula.Or parts → held ≡ some_true s items parts →
      held ≡ true_in s items p
  or_is parts is at =
      at ∙ sym (ap (true_in s items) is ∙ truth-or (reading s) parts (reverse items))

  -- the conclusion, looked at where the premise is true
  pub implies_is : (a b : Fof) (premise conclusion : Bool) → p ≡ formula.Implies a b →
      premise ≡ true_in s items a → premise ≡ true → conclusion ≡ true_in s items b →
      conclusion ≡ true_in s items p
  implies_is a b premise conclusion is first holds second =
      second
      ∙ ap (λ x. not x || true_in s items b) (sym holds ∙ first)
      ∙ sym (ap (true_in s items) is ∙ truth-implies (reading s) a b (reverse items))

  -- and where it is false
  pub implied : (a b : Fof) (premise : Bool) → p ≡ formula.Implies a b →
      premise ≡ true_in s items a → premise ≡ false → true ≡ true_in s items p
  implied a b premise is first fails =
      ap (λ x. not x || true_in s items b) (sym fails ∙ first)
      ∙ sym (ap (true_in s items) is ∙ truth-implies (reading s) a b (reverse items))

-- an item of a list of sound formulas
pub formula_sound_at : (signature : List FofSymbol) (binders i : ℕ) (parts : List Fof) (part : Fof) →
    i < length parts → part ≡ get_or parts i part → IsTrue (are_formulas signature parts binders) →
    IsTrue (is_formula signature part binders)
formula_sound_at signature binders i parts part within is sound =
    subst (λ x. IsTrue (is_formula signature x binders)) (sym is) (go i parts within sound)
  where
    go : (i : ℕ) (xs : List Fof) → i < length xs → IsTrue (are_formulas signature xs binders) →
        IsTrue (is_formula signature (get_or xs i part) binders)
    go i [] within sound = absurd (omega arith)
    go zero (x ∷ xs) within sound = (and_parts (is_formula signature x binders) _ sound).0
    go (suc i) (x ∷ xs) within sound =
        go i xs (omega arith) (and_parts (is_formula signature x binders) _ sound).1

pub depth_at : (i : ℕ) (parts : List Fof) (part : Fof) → i < length parts → part ≡ get_or parts i part →
    depth part ≤ greatest (map depth parts)
depth_at i parts part within is =
    subst (λ x. depth x ≤ greatest (map depth parts)) (sym is) (go i parts within)
  where
    go : (i : ℕ) (xs : List Fof) → i < length xs → depth (get_or xs i part) ≤ greatest (map depth xs)
    go i [] within = absurd (omega arith)
    go zero (x ∷ xs) within = omega arith
    go (suc i) (x ∷ xs) within = omega (arith, go i xs (omega arith))
