-- What holds of the stated formulas of a list, taken from the left.
use Rattle.std.specs.Prelude.{ℕ, zero, suc, ◌≡◌, ◌<◌, ◌≤◌, ◌+◌, ◌^◌, Bool, false, List, [], ◌∷◌, map, length, take, reverse, get_or, slice_get, Some, IsTrue}
use Rattle.std.specs.List.{AllByRecursion}
use Rattle.std.proofs.Common.{sym, ap, ◌∙◌, subst, arith}
use Rattle.std.proofs.lemmas.Bool.{false≢true}
use Rattle.std.proofs.lemmas.List.{take_all}
use Rattle.fof_models.specs.declared.formula.Fof.{Fof}
use Rattle.fof_models.specs.Evaluation.{true_in}
use Rattle.fof_models.specs.declared.problem.FofSymbol.{FofSymbol}
use Rattle.fof_models.specs.declared.problem.FofFormula.{FofFormula}
use Rattle.fof_models.specs.declared.problem.FofProblem.{FofProblem}
use Rattle.fof_models.specs.declared.structure.Structure.{Structure}
use Rattle.fof_models.specs.Structures.{Untyped, reading, IsWellFormed}
use Rattle.fof_models.specs.Truth.{truth}
use Rattle.fof_models.specs.Models.{AreSatisfied, AreModel, IsFirstFalse}
use Rattle.fof_models.specs.Sound.{binder_count, depth, greatest, IsSoundFormula}

-- an item of a list of sound formulas
pub sound_at : (signature : List FofSymbol) (formulas : List FofFormula) (i : ℕ) (formula : FofFormula) →
    i < length formulas → formula ≡ get_or formulas i formula →
    AllByRecursion (IsSoundFormula signature) formulas → IsSoundFormula signature formula
sound_at signature formulas i formula within is sound =
    subst (IsSoundFormula signature) (sym is) (go formulas i within sound)
  where
    go : (xs : List FofFormula) (i : ℕ) → i < length xs →
        AllByRecursion (IsSoundFormula signature) xs → IsSoundFormula signature (get_or xs i formula)
    go [] i within sound = absurd (omega arith)
    go (x ∷ xs) zero within sound = sound.0
    go (x ∷ xs) (suc i) within sound = go xs i (omega arith) sound.1

pub binders_at : (signature : List FofSymbol) (formulas : List FofFormula) (i : ℕ) (formula : FofFormula) →
    i < length formulas → formula ≡ get_or formulas i formula →
    AllByRecursion (IsSoundFormula signature) formulas → binder_count formula.body < 2 ^ 30
binders_at signature formulas i formula within is sound =
    (sound_at signature formulas i formula within is sound).binders

pub depth_at : (formulas : List FofFormula) (i : ℕ) (formula : FofFormula) →
    i < length formulas → formula ≡ get_or formulas i formula →
    depth formula.body ≤ greatest (map (λ x. depth x.body) formulas)
depth_at formulas i formula within is =
    subst (λ x. depth x.body ≤ greatest (map (λ y. depth y.body) formulas)) (sym is) (go formulas i within)
  where
    go : (xs : List FofFormula) (i : ℕ) → i < length xs →
        depth (get_or xs i formula).body ≤ greatest (map (λ y. depth y.body) xs)
    go [] i within = absurd (omega arith)
    go (x ∷ xs) zero within = omega arith
    go (x ∷ xs) (suc i) within = omega (arith, go xs i (omega arith))

-- one formula more is satisfied
pub satisfied_more : (s : Untyped) (formulas : List FofFormula) (i : ℕ) (formula : FofFormula) →
    i < length formulas → formula ≡ get_or formulas i formula → IsTrue (truth s formula.body []) →
    AreSatisfied s (take i formulas) → AreSatisfied s (take (i + 1) formulas)
satisfied_more s formulas i formula within is holds earlier =
    let next : suc i ≡ i + 1 = omega arith in
    subst (λ n. AreSatisfied s (take n formulas)) next
    (go formulas i within (subst (λ x. IsTrue (truth s x.body [])) is holds) earlier)
  where
    go : (xs : List FofFormula) (i : ℕ) → i < length xs →
        IsTrue (truth s (get_or xs i formula).body []) → AreSatisfied s (take i xs) →
        AreSatisfied s (take (suc i) xs)
    go [] i within holds earlier = absurd (omega arith)
    go (x ∷ xs) zero within holds earlier = (holds, tt)
    go (x ∷ xs) (suc i) within holds earlier = (earlier.0, go xs i (omega arith) holds earlier.1)

-- what an evaluation under no elements tells
pub truth_is : (s : Structure) (items : List ℕ) (p : Fof) (held : Bool) → items ≡ [] →
    held ≡ true_in s items p → truth (reading s) p [] ≡ held
truth_is s items p held none is = ap (λ xs. truth (reading s) p (reverse xs)) (sym none) ∙ sym is

-- a formula that is false stands first, and then there is no model

get_is : (formulas : List FofFormula) (i : ℕ) (formula other : FofFormula) →
    slice_get formulas i ≡ Some other → get_or formulas i formula ≡ other
get_is [] i formula other at = cc
get_is (x ∷ xs) zero formula other at = cc
get_is (x ∷ xs) (suc i) formula other at = get_is xs i formula other at

pub first_false : (s : Untyped) (formulas : List FofFormula) (i : ℕ) (formula : FofFormula) →
    i < length formulas → formula ≡ get_or formulas i formula → truth s formula.body [] ≡ false →
    AreSatisfied s (take i formulas) → IsFirstFalse s formulas i
first_false s formulas i formula within is fails earlier = record {
  within = within;
  fails = λ other at.
      ap (λ (x : FofFormula). truth s x.body []) (sym (get_is formulas i formula other at) ∙ sym is)
      ∙ fails;
  earlier = earlier;
}

satisfied_at : (s : Untyped) (formulas : List FofFormula) (i : ℕ) (formula : FofFormula) →
    i < length formulas → AreSatisfied s formulas → IsTrue (truth s (get_or formulas i formula).body [])
satisfied_at s [] i formula within all = absurd (omega arith)
satisfied_at s (x ∷ xs) zero formula within all = all.0
satisfied_at s (x ∷ xs) (suc i) formula within all = satisfied_at s xs i formula (omega arith) all.1

pub no_model : (problem : FofProblem) (s : Structure) (i : ℕ) (formula : FofFormula) →
    i < length problem.formulas → formula ≡ get_or problem.formulas i formula →
    truth (reading s) formula.body [] ≡ false → AreModel problem s → ⊥
no_model problem s i formula within is fails model =
    false≢true
    (sym fails ∙ ap (λ (x : FofFormula). truth (reading s) x.body []) is
    ∙ satisfied_at (reading s) problem.formulas i formula within model.formulas)

pub model_from : (problem : FofProblem) (s : Structure) (count : ℕ) → IsWellFormed problem.signature s →
    length problem.formulas ≤ count → AreSatisfied (reading s) (take count problem.formulas) →
    AreModel problem s
model_from problem s count well_formed whole satisfied = record {
  well_formed = well_formed;
  formulas = subst (AreSatisfied (reading s)) (take_all count problem.formulas whole) satisfied;
}
