-- Depth and number of binders: of the parts of a formula, and of one against the other.
use Rattle.std.specs.Prelude.{ℕ, ◌≡◌, ◌<◌, ◌≤◌, ◌+◌, max, List, [], ◌∷◌, ◌++◌, map, length, sum, take, get_or}
use Rattle.std.specs.List.{AllByRecursion}
use Rattle.std.proofs.Common.{sym, ap, ◌∙◌, arith}
use Rattle.std.proofs.lemmas.List.{take_more, map-append}
use Rattle.std.proofs.lemmas.List.Sums.{sum_by-cons}
use Rattle.fof_models.specs.declared.formula.Fof.{Fof}
use Rattle.fof_models.specs.Sound.{binder_count, depth, greatest}
use Rattle.fof_models.proofs.Sound.{binder_count-true, binder_count-false, binder_count-atom, binder_count-equal, binder_count-not, binder_count-and, binder_count-or, binder_count-implies, binder_count-for_all, binder_count-exists, depth-true, depth-false, depth-atom, depth-equal, depth-not, depth-and, depth-or, depth-implies, depth-for_all, depth-exists}
use Rattle.fof_models.proofs.Induction.{FormulaCases, formula_induction}

greatest-append : (ns ms : List ℕ) → greatest (ns ++ ms) ≡ max (greatest ns) (greatest ms)
greatest-append [] ms = omega arith
greatest-append (n ∷ ns) ms = omega (arith, greatest-append ns ms)

-- one item more
pub greatest-more : {A : Type 0} (f : A → ℕ) (items : List A) (i : ℕ) (item : A) →
    i < length items → item ≡ get_or items i item →
    greatest (map f (take (i + 1) items)) ≡ max (greatest (map f (take i items))) (f item)
greatest-more f items i item within is =
    ap (λ xs. greatest (map f xs)) (take_more items i item within)
    ∙ ap greatest (map-append f (take i items) (get_or items i item ∷ []))
    ∙ greatest-append (map f (take i items)) (f (get_or items i item) ∷ [])
    ∙ ap (λ n. max (greatest (map f (take i items))) (max n 0)) (ap f (sym is))
    ∙ omega arith

-- there are at least as many binders as nest
abbrev DepthWithin : Fof → Type 0
DepthWithin p = depth p ≤ binder_count p

parts_within : (parts : List Fof) → AllByRecursion DepthWithin parts →
    greatest (map depth parts) ≤ sum (map binder_count parts)
parts_within [] within = omega arith
parts_within (part ∷ parts) within = omega (
  arith,
  within.0,
  parts_within parts within.1,
  sum_by-cons (λ n. n) (binder_count part) (map binder_count parts),
)

cases : FormulaCases DepthWithin
cases = record {
  on_true = omega (arith, depth-true, binder_count-true);
  on_false = omega (arith, depth-false, binder_count-false);
  on_atom = λ p terms. omega (arith, depth-atom p terms, binder_count-atom p terms);
  on_equal = λ left right. omega (arith, depth-equal left right, binder_count-equal left right);
  on_not = λ a within. omega (arith, within, depth-not a, binder_count-not a);
  on_and = λ parts within.
      omega (arith, parts_within parts within, depth-and parts, binder_count-and parts);
  on_or = λ parts within.
      omega (arith, parts_within parts within, depth-or parts, binder_count-or parts);
  on_implies = λ a b within_a within_b.
      omega (arith, within_a, within_b, depth-implies a b, binder_count-implies a b);
  on_for_all = λ body within. omega (arith, within, depth-for_all body, binder_count-for_all body);
  on_exists = λ body within. omega (arith, within, depth-exists body, binder_count-exists body);
}

pub depth_within : (p : Fof) → depth p ≤ binder_count p
depth_within = formula_induction DepthWithin cases
