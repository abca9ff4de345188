-- Depth and number of binders: of the parts of a formula, and of one against the other.
use Rattle.std.specs.Prelude.{ℕ, zero, suc, ◌≡◌, ◌<◌, ◌≤◌, ◌+◌, max, List, [], ◌∷◌, ◌++◌, map, length, sum, take, get_or}
use Rattle.std.specs.List.{AllByRecursion}
use Rattle.std.proofs.Common.{sym, ap, ◌∙◌, subst, arith}
use Rattle.std.proofs.lemmas.List.{take_more, map-append}
use Rattle.std.proofs.lemmas.List.Sums.{sum_by-cons}
use Rattle.tf_core.specs.declared.formula.Formula.{Formula}
use Rattle.tf_core.specs.declared.nnf.Nnf.{Nnf}
use Rattle.tf_core.specs.Counts.{greatest, depth, normal_depth, binder_count, normal_binder_count}
use Rattle.tf_core.proofs.Counts.{depth-true, depth-false, depth-atom, depth-equal, depth-not, depth-and, depth-or, depth-implies, depth-if, depth-iff, depth-xor, depth-nand, depth-nor, depth-for_all, depth-exists, normal_depth-true, normal_depth-false, normal_depth-atom, normal_depth-equation, normal_depth-and, normal_depth-or, normal_depth-for_all, normal_depth-exists, binder_sum-true, binder_sum-false, binder_sum-atom, binder_sum-equal, binder_sum-not, binder_sum-and, binder_sum-or, binder_sum-implies, binder_sum-if, binder_sum-iff, binder_sum-xor, binder_sum-nand, binder_sum-nor, binder_sum-for_all, binder_sum-exists, normal_sum-true, normal_sum-false, normal_sum-atom, normal_sum-equation, normal_sum-and, normal_sum-or, normal_sum-for_all, normal_sum-exists}
use Rattle.tf_core.proofs.FormulaInduction.{FormulaCases, formula_induction, NnfCases, nnf_induction}

greatest-append : (ns ms : List ℕ) → greatest (ns ++ ms) ≡ max (greatest ns) (greatest ms)
greatest-append [] ms = omega arith
greatest-append (n ∷ ns) ms = omega (arith, greatest-append ns ms)

-- one item more
pub greatest-more : {A : Type 0} (f : A → ℕ) (items : List A) (i : ℕ) (item : A) →
    i < length items → item ≡ get_or items i item →
    greatest (map f (take (i + 1) items)) ≡ max (greatest (map f (take i items))) (f item)
greatest-more f items i item within is =
    ap (λ xs. greatest (map f xs)) (take_more items i item within)
    ∙ ap greatest (map-append f (take i items) (get_or items i item ∷ []))
    ∙ greatest-append (map f (take i items)) (f (get_or items i item) ∷ [])
    ∙ ap (λ n. max (greatest (map f (take i items))) (max n 0)) (ap f (sym is))
    ∙ omega arith

-- an item of a sum is no larger than the sum
pub at_most_sum : {A : Type 0} (f : A → ℕ) (items : List A) (i : ℕ) (item : A) →
    i < length items → item ≡ get_or items i item → f item ≤ sum (map f items)
at_most_sum {A} f items i item within is =
    subst (λ x. f x ≤ sum (map f items)) (sym is) (go items i within)
  where
    go : (xs : List A) (i : ℕ) → i < length xs → f (get_or xs i item) ≤ sum (map f xs)
    go [] i within = absurd (omega arith)
    go (x ∷ xs) zero within = omega (arith, sum_by-cons (λ n. n) (f x) (map f xs))
    go (x ∷ xs) (suc i) within =
        omega (arith, go xs i (omega arith), sum_by-cons (λ n. n) (f x) (map f xs))

-- there are at least as many binders as nest

greatest_within : {A : Type 0} (f g : A → ℕ) (items : List A) →
    AllByRecursion (λ item. f item ≤ g item) items → greatest (map f items) ≤ sum (map g items)
greatest_within f g [] within = omega arith
greatest_within f g (item ∷ items) within =
    omega (
      arith,
      within.0,
      greatest_within f g items within.1,
      sum_by-cons (λ n. n) (g item) (map g items),
    )

abbrev DepthWithin : Formula → Type 0
DepthWithin p = depth p ≤ binder_count p

cases : FormulaCases DepthWithin
cases = record {
  on_true = omega (arith, depth-true, binder_sum-true (λ ty. 1));
  on_false = omega (arith, depth-false, binder_sum-false (λ ty. 1));
  on_atom = λ f types terms. omega (arith, depth-atom f types terms, binder_sum-atom (λ ty. 1) f types terms);
  on_equal = λ ty left right. omega (arith, depth-equal ty left right, binder_sum-equal (λ ty. 1) ty left right);
  on_not = λ a within. omega (arith, within, depth-not a, binder_sum-not (λ ty. 1) a);
  on_and = λ parts within.
      omega (arith, greatest_within depth binder_count parts within, depth-and parts, binder_sum-and (λ ty. 1) parts);
  on_or = λ parts within.
      omega (arith, greatest_within depth binder_count parts within, depth-or parts, binder_sum-or (λ ty. 1) parts);
  on_implies = λ a b first second. omega (arith, first, second, depth-implies a b, binder_sum-implies (λ ty. 1) a b);
  on_if = λ a b first second. omega (arith, first, second, depth-if a b, binder_sum-if (λ ty. 1) a b);
  on_iff = λ a b first second. omega (arith, first, second, depth-iff a b, binder_sum-iff (λ ty. 1) a b);
  on_xor = λ a b first second. omega (arith, first, second, depth-xor a b, binder_sum-xor (λ ty. 1) a b);
  on_nand = λ a b first second. omega (arith, first, second, depth-nand a b, binder_sum-nand (λ ty. 1) a b);
  on_nor = λ a b first second. omega (arith, first, second, depth-nor a b, binder_sum-nor (λ ty. 1) a b);
  on_for_all = λ ty body within. omega (arith, within, depth-for_all ty body, binder_sum-for_all (λ ty. 1) ty body);
  on_exists = λ ty body within. omega (arith, within, depth-exists ty body, binder_sum-exists (λ ty. 1) ty body);
}

pub depth_within : (p : Formula) → depth p ≤ binder_count p
depth_within = formula_induction DepthWithin cases

abbrev NormalDepthWithin : Nnf → Type 0
NormalDepthWithin p = normal_depth p ≤ normal_binder_count p

normal_cases : NnfCases NormalDepthWithin
normal_cases = record {
  on_true = omega (arith, normal_depth-true, normal_sum-true 1 0);
  on_false = omega (arith, normal_depth-false, normal_sum-false 1 0);
  on_atom = λ positive f types terms.
      omega (arith, normal_depth-atom positive f types terms, normal_sum-atom 1 0 positive f types terms);
  on_equation = λ positive ty left right.
      omega (arith, normal_depth-equation positive ty left right, normal_sum-equation 1 0 positive ty left right);
  on_and = λ parts within.
      omega (arith, greatest_within normal_depth normal_binder_count parts within, normal_depth-and parts, normal_sum-and 1 0 parts);
  on_or = λ parts within.
      omega (arith, greatest_within normal_depth normal_binder_count parts within, normal_depth-or parts, normal_sum-or 1 0 parts);
  on_for_all = λ ty body within. omega (arith, within, normal_depth-for_all ty body, normal_sum-for_all 1 0 ty body);
  on_exists = λ ty body within. omega (arith, within, normal_depth-exists ty body, normal_sum-exists 1 0 ty body);
}

pub normal_depth_within : (p : Nnf) → normal_depth p ≤ normal_binder_count p
normal_depth_within = nnf_induction NormalDepthWithin normal_cases
