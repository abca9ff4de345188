-- What the collapsed structure gives for the marked symbols, and how large its domain is.
use Rattle.std.specs.Prelude.{ℕ, zero, suc, ◌+◌, ◌-◌, ◌<◌, ◌≤◌, ◌≡◌, List, [], ◌∷◌, ◌++◌, map, length, cond, drop, slice_index, slice_get, Some, IsTrue}
use Rattle.std.specs.List.{AllByRecursion, list_any}
use Rattle.std.proofs.Common.{ap, ◌∙◌, arith, ⊎_elim}
use Rattle.std.proofs.lemmas.Bool.{lt-ltb, le-ltb, or_cases, false≢true}
use Rattle.tf_core.specs.declared.ty.Ty.{Ty}
use Rattle.tf_core.specs.declared.nnf.Nnf.{Nnf}
use Rattle.tf_core.specs.declared.signature.Symbol.{Symbol}
use Rattle.tf_core.specs.declared.normal.NormalFormula.{NormalFormula}
use Rattle.tf_core.specs.declared.normal.Normal.{Normal}
use Rattle.tf_core.specs.Types.{same_type}
use Rattle.tf_core.specs.Sorts.{sorts}
use Rattle.tf_core.specs.Typing.{IsNormal}
use Rattle.tf_core.specs.Structures.{Typed}
use Rattle.tf_core.specs.Models.{IsNormalModel}
use Rattle.tf_core.proofs.Typed.{same_type-says}
use Rattle.tf_naked.specs.Naked.{is_only}
use Rattle.fof_models.specs.Structures.{Untyped}
use Rattle.fof_models.specs.Models.{AreSatisfied}
use Rattle.enc_marks.specs.Choices.{Choices}
use Rattle.enc_marks.specs.Encoded.{all_numbers, translation}
use Rattle.enc_laws.specs.MergedStructure.{kept_count}
use Rattle.enc_laws.specs.CollapsedStructure.{greatest, sort_size, collapsed_symbol, collapsed_constructor, collapsed_sort_mark, collapsed_other, collapsed_at, domain_size, collapsed}
use Rattle.enc_laws.specs.Collapses.{collapsing, Collapses, CollapsesAll}
use Rattle.enc_laws.proofs.MergedStructure.{slice_get-past, take-front, drop-front}
use Rattle.enc_laws.proofs.Collapsed.{corresponds, forward, forward_axioms}
use Rattle.enc_laws.proofs.ProblemForward.{translation_forward}

-- ---- the greatest of some sizes

pub greatest-above : (sizes : List ℕ) (m : ℕ) → slice_index sizes m ≤ greatest sizes
greatest-above [] m = omega arith
greatest-above (size ∷ sizes) zero = omega arith
greatest-above (size ∷ sizes) (suc m) = let rest = greatest-above sizes m in omega (arith, rest)

pub greatest-sort : (s : Typed) (types : List Ty) (ty : Ty) →
    IsTrue (list_any (same_type ty) types) → sort_size s ty ≤ greatest (map (sort_size s) types)
greatest-sort s [] ty is = absurd (false≢true is)
greatest-sort s (first ∷ types) ty is =
    ⊎_elim
    (λ here.
    let same = ap (sort_size s) (same_type-says ty first here) in
    omega (arith, same))
    (λ there. let rest = greatest-sort s types ty there in omega (arith, rest))
    (or_cases (same_type ty first) (list_any (same_type ty) types) is)

pub greatest-only : (s : Typed) (types : List Ty) (ty : Ty) → IsTrue (is_only ty types) →
    greatest (map (sort_size s) types) ≤ sort_size s ty
greatest-only s [] ty only = absurd (false≢true only)
greatest-only s (sort ∷ []) ty only =
    let same = ap (sort_size s) (same_type-says ty sort only) in
    omega (arith, same)
greatest-only s (sort ∷ other ∷ types) ty only = absurd (false≢true only)

-- ---- what stands at each number

module _ (c : Choices) (normal : Normal) (s : Typed) where
  pub collapsed-symbol : (f : ℕ) (symbol : Symbol) (kept values : List ℕ) →
      slice_get normal.signature.symbols f ≡ Some symbol → length kept ≡ kept_count c symbol →
      (collapsed c normal s).symbol_at f (kept ++ values)
      ≡ collapsed_symbol s (domain_size c normal s) f symbol kept values
  collapsed-symbol f symbol kept values at all =
      let size : ℕ = domain_size c normal s in
      ap (λ o. collapsed_at c normal s f o (kept ++ values)) at
      ∙ ap (λ y. collapsed_symbol s size f symbol y (drop (kept_count c symbol) (kept ++ values)))
      (take-front kept values (kept_count c symbol) all)
      ∙ ap (λ y. collapsed_symbol s size f symbol kept y)
      (drop-front kept values (kept_count c symbol) all)

  collapsed-other : (i : ℕ) (values : List ℕ) →
      (collapsed c normal s).symbol_at (length normal.signature.symbols + i) values
      ≡ collapsed_other c normal s i values
  collapsed-other i values =
      let symbols : ℕ = length normal.signature.symbols in
      let e : symbols + i - symbols ≡ i = omega arith in
      ap (λ o. collapsed_at c normal s (symbols + i) o values)
      (slice_get-past normal.signature.symbols i)
      ∙ ap (λ y. collapsed_other c normal s y values) e

  pub collapsed-constructor : (i : ℕ) (values : List ℕ) →
      i < length normal.signature.constructors →
      (collapsed c normal s).symbol_at (length normal.signature.symbols + i) values
      ≡ collapsed_constructor c.marking s i values
  collapsed-constructor i values within =
      let count : ℕ = length normal.signature.constructors in
      collapsed-other i values
      ∙ ap (λ w. cond w (collapsed_constructor c.marking s i values)
      (collapsed_sort_mark c normal s (i - count) values)) (lt-ltb i count within)

  pub collapsed-mark : (number : ℕ) (values : List ℕ) →
      (collapsed c normal s).symbol_at
      (length normal.signature.symbols + length normal.signature.constructors + number) values
      ≡ collapsed_sort_mark c normal s number values
  collapsed-mark number values =
      let symbols : ℕ = length normal.signature.symbols in
      let count : ℕ = length normal.signature.constructors in
      let apart : symbols + count + number ≡ symbols + (count + number) = omega arith in
      let e : count + number - count ≡ number = omega arith in
      ap (λ x. (collapsed c normal s).symbol_at x values) apart
      ∙ collapsed-other (count + number) values
      ∙ ap (λ w. cond w (collapsed_constructor c.marking s (count + number) values)
      (collapsed_sort_mark c normal s (count + number - count) values))
      (le-ltb (count + number) count (omega arith))
      ∙ ap (λ y. collapsed_sort_mark c normal s y values) e

-- ---- the translation is true

module _ (c : Choices) (normal : Normal) (s : Typed) (j : Untyped) (member : ℕ → ℕ → Type 0)
    (good : Ty → Type 0) (ok : Nnf → Type 0) where
  pub collapsing_satisfies : IsNormal normal → IsNormalModel normal s →
      Collapses c (all_numbers normal) normal.signature s j member good ok →
      CollapsesAll c (all_numbers normal) normal.signature s j member good →
      AllByRecursion (λ (formula : NormalFormula). ok formula.body) normal.formulas →
      AllByRecursion good (sorts normal) → AreSatisfied j (translation c normal)
  collapsing_satisfies sound model has more holds goods =
      translation_forward c normal s j (collapsing s j member good) sound.signature
      (corresponds c (all_numbers normal) normal.signature s j member good ok sound.signature
      model.structure has)
      (forward_axioms c (all_numbers normal) normal.signature s j member good ok sound.signature
      model.structure has more)
      ok
      (forward c (all_numbers normal) normal.signature s j member good ok sound.signature
      model.structure has)
      sound.formulas holds goods model.formulas
