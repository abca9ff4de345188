-- What holds of each stated formula of a sound problem.
use Rattle.std.specs.Prelude.{ℕ, zero, suc, ◌≡◌, ◌<◌, ◌^◌, List, [], ◌∷◌, length, get_or}
use Rattle.std.specs.List.{AllByRecursion}
use Rattle.std.proofs.Common.{sym, subst, arith}
use Rattle.tf_core.specs.declared.signature.Signature.{Signature}
use Rattle.tf_core.specs.declared.problem.Stated.{Stated}
use Rattle.tf_core.specs.declared.normal.NormalFormula.{NormalFormula}
use Rattle.tf_core.specs.Counts.{binder_count, normal_binder_count}
use Rattle.tf_core.specs.Sound.{IsSoundStated, IsSoundFormula}

-- what holds of each item holds of the one at an index
pub each_at : {A : Type 0} (P : A → Type 0) (items : List A) (i : ℕ) (item : A) → i < length items →
    item ≡ get_or items i item → AllByRecursion P items → P item
each_at {A} P items i item within is all = subst P (sym is) (go items i within all)
  where
    go : (xs : List A) (i : ℕ) → i < length xs → AllByRecursion P xs → P (get_or xs i item)
    go [] i within all = absurd (omega arith)
    go (x ∷ xs) zero within all = all.0
    go (x ∷ xs) (suc i) within all = go xs i (omega arith) all.1

pub binders_at : (g : Signature) (formulas : List Stated) (i : ℕ) (formula : Stated) →
    i < length formulas → formula ≡ get_or formulas i formula →
    AllByRecursion (IsSoundStated g) formulas → binder_count formula.body < 2 ^ 27
binders_at g formulas i formula within is sound =
    (each_at (IsSoundStated g) formulas i formula within is sound).binders

pub normal_binders_at : (g : Signature) (formulas : List NormalFormula) (i : ℕ) (formula : NormalFormula) →
    i < length formulas → formula ≡ get_or formulas i formula →
    AllByRecursion (IsSoundFormula g) formulas → normal_binder_count formula.body < 2 ^ 28
normal_binders_at g formulas i formula within is sound =
    (each_at (IsSoundFormula g) formulas i formula within is sound).binders
