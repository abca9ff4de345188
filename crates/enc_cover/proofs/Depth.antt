-- How deep binders nest in the parts of a formula.
use Rattle.std.specs.Prelude.{ℕ, zero, suc, ◌<◌, ◌≤◌, ◌≡◌, List, [], ◌∷◌, length, map, get_or}
use Rattle.std.proofs.Common.{sym, subst, arith}
use Rattle.tf_core.specs.declared.nnf.Nnf.{Nnf}
use Rattle.tf_core.specs.Counts.{normal_depth, greatest}

-- a part is nested no deeper than the deepest
pub within_greatest : (parts : List Nnf) (i : ℕ) (part : Nnf) → i < length parts →
    part ≡ get_or parts i part → normal_depth part ≤ greatest (map normal_depth parts)
within_greatest parts i part within is =
    subst (λ p. normal_depth p ≤ greatest (map normal_depth parts)) (sym is) (go parts i within)
  where
    go : (xs : List Nnf) (i : ℕ) → i < length xs →
        normal_depth (get_or xs i part) ≤ greatest (map normal_depth xs)
    go [] i within = absurd (omega arith)
    go (x ∷ xs) zero within = omega arith
    go (x ∷ xs) (suc i) within = omega (arith, go xs i (omega arith))
