-- Sets of parameters, and how often parameters occur.
use Rattle.std.specs.Prelude.{ℕ, zero, suc, Bool, List, [], ◌∷◌, cond, eqb}
use Rattle.std.specs.List.{count_by}

-- a bound for each parameter: all members inside a set, and outside it the first alone
abbrev pub bounds_of : ℕ → (ℕ → Bool) → ℕ → List ℕ
bounds_of members among zero = []
bounds_of members among (suc parameters) =
    cond (among 0) members 1 ∷ bounds_of members (λ i. among (suc i)) parameters

-- how often a parameter occurs among variables
abbrev pub uses_of : List ℕ → ℕ → ℕ
uses_of variables i = count_by (eqb i) variables
