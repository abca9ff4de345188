-- Which tuples of members are tried where a formula's truth for all of them is asked.
use Rattle.std.specs.Prelude.{ℕ, zero, suc, ◌≡◌, ◌<◌, ◌≤◌, ◌-◌, Bool, true, false, cond, List, [], ◌∷◌, length}
use Rattle.enc_base.specs.Tables.{EachBelow}
use Rattle.enc_base.specs.Tuples.{IsNext, IsLast}
use Rattle.tf_core.specs.declared.formula.Formula.{Formula}
use Rattle.tf_core.specs.Occurrences.{occurs_in}

-- the bounds of tuples in which only the parts at some indices vary, and all others are 0
abbrev pub bounds_where : ℕ → (ℕ → Bool) → ℕ → List ℕ
bounds_where bound varies zero = []
bounds_where bound varies (suc count) =
    cond (varies 0) bound 1 ∷ bounds_where bound (λ i. varies (suc i)) count

-- one more than the greatest number below a count that passes a test, or 0
pub record IsUsed (test : ℕ → Bool) (count used : ℕ) : Type 0 where
  pub within : used ≤ count
  pub last : 0 < used → test (used - 1) ≡ true
  pub none : (i : ℕ) → used ≤ i → i < count → test i ≡ false

-- the bounds of the tuples that are tried: a variable that doesn't occur has the first member
abbrev pub tried : ℕ → Formula → ℕ → List ℕ
tried bound formula count = bounds_where bound (λ i. occurs_in i formula) count

-- the members are tried; others are the next that are; or there are none behind them

abbrev pub AreTried : ℕ → Formula → List ℕ → Type 0
AreTried bound formula members = EachBelow (tried bound formula (length members)) members

abbrev pub AreTriedNext : ℕ → Formula → List ℕ → List ℕ → Type 0
AreTriedNext bound formula before after =
    IsNext (tried bound formula (length before)) before after

abbrev pub AreTriedLast : ℕ → Formula → List ℕ → Type 0
AreTriedLast bound formula members = IsLast (tried bound formula (length members)) members

-- one more than the greatest type variable below a count that occurs in a formula, or 0
abbrev pub AreUsed : Formula → ℕ → ℕ → Type 0
AreUsed formula count used = IsUsed (λ i. occurs_in i formula) count used
