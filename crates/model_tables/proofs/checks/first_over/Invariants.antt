use Rattle.std.proofs.Common.{◌≡◌, ℕ, ◌+◌, drop}
use Rattle.model_tables.specs.Faults.{first_over}
use Rattle.model_tables.proofs.checks.first_over.Given as goal

-- none of the entries so far is over the bound
abbrev pub invariant-loop-entry : goal.invariant-loop-entry
invariant-loop-entry l = (i : ℕ) → first_over (λ _. l.bound) i l.entries
    ≡ first_over (λ _. l.bound) (i + l.entry-index) (drop l.entry-index l.entries)
