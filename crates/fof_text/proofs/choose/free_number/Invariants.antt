use Rattle.std.proofs.Common.{◌≡◌, ◌≤◌, ◌<◌, ℕ, true}
use Rattle.std.specs.Prelude.{is_some}
use Rattle.fof_text.specs.Names as spec
use Rattle.fof_text.specs.Uses.{use_at}
use Rattle.fof_text.proofs.choose.free_number.Given as goal

abbrev pub invariant-loop-number : goal.invariant-loop-number
invariant-loop-number l =
    (j : ℕ) → l.from ≤ j → j < l.number → is_some (use_at l.uses (spec.numbered l.name j)) ≡ true
