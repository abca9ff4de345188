use Rattle.std.proofs.Common.{◌≡◌, drop}
use Rattle.model_tables.specs.Held.{texts_of, first_empty}
use Rattle.model_tables.proofs.index.Index.first_empty.Given as goal

-- the slots so far are filled
abbrev pub invariant-loop-i : goal.invariant-loop-i
invariant-loop-i l =
    first_empty l.self l.slots ≡ first_empty (drop l.i l.self) (drop l.i l.slots)
