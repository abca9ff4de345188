use Rattle.std.proofs.Common.{take}
use Rattle.model_tables.specs.Held.{ArePlaces, texts_of}
use Rattle.model_tables.proofs.index.Index.new.Given as goal

-- the places of the names so far
abbrev pub invariant-loop-i : goal.invariant-loop-i
invariant-loop-i l = ArePlaces (texts_of (take l.i l.name-items)) l.places
