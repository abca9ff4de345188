use Rattle.std.proofs.Common.{◌≡◌, take}
use Rattle.model_tables.specs.Held.{texts_of}
use Rattle.model_tables.proofs.untyped.texts.Given as goal

abbrev pub invariant-loop-name : goal.invariant-loop-name
invariant-loop-name l = texts_of l.texts.items ≡ take l.name-index l.names
