use Rattle.std.proofs.Common.{◌≡◌, ℕ, [], ◌∷◌, length, Result}
use Rattle.model_tables.specs.declared.error.TableError.{TableError}
use Rattle.model_tables.specs.Grammar.{Table}
use Rattle.model_tables.specs.Untyped.{untyped}
use Rattle.model_tables.specs.Held.{empty_slots}
use Rattle.model_tables.specs.ReadUntyped.{IsReadSoFar}
use Rattle.model_tables.proofs.untyped.items.Given as goal

-- what held before any item holds behind each
abbrev pub invariant-items : goal.invariant-items
invariant-items l = (whole : Result Table TableError)
    → IsReadSoFar (untyped l.symbols.signature.now l.symbols.names) l.total whole
    (l.symbols.size ∷ []) l.fn.slots l.fn.reader
    → IsReadSoFar (untyped l.symbols.signature.now l.symbols.names) l.total whole
    (l.symbols.size ∷ []) l.slots l.reader

abbrev pub decreases-items : goal.decreases-items
decreases-items l = empty_slots l.slots
