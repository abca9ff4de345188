-- What the definitions of covers promise one another.
use Rattle.std.specs.Prelude.{ℕ, ◌≡◌, ◌↔◌, false, slice_index_or, Some, IsTrue}
use Rattle.tf_core.specs.declared.signature.Symbol.{Symbol}
use Rattle.tf_naked.specs.Covers.{cover_of, covers}

-- the argument places that are marked are exactly the covers of parameters
abbrev pub MarkedPlacesAreCovers : Type 0
MarkedPlacesAreCovers = (symbol : Symbol) (i : ℕ) →
    IsTrue (slice_index_or (covers symbol) i false)
    ↔ ((parameter : ℕ) × (cover_of symbol parameter ≡ Some i))
