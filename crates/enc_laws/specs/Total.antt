-- Untyped structures that have tables for all marked symbols.
use Rattle.std.specs.Prelude.{ℕ, ◌<◌, ◌≡◌, List, [], ◌∷◌, slice_get, Some, None}
use Rattle.tf_core.specs.declared.signature.Symbol.{Symbol}
use Rattle.tf_core.specs.declared.normal.Normal.{Normal}
use Rattle.fof_models.specs.Structures.{Untyped}
use Rattle.enc_marks.specs.declared.choices.Binding.TheVariants.{ByTag}
use Rattle.enc_marks.specs.Choices.{Choices}
use Rattle.enc_marks.specs.Encoded.{all_numbers}
use Rattle.enc_laws.specs.Lifted.{IsClosed}

-- Its tables are in range: constructors and functions give numbers of the domain, a tag does for
-- each number of the domain, and predicates give 0 or 1.
pub record IsTotal (c : Choices) (normal : Normal) (j : Untyped) : Type 0 where
  pub closed : IsClosed (all_numbers normal) normal.signature j
  pub tags : c.binding ≡ ByTag → (u v : ℕ) → v < j.size →
      j.symbol_at (all_numbers normal).shared (u ∷ v ∷ []) < j.size
  pub predicates : (f : ℕ) (symbol : Symbol) (values : List ℕ) →
      slice_get normal.signature.symbols f ≡ Some symbol → symbol.result ≡ None →
      j.symbol_at f values < 2
