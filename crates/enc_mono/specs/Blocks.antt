-- Words of the contracts by which blocks are found in tables.
use Rattle.std.specs.Prelude.{ℕ, ◌≡◌, ◌<◌, List, [], length, replicate, get_or, slice_get, Some}
use Rattle.enc_base.specs.Tables.{sum_below}
use Rattle.enc_base.specs.Tuples.{IsPlaced}
use Rattle.tf_core.specs.declared.signature.Symbol.{Symbol}
use Rattle.tf_core.specs.TypedTables.{TypedTables}
use Rattle.tf_models.specs.Fit.{block_count, length_at}
use Rattle.enc_mono.specs.declared.instances.Origin.{Origin}
use Rattle.enc_mono.specs.Restricted.{origin_members}

-- the number of the tuple of members that the types of a symbol instance are
abbrev pub IsNumberOf : TypedTables → Origin → ℕ → Type 0
IsNumberOf t origin =
    IsPlaced (replicate (length origin.types) (length t.sizes)) (origin_members t origin)

-- where the blocks of a symbol begin in its table
pub record AreStarts (t : TypedTables) (symbol : Symbol) (starts : List ℕ) : Type 0 where
  pub count : length starts ≡ block_count t symbol
  pub at : (number : ℕ) → number < length starts →
      get_or starts number 0 ≡ sum_below number (length_at t symbol)

-- the same of each symbol
pub record AreAllStarts (t : TypedTables) (symbols : List Symbol) (starts : List (List ℕ)) :
    Type 0 where
  pub count : length starts ≡ length symbols
  pub at : (f : ℕ) (symbol : Symbol) → slice_get symbols f ≡ Some symbol →
      AreStarts t symbol (get_or starts f [])
