-- Tuples of numbers, each below a bound of its own, in lexicographic order.
use Rattle.std.specs.Prelude.{ℕ, zero, suc, ◌≡◌, ◌+◌, ◌/◌, ◌%◌, List, [], ◌∷◌, replicate}
use Rattle.enc_base.specs.Tables.{EachBelow, tuple_count, place}

-- the tuple behind another
pub record IsNext (bounds before after : List ℕ) : Type 0 where
  pub below : EachBelow bounds after
  pub place_is : place bounds after ≡ place bounds before + 1

-- the tuple behind which there is none
abbrev pub IsLast : List ℕ → List ℕ → Type 0
IsLast bounds values = place bounds values + 1 ≡ tuple_count bounds

-- so many numbers below bounds, and the place of their tuple
pub record IsPlaced (bounds values : List ℕ) (at : ℕ) : Type 0 where
  pub place_is : at ≡ place bounds values
  pub below : EachBelow bounds values

-- of the tuples of so many numbers below one bound, that before which so many others stand
abbrev pub tuple_at : ℕ → ℕ → ℕ → List ℕ
tuple_at bound zero number = []
tuple_at bound (suc count) number =
    number / tuple_count (replicate count bound)
    ∷ tuple_at bound count (number % tuple_count (replicate count bound))
