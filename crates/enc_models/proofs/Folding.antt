-- The place of a tuple of numbers below one bound, as it is found from the left.
use Rattle.std.specs.Prelude.{ℕ, ◌≡◌, ◌<◌, ◌≤◌, ◌+◌, ◌*◌, List, length, replicate, take, get_or}
use Rattle.std.proofs.Common.{sym, ◌∙◌, arith}
use Rattle.std.proofs.lemmas.List.{get_or-replicate, length-replicate}
use Rattle.enc_base.specs.Tables.{EachBelow, tuple_count, place}
use Rattle.enc_base.specs.Tuples.{IsPlaced}
use Rattle.enc_base.proofs.Placing.{place-step, place-fits, place-whole}

module _ (count size : ℕ) (values : List ℕ) (below : EachBelow (replicate count size) values) where
  module _ (i at v : ℕ) (within : i < count) (same : v ≡ get_or values i 0)
      (so_far : at ≡ place (take i (replicate count size)) (take i values))
    where
      pub fold-step : at * size + v ≡ place (take (i + 1) (replicate count size))
          (take (i + 1) values)
      fold-step =
          place-step (replicate count size) values i size v at below
          (omega (arith, within, length-replicate count size))
          (sym (get_or-replicate count i size 0 within)) same so_far

      pub fold-fits : at * size + v < tuple_count (replicate count size)
      fold-fits =
          place-fits (replicate count size) values i size v at below
          (omega (arith, within, length-replicate count size))
          (sym (get_or-replicate count i size 0 within)) same so_far

  pub fold-placed : (i at : ℕ) → count ≤ i →
      at ≡ place (take i (replicate count size)) (take i values) →
      IsPlaced (replicate count size) values at
  fold-placed i at whole so_far = record {
    place_is = so_far
        ∙ place-whole (replicate count size) values i below
        (omega (arith, whole, length-replicate count size));
    below = below;
  }
