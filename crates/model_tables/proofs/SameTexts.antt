-- When two texts are the same.
use Rattle.std.proofs.Common.{◌≡◌, ℕ, List, [], ◌∷◌, Bool, true, false, ◌&&◌, refl}
use Rattle.std.specs.Prelude.{if◌then◌else◌, eqb}
use lib.Pointwise.{pointwise}
use Rattle.tptp_words.specs.Words.{same}

-- byte by byte
pub pointwise-same : (s m : List ℕ) → pointwise eqb s m ≡ same s m
pointwise-same [] [] = refl
pointwise-same [] (b ∷ m) = refl
pointwise-same (a ∷ s) [] = refl
pointwise-same (a ∷ s) (b ∷ m) = go (eqb a b) (pointwise-same s m)
  where
    go : (t : Bool) → pointwise eqb s m ≡ same s m
        → (t && pointwise eqb s m) ≡ (if t then same s m else false)
    go true e = e
    go false e = refl
