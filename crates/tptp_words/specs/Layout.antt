-- How words are written.
use Rattle.std.specs.Prelude.{ℕ, ◌+◌, List, [], ◌∷◌, ◌++◌, length}
use Rattle.tptp_words.specs.Text.{Token, Placed}

-- the words, each with what stands before and after it
abbrev pub written : (Token → List ℕ) → (Token → List ℕ) → List Token → List ℕ
written before after [] = []
written before after (w ∷ ws) =
    before w ++ (w.spelling ++ (after w ++ written before after ws))

-- where the words stand when they are written from this place on
abbrev pub placed_from : (Token → List ℕ) → (Token → List ℕ) → ℕ → List Token → List Placed
placed_from before after at [] = []
placed_from before after at (w ∷ ws) =
    record { token = w; from = at + length (before w) }
    ∷ placed_from before after
    (at + length (before w) + length w.spelling + length (after w)) ws
