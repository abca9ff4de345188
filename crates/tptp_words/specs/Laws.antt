-- What the definitions of words and texts promise.
use Rattle.std.specs.Prelude.{◌≡◌, ℕ, true, List, [], ◌∷◌, ◌++◌, length, Option, None}
use Rattle.tptp_words.specs.declared.word.WordError.{WordError}
use Rattle.tptp_words.specs.Text.{Token, Placed, is_blank, AllPass, some_bytes, Spells, IsLongest}
use Rattle.tptp_words.specs.Text.{IsText}
use Rattle.tptp_words.specs.Layout.{written, placed_from}

-- a text has at most one list of words, and ends in at most one way
abbrev pub OneList : Type 0
OneList = (total : ℕ) (text : List ℕ) (ws vs : List Placed) (f g : Option WordError)
    → IsText total text ws f → IsText total text vs g → (ws ≡ vs) × (f ≡ g)

-- what is written before and after words is blank
abbrev pub IsBlankLayout : (Token → List ℕ) → (Token → List ℕ) → Type 0
IsBlankLayout before after =
    ((w : Token) → AllPass is_blank (before w)) × ((w : Token) → AllPass is_blank (after w))

-- each word is the longest at its place in what is written
abbrev pub Stand : (Token → List ℕ) → (Token → List ℕ) → List Token → Type 0
Stand before after [] = Unit {0}
Stand before after (w ∷ ws) =
    IsLongest (w.spelling ++ (after w ++ written before after ws)) w
    (after w ++ written before after ws)
    × Stand before after ws

-- each word is spelled as its kind wants it, and at least one blank stands between neighbours
abbrev pub Spaced : (Token → List ℕ) → (Token → List ℕ) → List Token → Type 0
Spaced before after [] = Unit {0}
Spaced before after (w ∷ []) = Spells w.kind w.spelling
Spaced before after (w ∷ v ∷ ws) =
    Spells w.kind w.spelling × (some_bytes (after w ++ before v) ≡ true)
    × Spaced before after (v ∷ ws)

-- the text that is written has these words, each where it was written, and no error
abbrev pub IsReadBack : (Token → List ℕ) → (Token → List ℕ) → List Token → Type 0
IsReadBack before after ws =
    IsText (length (written before after ws)) (written before after ws)
    (placed_from before after 0 ws) None

-- words that are written with blanks between them are read back
abbrev pub WrittenWordsAreRead : Type 0
WrittenWordsAreRead = (before after : Token → List ℕ) → IsBlankLayout before after
    → (ws : List Token) → Stand before after ws → IsReadBack before after ws

-- so are words of which each is spelled, and no two stand side by side without a blank
abbrev pub SpacedWordsAreRead : Type 0
SpacedWordsAreRead = (before after : Token → List ℕ) → IsBlankLayout before after
    → (ws : List Token) → Spaced before after ws → IsReadBack before after ws
