-- What one step over the words of a text says.
use Rattle.std.specs.Prelude.{◌≡◌, ℕ, ◌+◌, ◌-◌, List, [], ◌∷◌, length, take, drop}
use Rattle.std.specs.Prelude.{Option, Some, None, Result, Ok, Err}
use Rattle.tptp_words.specs.declared.word.Word.{Word}
use Rattle.tptp_words.specs.declared.word.WordError.{WordError}
use Rattle.tptp_words.specs.Text.{Placed}

-- the words that are left, and then why there is no further one
pub record Left : Type 0 where
  pub words : List Placed
  pub fault : Option WordError

-- this word, and then what is left
abbrev pub behind : Placed → Left → Left
behind w l = record { words = w ∷ l.words; fault = l.fault }

-- the kind of a placed word, the place of its first byte, and the place behind its last
abbrev pub span : Placed → Word
span p = record {
  kind = p.token.kind;
  from = p.from;
  to = p.from + length p.token.spelling;
}

-- the first word that is left, or why there is none, and then nothing changes
abbrev pub Yields : Left → Result (Option Word) WordError → Left → Type 0
Yields old (Ok (Some w)) new = (p : Placed) × (w ≡ span p) × (old ≡ behind p new)
Yields old (Ok None) new = (old.words ≡ []) × (old.fault ≡ None) × (old ≡ new)
Yields old (Err e) new = (old.words ≡ []) × (old.fault ≡ Some e) × (old ≡ new)

-- the word that has this span in the text
abbrev pub placed_in : List ℕ → Word → Placed
placed_in text w = record {
  token = record { kind = w.kind; spelling = take (w.to - w.from) (drop w.from text) };
  from = w.from;
}

-- each word's spelling is what the text has in its span
abbrev pub AllSpelled : List ℕ → List Placed → Type 0
AllSpelled text [] = Unit {0}
AllSpelled text (p ∷ ps) = (p ≡ placed_in text (span p)) × AllSpelled text ps
