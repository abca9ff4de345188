-- Words that are written with blanks are read back.
use Rattle.std.proofs.Common.{◌≡◌, ℕ, ◌+◌, ◌≤◌, Bool, true, not, List, [], ◌∷◌, ◌++◌, length, refl}
use Rattle.std.proofs.Common.{◌∙◌, ap, subst, arith, append_assoc, length-append}
use Rattle.std.specs.Prelude.{Option, None}
use Rattle.tptp_words.specs.declared.word.WordError.{WordError}
use Rattle.tptp_words.specs.Text.{Token, Placed, tokens, is_blank, AllPass, some_bytes, Spells}
use Rattle.tptp_words.specs.Text.{Gap, none, blank, IsText}
use Rattle.tptp_words.specs.Layout.{written, placed_from}
use Rattle.tptp_words.specs.Laws.{Stand, IsReadBack}
use Rattle.tptp_words.proofs.Gaps.{gap_first}
use Rattle.tptp_words.proofs.Lists.{spelled_some}
use Rattle.tptp_words.proofs.Longest.{State, Begin, Name, Digits, Money, Single, Double}
use Rattle.tptp_words.proofs.Longest.{SingleEscape, DoubleEscape, Bang, Tilde, Equals, Less, Done}
use Rattle.tptp_words.proofs.Longest.{Dead, step, run, lives, Ends, longest}

pub blanks : (g : List ℕ) {rest : List ℕ} → AllPass is_blank g → Gap (g ++ rest) rest
blanks [] h = none
blanks (b ∷ g) h = blank h.0 (blanks g h.1)

-- blanks before a text
pub blanks_first : (total : ℕ) (g text : List ℕ) (ws : List Placed) (fault : Option WordError)
    → AllPass is_blank g → IsText total text ws fault → IsText total (g ++ text) ws fault
blanks_first total g text ws fault h k = gap_first total ws fault (blanks g h) k

module _ (before after : Token → List ℕ) (blank_before : (w : Token) → AllPass is_blank (before w))
    (blank_after : (w : Token) → AllPass is_blank (after w)) where
  -- what is written from behind the blanks before a word, and from behind the word
  abbrev rest_of : Token → List Token → List ℕ
  rest_of w ws = after w ++ written before after ws

  -- words that stand each as the longest are read, with a text of so many bytes before them
  pub stand_reads : (total at : ℕ) (ws : List Token) → Stand before after ws
      → total ≡ at + length (written before after ws)
      → IsText total (written before after ws) (placed_from before after at ws) None
  stand_reads total at [] h size = ([], none, refl)
  stand_reads total at (w ∷ ws) h size = (
    w.spelling ++ rest_of w ws,
    rest_of w ws,
    blanks (before w) (blank_before w),
    h.0,
    omega (arith, size, whole, word),
    blanks_first total (after w) (written before after ws) _ None (blank_after w)
        (stand_reads total (at + length (before w) + length w.spelling + length (after w)) ws h.1
        (omega (arith, size, whole, word, rest))),
  )
    where
      whole : length (written before after (w ∷ ws))
          ≡ length (before w) + length (w.spelling ++ rest_of w ws)
      whole = length-append (before w) (w.spelling ++ rest_of w ws)

      word : length (w.spelling ++ rest_of w ws) ≡ length w.spelling + length (rest_of w ws)
      word = length-append w.spelling (rest_of w ws)

      rest : length (rest_of w ws) ≡ length (after w) + length (written before after ws)
      rest = length-append (after w) (written before after ws)

  -- ---- by the machine: each word is spelled, and ends where it is written to end

  abbrev pub Joined : List Token → Type 0
  Joined [] = Unit {0}
  Joined (w ∷ ws) =
      Spells w.kind w.spelling × Ends (run Begin w.spelling) (after w ++ written before after ws)
      × Joined ws

  pub joined_stand : (ws : List Token) → Joined ws → Stand before after ws
  joined_stand [] h = tt
  joined_stand (w ∷ ws) h = (longest w (rest_of w ws) h.0 h.1, joined_stand ws h.2)

  -- the words of a text of `total` bytes of which `at` stand before them
  pub reads : (total at : ℕ) (ws : List Token) → Joined ws
      → total ≡ at + length (written before after ws)
      → IsText total (written before after ws) (placed_from before after at ws) None
  reads total at ws h size = stand_reads total at ws (joined_stand ws h) size

  -- ---- by a test on neighbouring words

  -- no longer word goes on with the first of the bytes
  abbrev pub ends_at : State → List ℕ → Bool
  ends_at q [] = true
  ends_at q (b ∷ bs) = not (lives (step q b))

  -- w may stand right before v
  abbrev pub meets : Token → Token → Bool
  meets w v = ends_at (run Begin w.spelling) (after w ++ (before v ++ v.spelling))

  abbrev pub MeetsFirst : Token → List Token → Type 0
  MeetsFirst w [] = ends_at (run Begin w.spelling) (after w) ≡ true
  MeetsFirst w (v ∷ ws) = meets w v ≡ true

  abbrev pub AllMeet : List Token → Type 0
  AllMeet [] = Unit {0}
  AllMeet (w ∷ ws) = Spells w.kind w.spelling × MeetsFirst w ws × AllMeet ws

  died : (q : State) → not (lives q) ≡ true → q ≡ Dead
  died Begin h = cc h
  died Name h = cc h
  died Digits h = cc h
  died Money h = cc h
  died Single h = cc h
  died Double h = cc h
  died SingleEscape h = cc h
  died DoubleEscape h = cc h
  died Bang h = cc h
  died Tilde h = cc h
  died Equals h = cc h
  died Less h = cc h
  died Done h = cc h
  died Dead h = refl

  ends_before : (q : State) (u v : List ℕ) → some_bytes u ≡ true → ends_at q u ≡ true
      → Ends q (u ++ v)
  ends_before q [] v s h = cc s
  ends_before q (b ∷ u) v s h = died (step q b) h

  some_behind : (u v : List ℕ) → some_bytes v ≡ true → some_bytes (u ++ v) ≡ true
  some_behind [] v h = h
  some_behind (b ∷ u) v h = refl

  some_spelled : (w : Token) → Spells w.kind w.spelling → some_bytes w.spelling ≡ true
  some_spelled w h = go w.spelling (spelled_some w.kind w.spelling h)
    where
      go : (s : List ℕ) → 1 ≤ length s → some_bytes s ≡ true
      go [] k = absurd (omega (arith, k))
      go (b ∷ s) k = refl

  -- what ends a word in front of its neighbour, with the neighbour's text behind it
  moved : (w v : Token) (ws : List Token) → Ends (run Begin w.spelling)
      ((after w ++ (before v ++ v.spelling)) ++ (after v ++ written before after ws))
      → Ends (run Begin w.spelling) (after w ++ written before after (v ∷ ws))
  moved w v ws h =
      subst (Ends (run Begin w.spelling))
      (append_assoc (after w) (before v ++ v.spelling) (rest_of v ws)
      ∙ ap (λ z. after w ++ z) (append_assoc (before v) v.spelling (rest_of v ws)))
      h

  all_meet : (ws : List Token) → AllMeet ws → Joined ws
  all_meet [] h = tt
  all_meet (w ∷ []) h = (h.0, last (run Begin w.spelling) (after w) h.1, tt)
    where
      last : (q : State) (u : List ℕ) → ends_at q u ≡ true → Ends q (u ++ [])
      last q [] h = tt
      last q (b ∷ u) h = died (step q b) h
  all_meet (w ∷ v ∷ ws) h =
      let some = some_behind (after w) (before v ++ v.spelling)
      (some_behind (before v) v.spelling (some_spelled v h.2.0)) in (
        h.0,
        moved w v ws (ends_before (run Begin w.spelling) (after w ++ (before v ++ v.spelling))
            (rest_of v ws) some h.1),
        all_meet (v ∷ ws) h.2,
      )

  -- words are read back where each is spelled and each neighbour passes the test
  pub reads_back : (ws : List Token) → AllMeet ws → IsReadBack before after ws
  reads_back ws h = reads (length (written before after ws)) 0 ws (all_meet ws h) (omega arith)

-- the words that were written, without their places
pub tokens-placed_from : (before after : Token → List ℕ) (at : ℕ) (ws : List Token)
    → tokens (placed_from before after at ws) ≡ ws
tokens-placed_from before after at [] = refl
tokens-placed_from before after at (w ∷ ws) =
    ap (λ z. w ∷ z)
    (tokens-placed_from before after
    (at + length (before w) + length w.spelling + length (after w)) ws)
