-- Gaps: one after another, and what they leave.
use Rattle.std.proofs.Common.{◌≡◌, ℕ, ◌<◌, Bool, true, false, ◌||◌, ◌&&◌, ◌==◌, List, [], ◌∷◌, ◌++◌}
use Rattle.std.proofs.Common.{length, slice_index, refl, sym, ◌∙◌, ap, arith, append_assoc}
use Rattle.std.proofs.Common.{append-nil}
use Rattle.std.specs.Prelude.{Option}
use Rattle.tptp_words.specs.declared.word.WordError.{WordError}
use Rattle.tptp_words.specs.Text.{not_feed, AllPass, percent, slash, star, line_feed, begins_gap}
use Rattle.tptp_words.specs.Text.{Placed, Gap, none, blank, comment, last_comment, block, IsText}

pub gap_append : {text middle rest : List ℕ} → Gap text middle → Gap middle rest → Gap text rest
gap_append none k = k
gap_append (blank e g) k = blank e (gap_append g k)
gap_append (comment body h g) k = comment body h (gap_append g k)
gap_append (last_comment body h) k = ends body h k
  where
    ends : (body : List ℕ) → AllPass not_feed body → {rest : List ℕ} → Gap [] rest
        → Gap (percent ∷ body) rest
    ends body h none = last_comment body h
gap_append (block body h g) k = block body h (gap_append g k)

-- a gap in front of a text leaves its words
pub gap_first : (total : ℕ) {text rest : List ℕ} (ws : List Placed) (fault : Option WordError)
    → Gap text rest → IsText total rest ws fault → IsText total text ws fault
gap_first total [] fault g (start, k, stops) = (start, gap_append g k, stops)
gap_first total (w ∷ ws) fault g (start, rest, k, longest, from, more) =
    (start, rest, gap_append g k, longest, from, more)

-- the bytes of a gap
pub gap_bytes : {text rest : List ℕ} → Gap text rest → (bytes : List ℕ) × (text ≡ bytes ++ rest)
gap_bytes none = ([], refl)
gap_bytes (blank {b = b} e g) =
    let k = gap_bytes g in (b ∷ k.0, ap (λ z. b ∷ z) k.1)
gap_bytes (comment body h g) =
    let k = gap_bytes g in (
      percent ∷ (body ++ line_feed ∷ k.0),
      ap (λ z. percent ∷ (body ++ line_feed ∷ z)) k.1
          ∙ ap (λ z. percent ∷ z) (sym (append_assoc body (line_feed ∷ k.0) _)),
    )
gap_bytes (last_comment body h) = (percent ∷ body, ap (λ z. percent ∷ z) (sym (append-nil body)))
gap_bytes (block body h g) =
    let k = gap_bytes g in (
      slash ∷ star ∷ (body ++ star ∷ slash ∷ k.0),
      ap (λ z. slash ∷ star ∷ (body ++ star ∷ slash ∷ z)) k.1
          ∙ ap (λ z. slash ∷ star ∷ z) (sym (append_assoc body (star ∷ slash ∷ k.0) _)),
    )

abbrev begins : List ℕ → Bool
begins [] = false
begins (b ∷ after) = begins_gap b after

-- where something is skipped, a gap begins
pub gap_begins : (b : ℕ) (after rest : List ℕ) → Gap (b ∷ after) rest
    → length rest < length (b ∷ after) → begins_gap b after ≡ true
gap_begins b after rest g h = go (b ∷ after) rest g h
  where
    go : (text rest : List ℕ) → Gap text rest → length rest < length text → begins text ≡ true
    go text rest none h = absurd (omega (arith, h))
    go text rest (blank {b = c} {text = more} f g) h =
        ap (λ v. (v || c == percent) || (c == slash && slice_index more 0 == star)) f
    go text rest (comment body f g) h = refl
    go text rest (last_comment body f) h = refl
    go text rest (block body f g) h = refl
