-- One step through a text, and the places of its words.
use Rattle.std.proofs.Common.{◌≡◌, ℕ, ◌+◌, ◌-◌, ◌≤◌, ◌<◌, List, [], ◌∷◌, ◌++◌, length, take, drop}
use Rattle.std.proofs.Common.{refl, sym, ◌∙◌, ap, subst, arith, append_assoc, length-append}
use Rattle.std.proofs.Common.{length-drop}
use Rattle.std.specs.Prelude.{Option, Some, None}
use Rattle.std.proofs.Math.Seq.{take-append_seam}
use Rattle.tptp_words.specs.declared.word.WordKind.{WordKind}
use Rattle.tptp_words.specs.declared.word.Word.{Word}
use Rattle.tptp_words.specs.declared.word.WordError.{WordError}
use Rattle.tptp_words.specs.declared.word.WordError.TheVariants.{BadByte, Unclosed}
use Rattle.tptp_words.specs.declared.piece.Piece.{Piece}
use Rattle.tptp_words.specs.declared.piece.Piece.TheVariants as piece
use Rattle.tptp_words.specs.Text.{Placed, Spells, place, IsText}
use Rattle.tptp_words.specs.Scanning.{piece_at, Left, behind, word_at, turn, left_from, left}
use Rattle.tptp_words.specs.Steps.{span, placed_in, AllSpelled}
use Rattle.tptp_words.proofs.Passes.{Cut, drop-front}
use Rattle.tptp_words.proofs.Says.{Says}
use Rattle.tptp_words.proofs.Pieces.{piece_says}
use Rattle.tptp_words.proofs.Gaps.{gap_bytes}
use Rattle.tptp_words.proofs.Lists.{cut_taken, word_some}
use Rattle.tptp_words.proofs.OneText.{fuel}

-- ---- what is left is what the piece in front says of what is behind it

pub left-turn : (total : ℕ) (text : List ℕ)
    → left total text ≡ turn total (left total) text (piece_at text)
unfolding left left_from
left-turn total [] = refl
left-turn total (b ∷ rest) = go (piece_at (b ∷ rest)) (piece_says (b ∷ rest))
  where
    text : List ℕ
    text = b ∷ rest

    n : ℕ
    n = length rest

    go : (p : Piece) → Says text p
        → turn total (left_from total n) text p ≡ turn total (left total) text p
    go piece.End s = refl
    go (piece.Gap m) s =
        let left_size = length-drop m text in
        fuel total n (drop m text) (omega (arith, left_size, s.0))
    go (piece.Word kind m) s =
        let left_size = length-drop m text in
        let some = word_some text kind m s in
        ap (behind (word_at total text kind m))
        (fuel total n (drop m text) (omega (arith, left_size, some.0)))
    go (piece.Bad m) s = refl
    go piece.Open s = refl

-- ---- places

pub spelled : (whole text before : List ℕ) (ws : List Placed) (fault : Option WordError)
    → whole ≡ before ++ text → IsText (length whole) text ws fault → AllSpelled whole ws
spelled whole text before [] fault is h = tt
spelled whole text before (w ∷ ws) fault is (start, rest, g, l, from, more) =
    (word, spelled whole rest (before ++ (skipped.0 ++ w.token.spelling)) ws fault whole_rest more)
  where
    skipped : (bytes : List ℕ) × (text ≡ bytes ++ start)
    skipped = gap_bytes g

    whole_start : whole ≡ (before ++ skipped.0) ++ start
    whole_start = is ∙ ap (λ z. before ++ z) skipped.1 ∙ sym (append_assoc before skipped.0 start)

    whole_rest : whole ≡ (before ++ (skipped.0 ++ w.token.spelling)) ++ rest
    whole_rest = whole_start ∙ ap (λ z. (before ++ skipped.0) ++ z) l.is
        ∙ sym (append_assoc (before ++ skipped.0) w.token.spelling rest)
        ∙ ap (λ z. z ++ rest) (append_assoc before skipped.0 w.token.spelling)

    size : length whole ≡ length (before ++ skipped.0) + length start
    size = ap length whole_start ∙ length-append (before ++ skipped.0) start

    there : w.from ≡ length (before ++ skipped.0)
    there = omega (arith, from, size)

    left : drop w.from whole ≡ start
    left = ap (λ i. drop i whole) there
        ∙ drop-front whole (before ++ skipped.0) start
        (length (before ++ skipped.0)) whole_start refl

    count : (w.from + length w.token.spelling) - w.from ≡ length w.token.spelling
    count = omega arith

    taken : take ((w.from + length w.token.spelling) - w.from) (drop w.from whole)
        ≡ w.token.spelling
    taken = ap (λ m. take m (drop w.from whole)) count
        ∙ ap (λ z. take (length w.token.spelling) z) (left ∙ l.is)
        ∙ take-append_seam w.token.spelling rest

    word : w ≡ placed_in whole (span w)
    word = ap (λ s. record { token = record { kind = w.token.kind; spelling = s }; from = w.from })
        (sym taken)

-- ---- the answers of a step, by the piece in front of what is left

module _ (total : ℕ) (text : List ℕ) (old : Left) (is : old ≡ left total text) where
  turned : (p : Piece) → piece_at text ≡ p → old ≡ turn total (left total) text p
  turned p e = is ∙ left-turn total text ∙ ap (turn total (left total) text) e

  pub gap_step : (m : ℕ) → piece_at text ≡ piece.Gap m → old ≡ left total (drop m text)
  gap_step m e = turned (piece.Gap m) e

  pub word_step : (kind : WordKind) (m : ℕ) (rest : List ℕ) → piece_at text ≡ piece.Word kind m
      → rest ≡ drop m text
      → (p : Placed)
      × (◌≡◌ {A = Word} (record {
        kind = kind;
        from = total - length text;
        to =
            total - length text + m;
      }) (span p))
      × (old ≡ behind p (left total rest))
  word_step kind m rest e left_is =
      let c : Cut (Spells kind) text m = subst (Says text) e (piece_says text) in
      let size : m ≡ length (take m text) = sym (ap length (cut_taken c) ∙ c.size) in (
        word_at total text kind m,
        ap (λ n. record {
          kind = kind;
          from = total - length text;
          to =
              total - length text + n;
        }) size,
        turned (piece.Word kind m) e
            ∙ ap (λ z. behind (word_at total text kind m) (left total z)) (sym left_is),
      )

  pub end_step : piece_at text ≡ piece.End → (old.words ≡ []) × (old.fault ≡ None)
  end_step e =
      let k = turned piece.End e in (ap (λ (l : Left). l.words) k, ap (λ (l : Left). l.fault) k)

  pub bad_step : (m : ℕ) → piece_at text ≡ piece.Bad m → length text ≤ total
      → (old.words ≡ []) × (old.fault ≡ Some (BadByte (total - length text + m)))
  bad_step m e within =
      let k = turned (piece.Bad m) e in
      let s : Says text (piece.Bad m) = subst (Says text) e (piece_says text) in
      let size = length-drop m text in
      let at : place total (drop m text) ≡ total - length text + m =
      omega (arith, size, s.0, within) in
      (ap (λ (l : Left). l.words) k, ap (λ (l : Left). l.fault) k ∙ ap (λ j. Some (BadByte j)) at)

  pub open_step : piece_at text ≡ piece.Open
      → (old.words ≡ []) × (old.fault ≡ Some (Unclosed (total - length text)))
  open_step e =
      let k = turned piece.Open e in (ap (λ (l : Left). l.words) k, ap (λ (l : Left). l.fault) k)

-- ---- lengths

pub gap_smaller : (text : List ℕ) (m : ℕ) → piece_at text ≡ piece.Gap m
    → length (drop m text) < length text
gap_smaller text m e =
    let s : Says text (piece.Gap m) = subst (Says text) e (piece_says text) in
    let size = length-drop m text in omega (arith, size, s.0, s.1)

pub word_within : (text : List ℕ) (kind : WordKind) (m : ℕ) → piece_at text ≡ piece.Word kind m
    → m ≤ length text
word_within text kind m e =
    let c : Cut (Spells kind) text m = subst (Says text) e (piece_says text) in
    let all : length text ≡ length c.front + length c.rest
    = ap length c.is ∙ length-append c.front c.rest in
    omega (arith, all, c.size)

pub bad_within : (text : List ℕ) (m : ℕ) → piece_at text ≡ piece.Bad m → m ≤ length text
bad_within text m e =
    let s : Says text (piece.Bad m) = subst (Says text) e (piece_says text) in omega (arith, s.0)
