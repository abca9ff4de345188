-- The words that are found are those of the text.
use Rattle.std.proofs.Common.{◌≡◌, ℕ, zero, suc, ◌+◌, ◌≤◌, List, [], ◌∷◌, ◌++◌, length, take, drop}
use Rattle.std.proofs.Common.{refl, sym, ◌∙◌, ap, subst, arith, append_assoc, append-nil}
use Rattle.std.proofs.Common.{length-append, length-drop}
use Rattle.std.specs.List.{prefix_len}
use Rattle.std.proofs.Math.Seq.{take-append_seam}
use Rattle.std.proofs.lemmas.List.{take-append-drop}
use Rattle.tptp_words.specs.declared.word.WordKind.{WordKind}
use Rattle.tptp_words.specs.declared.piece.Piece.{Piece}
use Rattle.tptp_words.specs.declared.piece.Piece.TheVariants as piece
use Rattle.tptp_words.specs.Text.{Spells, IsLongest, not_feed, percent, slash, star, line_feed}
use Rattle.tptp_words.specs.Text.{AllPass, Gap, none, blank, comment, last_comment, block, IsText}
use Rattle.tptp_words.specs.Scanning.{piece_at, Left, turn, left_from}
use Rattle.tptp_words.proofs.Passes.{Cut, drop-front, drop_past, prefix_len-over}
use Rattle.tptp_words.proofs.Says.{Says}
use Rattle.tptp_words.proofs.Pieces.{found, piece_says, begun-blank, begun-percent, begun-slash}
use Rattle.tptp_words.proofs.Blocks.{block_over}
use Rattle.tptp_words.proofs.Gaps.{gap_first}

-- ---- words

pub cut_taken : {P : List ℕ → Type 0} {text : List ℕ} {n : ℕ} (c : Cut P text n)
    → take n text ≡ c.front
cut_taken {P} {text} {n} c =
    ap (λ z. take n z) c.is ∙ ap (λ m. take m (c.front ++ c.rest)) (sym c.size)
    ∙ take-append_seam c.front c.rest

word_size : (k l : WordKind) (m n : ℕ) → ◌≡◌ {A = Piece} (piece.Word k m) (piece.Word l n)
    → (k ≡ l) × (m ≡ n)
word_size k l m n e = (cc e, cc e)

-- a word that is found is the longest
longest_of : (text : List ℕ) (kind : WordKind) (n : ℕ) → piece_at text ≡ piece.Word kind n
    → Cut (Spells kind) text n
    → IsLongest text (record { kind = kind; spelling = take n text }) (drop n text)
longest_of text kind n e c = record {
  is = sym (take-append-drop n text);
  spells = subst (Spells kind) (sym (cut_taken c)) c.holds;
  longest = λ other s after is spells. most other s after is spells;
}
  where
    most : (other : WordKind) (s after : List ℕ) → text ≡ s ++ after → Spells other s
        → length s ≤ length (take n text)
    most other s after is spells =
        let there = found other s after spells in
        let same = word_size kind other n there.0 (sym e ∙ ap piece_at is ∙ there.1) in
        let size : length (take n text) ≡ n = ap length (cut_taken c) ∙ c.size in
        omega (arith, there.2, same.1, size)

pub spelled_some : (kind : WordKind) (s : List ℕ) → Spells kind s → 1 ≤ length s
spelled_some kind [] h = let there = found kind [] [] h in absurd (cc there.1)
spelled_some kind (b ∷ s) h = omega arith

pub word_some : (text : List ℕ) (kind : WordKind) (n : ℕ) → Cut (Spells kind) text n
    → (1 ≤ n) × (1 ≤ length text)
word_some text kind n c =
    let some = spelled_some kind c.front c.holds in
    let all : length text ≡ length c.front + length c.rest
    = ap length c.is ∙ length-append c.front c.rest in
    (omega (arith, some, c.size), omega (arith, some, all))

-- ---- soundness

pub sound : (total n : ℕ) (text : List ℕ) → length text ≤ n
    → IsText total text (left_from total n text).words (left_from total n text).fault
unfolding left_from
sound total zero [] h = ([], none, refl)
sound total zero (b ∷ text) h = absurd (omega (arith, h))
sound total (suc n) text h =
    go (piece_at text) refl (piece_says text) (λ more i. sound total n more i)
  where
    Holds : Left → Type 0
    Holds l = IsText total text l.words l.fault

    Below : Type 0
    Below = (more : List ℕ) → length more ≤ n
        → IsText total more (left_from total n more).words (left_from total n more).fault

    go : (p : Piece) → piece_at text ≡ p → Says text p → Below
        → Holds (turn total (left_from total n) text p)
    go piece.End e s below = (text, none, s)
    go (piece.Gap m) e s below =
        gap_first total _ _ s.2 (below (drop m text)
        (let left = length-drop m text in omega (arith, left, s.0, s.1, h)))
    go (piece.Word kind m) e s below =
        let some = word_some text kind m s in (
          text,
          drop m text,
          none,
          longest_of text kind m e s,
          refl,
          below (drop m text) (let left =
              length-drop m text in omega (arith, left, some.0, some.1, h)),
        )
    go (piece.Bad m) e s below = (text, none, (drop m text, s.1, refl))
    go piece.Open e s below = (text, none, (s, refl))

-- ---- uniqueness

behind_line : (body text : List ℕ) (n : ℕ) → n ≡ length body + 2
    → drop n (percent ∷ (body ++ line_feed ∷ text)) ≡ text
behind_line body text n e =
    let size = length-append body (line_feed ∷ []) in
    drop-front (percent ∷ (body ++ line_feed ∷ text)) (percent ∷ (body ++ line_feed ∷ [])) text n
    (ap (λ z. percent ∷ z) (sym (append_assoc body (line_feed ∷ []) text)))
    (omega (arith, size, e))

last_line : (body : List ℕ) → AllPass not_feed body
    → drop (2 + prefix_len not_feed body) (percent ∷ body) ≡ []
last_line body h =
    let count = prefix_len-over not_feed body [] h in
    let same : prefix_len not_feed (body ++ []) ≡ prefix_len not_feed body
    = ap (prefix_len not_feed) (append-nil body) in
    drop_past (percent ∷ body) (2 + prefix_len not_feed body) (omega (arith, count, same))

behind_block : (body text : List ℕ)
    → drop (2 + length body + 2) (slash ∷ star ∷ (body ++ star ∷ slash ∷ text)) ≡ text
behind_block body text =
    let size = length-append body (star ∷ slash ∷ []) in
    drop-front (slash ∷ star ∷ (body ++ star ∷ slash ∷ text))
    (slash ∷ star ∷ (body ++ star ∷ slash ∷ [])) text (2 + length body + 2)
    (ap (λ z. slash ∷ star ∷ z) (sym (append_assoc body (star ∷ slash ∷ []) text)))
    (omega (arith, size))

-- with enough turns, this is what is left
abbrev pub Leaves : ℕ → List ℕ → Left → Type 0
Leaves total text l = (n : ℕ) → length text ≤ n → left_from total n text ≡ l

pub turned : (total : ℕ) (text : List ℕ) (p : Piece) (l : Left) → piece_at text ≡ p
    → 1 ≤ length text → ((n : ℕ) → length text ≤ suc n → turn total (left_from total n) text p ≡ l)
    → Leaves total text l
unfolding left_from
turned total text p l e some h zero i = absurd (omega (arith, some, i))
turned total text p l e some h (suc n) i =
    ap (λ z. turn total (left_from total n) text z) e ∙ h n i

pub gap_leaves : (total : ℕ) (l : Left) {text rest : List ℕ} → Gap text rest → Leaves total rest l
    → Leaves total text l
gap_leaves total l none k = k
gap_leaves total l (blank {b = b} {text = text} e g) k =
    turned total (b ∷ text) (piece.Gap 1) l (begun-blank b text e) (omega arith)
    (λ n i. gap_leaves total l g k n (omega (arith, i)))
gap_leaves total l (comment body {text = text} h g) k =
    let whole : List ℕ = body ++ line_feed ∷ text in
    let count : prefix_len not_feed whole ≡ length body
    = prefix_len-over not_feed body (line_feed ∷ text) h ∙ omega arith in
    let size = length-append body (line_feed ∷ text) in
    turned total (percent ∷ whole) (piece.Gap (2 + prefix_len not_feed whole)) l
    (begun-percent whole)
    (omega arith)
    (λ n i. ap (left_from total n)
    (behind_line body text (2 + prefix_len not_feed whole) (omega (arith, count)))
    ∙ gap_leaves total l g k n (omega (arith, i, size)))
gap_leaves total l (last_comment body h) k =
    let none_left : drop (2 + prefix_len not_feed body) (percent ∷ body) ≡ [] = last_line body h in
    turned total (percent ∷ body) (piece.Gap (2 + prefix_len not_feed body)) l (begun-percent body)
    (omega arith) (λ n i. ap (left_from total n) none_left ∙ k n (omega arith))
gap_leaves total l (block body {text = text} h g) k =
    let whole : List ℕ = star ∷ (body ++ star ∷ slash ∷ text) in
    let size = length-append body (star ∷ slash ∷ text) in
    turned total (slash ∷ whole) (piece.Gap (2 + length body + 2)) l
    (begun-slash whole ∙ block_over body text 2 h) (omega arith)
    (λ n i. ap (left_from total n) (behind_block body text)
    ∙ gap_leaves total l g k n (omega (arith, i, size)))
