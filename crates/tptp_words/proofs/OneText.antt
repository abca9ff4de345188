-- A text has at most one list of words and one error, and these are found.
use Rattle.std.proofs.Common.{◌≡◌, ℕ, zero, suc, ◌+◌, ◌≤◌, inl, inr, Bool, true, false, List, []}
use Rattle.std.proofs.Common.{◌∷◌, ◌++◌, length, take, drop, refl, sym, ◌∙◌, ap, subst, arith}
use Rattle.std.proofs.Common.{length-append, length-drop}
use Rattle.std.specs.Prelude.{Option, Some, None}
use Rattle.std.proofs.Math.Nat.{le_refl}
use Rattle.std.proofs.Math.Seq.{take-append_seam}
use Rattle.tptp_words.specs.declared.word.WordError.{WordError}
use Rattle.tptp_words.specs.declared.word.WordError.TheVariants.{BadByte, Unclosed}
use Rattle.tptp_words.specs.declared.piece.Piece.{Piece}
use Rattle.tptp_words.specs.declared.piece.Piece.TheVariants as piece
use Rattle.tptp_words.specs.Text.{Token, Placed, star, is_quote, begins_gap, escaped, Spells}
use Rattle.tptp_words.specs.Text.{IsLongest, NoWord, IsOpened, IsBadByte, IsUnclosed, place, Stops}
use Rattle.tptp_words.specs.Text.{IsText}
use Rattle.tptp_words.specs.Scanning.{piece_at, Left, behind, word_at, left_from, left}
use Rattle.tptp_words.proofs.Passes.{Cut, drop-front}
use Rattle.tptp_words.proofs.Says.{Says}
use Rattle.tptp_words.proofs.Quotes.{quoted_over, bad_over}
use Rattle.tptp_words.proofs.Blocks.{block_unclosed}
use Rattle.tptp_words.proofs.Pieces.{found, piece_says, begun-slash, begun-quote}
use Rattle.tptp_words.proofs.Gaps.{gap_begins}
use Rattle.tptp_words.proofs.Lists.{spelled_some, sound, Leaves, turned, gap_leaves}

-- ---- errors

abbrev BadFound : List ℕ → List ℕ → Type 0
BadFound start rest =
    (m : ℕ) × (piece_at start ≡ piece.Bad m) × (drop m start ≡ rest) × (1 ≤ length start)

stray_found : (b : ℕ) (after : List ℕ) → is_quote b ≡ false → begins_gap b after ≡ false
    → NoWord (b ∷ after) → BadFound (b ∷ after) (b ∷ after)
stray_found b after q g no_word = go (piece_at (b ∷ after)) refl (piece_says (b ∷ after))
  where
    start : List ℕ
    start = b ∷ after

    no_quote : {A : Type 0} (quote : ℕ) (content rest : List ℕ) → IsOpened quote content start rest
        → A
    no_quote quote content rest o =
        let same : b ≡ quote = cc o.is in
        absurd (cc (q, o.quotes, ap is_quote same))

    first : List ℕ → Bool
    first [] = false
    first (c ∷ more) = begins_gap c more

    go : (p : Piece) → piece_at start ≡ p → Says start p → BadFound start start
    go piece.End e s = absurd (cc s)
    go (piece.Gap m) e s =
        let left = length-drop m start in
        let begun = gap_begins b after (drop m start) s.2 (omega (arith, left, s.0, s.1)) in
        absurd (cc (g, begun))
    go (piece.Word kind m) e c = absurd (no_word kind c.front c.rest c.is c.holds)
    go (piece.Bad m) e (within, inl (same, stray)) = (m, e, sym same, omega arith)
    go (piece.Bad m) e (within, inr (quote, content, o, f)) = no_quote quote content _ o
    go piece.Open e (inl (body, is, h)) =
        let opens : begins_gap b after ≡ true = ap first is in absurd (cc (g, opens))
    go piece.Open e (inr (quote, content, o)) = no_quote quote content _ o

bad_found : (start rest : List ℕ) → IsBadByte start rest → BadFound start rest
bad_found [] rest (inl (same, stray)) = absurd stray
bad_found (b ∷ after) rest (inl (same, stray)) =
    subst (λ z. BadFound (b ∷ after) z) same (stray_found b after stray.0 stray.1 stray.2)
bad_found start rest (inr (quote, content, o, f)) = (
  1 + length (escaped quote content),
  ap piece_at o.is ∙ begun-quote quote (escaped quote content ++ rest) o.quotes
      ∙ bad_over quote content start rest o f,
  drop-front start (quote ∷ escaped quote content) rest (1 + length (escaped quote content)) o.is
      (omega arith),
  (let total : length start ≡ 1 + length (escaped quote content ++ rest)
      = ap length o.is ∙ omega arith in
      omega (arith, total)),
)

unclosed_found : (start : List ℕ) → IsUnclosed start
    → (piece_at start ≡ piece.Open) × (1 ≤ length start)
unclosed_found start (inl (body, is, h)) = (
  ap piece_at is ∙ begun-slash (star ∷ body) ∙ block_unclosed body 2 h,
  (let total : length start ≡ 2 + length body = ap length is ∙ omega arith in
      omega (arith, total)),
)
unclosed_found start (inr (quote, content, o)) = (
  ap piece_at o.is ∙ begun-quote quote (escaped quote content ++ []) o.quotes
      ∙ quoted_over quote content [] 1 o.quotes o.printable,
  (let total : length start ≡ 1 + length (escaped quote content ++ [])
      = ap length o.is ∙ omega arith in
      omega (arith, total)),
)

stops_leaves : (total : ℕ) (start : List ℕ) (fault : Option WordError) → Stops total start fault
    → Leaves total start (record { words = []; fault = fault })
unfolding left_from
stops_leaves total [] None e = λ n i. ends n
  where
    ends : (n : ℕ) → left_from total n [] ≡ record { words = []; fault = None }
    ends zero = refl
    ends (suc n) = refl
stops_leaves total (b ∷ after) None e = absurd (cc e)
stops_leaves total start (Some (BadByte at)) (rest, bad, e) =
    let f = bad_found start rest bad in
    turned total start (piece.Bad f.0) _ f.1 f.3
    (λ n i. ap (λ j. record { words = []; fault = Some (BadByte j) })
    (ap (place total) f.2 ∙ sym e))
stops_leaves total start (Some (Unclosed at)) (unclosed, e) =
    let f = unclosed_found start unclosed in
    turned total start piece.Open _ f.0 f.1
    (λ n i. ap (λ j. record { words = []; fault = Some (Unclosed j) }) (sym e))

-- ---- words

longest_found : (start : List ℕ) (w : Token) (rest : List ℕ) → IsLongest start w rest
    → piece_at start ≡ piece.Word w.kind (length w.spelling)
longest_found start w rest l =
    let there = found w.kind w.spelling rest l.spells in
    let is : piece_at start ≡ piece.Word w.kind there.0 = ap piece_at l.is ∙ there.1 in
    let c : Cut (Spells w.kind) start there.0 = subst (Says start) is (piece_says start) in
    let most = l.longest w.kind c.front c.rest c.is c.holds in
    let same : there.0 ≡ length w.spelling = omega (arith, there.2, most, c.size) in
    is ∙ ap (λ m. piece.Word w.kind m) same

word_is : (w : Placed) (spelling : List ℕ) (from : ℕ) → w.token.spelling ≡ spelling → w.from ≡ from
    → ◌≡◌ {A = Placed} (record {
      token = record { kind = w.token.kind; spelling = spelling };
      from =
          from;
    }) w
word_is w spelling from e f =
    ap (λ s. record { token = record { kind = w.token.kind; spelling = s }; from = from }) (sym e)
    ∙ ap (λ i. record { token = w.token; from = i }) (sym f)

pub unique : (total : ℕ) (ws : List Placed) (fault : Option WordError) (text : List ℕ)
    → IsText total text ws fault → Leaves total text (record { words = ws; fault = fault })
unique total [] fault text (start, g, stops) =
    gap_leaves total _ g (stops_leaves total start fault stops)
unique total (w ∷ ws) fault text (start, rest, g, l, from, more) =
    gap_leaves total _ g
    (turned total start (piece.Word w.token.kind (length w.token.spelling)) _
    (longest_found start w.token rest l) (omega (arith, some, size))
    (λ n i.
    ap (λ z. behind (word_at total start w.token.kind (length w.token.spelling))
    (left_from total n z)) left
    ∙ ap (λ l. behind (word_at total start w.token.kind (length w.token.spelling)) l)
    (unique total ws fault rest more n (omega (arith, some, size, i)))
    ∙ ap (λ p. behind p (record { words = ws; fault = fault }))
    (word_is w (take (length w.token.spelling) start) (place total start) (sym taken) from)))
  where
    some : 1 ≤ length w.token.spelling
    some = spelled_some w.token.kind w.token.spelling l.spells

    size : length start ≡ length w.token.spelling + length rest
    size = ap length l.is ∙ length-append w.token.spelling rest

    left : drop (length w.token.spelling) start ≡ rest
    left = drop-front start w.token.spelling rest (length w.token.spelling) l.is refl

    taken : take (length w.token.spelling) start ≡ w.token.spelling
    taken = ap (λ z. take (length w.token.spelling) z) l.is ∙ take-append_seam w.token.spelling rest

pub is_text : (total : ℕ) (text : List ℕ)
    → IsText total text (left total text).words (left total text).fault
unfolding left
is_text total text = sound total (length text) text (le_refl (length text))

pub fuel : (total n : ℕ) (text : List ℕ) → length text ≤ n
    → left_from total n text ≡ left total text
fuel total n text h =
    unique total (left total text).words (left total text).fault text (is_text total text) n h

pub left_is : (total : ℕ) (text : List ℕ) (ws : List Placed) (fault : Option WordError)
    → IsText total text ws fault → left total text ≡ record { words = ws; fault = fault }
unfolding left
left_is total text ws fault h = unique total ws fault text h (length text) (le_refl (length text))

pub one_text : (total : ℕ) (text : List ℕ) (ws vs : List Placed) (f g : Option WordError)
    → IsText total text ws f → IsText total text vs g → (ws ≡ vs) × (f ≡ g)
one_text total text ws vs f g h k =
    let same : ◌≡◌ {A = Left} (record { words = ws; fault = f }) (record { words = vs; fault = g })
    = sym (left_is total text ws f h) ∙ left_is total text vs g k in
    (ap (λ (l : Left). l.words) same, ap (λ (l : Left). l.fault) same)
