-- Words that are written with their spaces are read back.
use Rattle.std.proofs.Common.{◌≡◌, ℕ, zero, suc, ◌+◌, ◌≤◌, ◌⊎◌, inl, inr, Bool, true, false, List}
use Rattle.std.proofs.Common.{[], ◌∷◌, ◌++◌, length, Option, None, refl, sym, ap, ◌∙◌, subst, arith}
use Rattle.std.proofs.Common.{length-append}
use Rattle.std.specs.Prelude.{codes}
use Rattle.std.specs.Char.{is_ascii_digit}
use Rattle.tptp_words.specs.declared.word.WordKind.{WordKind}
use Rattle.tptp_words.specs.declared.word.WordKind.TheVariants.{Lower, Mark, Number}
use Rattle.tptp_words.specs.declared.piece.Piece.TheVariants as piece
use Rattle.tptp_words.specs.Text.{Token, Placed, tokens, is_blank, AllPass, some_bytes, IsDigits}
use Rattle.tptp_words.specs.Text.{IsFraction, IsExponent, IsTail, Spells, IsLongest, none, IsText}
use Rattle.tptp_words.specs.Scanning.{piece_at}
use Rattle.tptp_words.proofs.ReadBack.{blanks, blanks_first}
use Rattle.tptp_words.proofs.Longest.{State, Begin, Digits, Dead, step, run, lives, Ends, longest}
use Rattle.tptp_words.proofs.Longest.{digits_run, spelled_lives}
use Rattle.tptp_words.proofs.Pieces.{found}
use Rattle.model_tables.specs.Written.{Laid, laid, words_of}

-- ---- words that stand each as the longest

abbrev pub Stand : List Laid → Type 0
Stand [] = Unit {0}
Stand (w ∷ ws) =
    AllPass is_blank w.before × AllPass is_blank w.after
    × IsLongest (w.token.spelling ++ (w.after ++ laid ws)) w.token (w.after ++ laid ws)
    × Stand ws

-- where the words stand when they are written from this place on
abbrev pub placed_from : ℕ → List Laid → List Placed
placed_from at [] = []
placed_from at (w ∷ ws) =
    record { token = w.token; from = at + length w.before }
    ∷ placed_from (at + length w.before + length w.token.spelling + length w.after) ws

abbrev pub placed : List Laid → List Placed
placed = placed_from 0

placed_tokens : (at : ℕ) (ws : List Laid) → tokens (placed_from at ws) ≡ words_of ws
placed_tokens at [] = refl
placed_tokens at (w ∷ ws) =
    ap (λ z. w.token ∷ z)
    (placed_tokens (at + length w.before + length w.token.spelling + length w.after) ws)

pub tokens-placed : (ws : List Laid) → tokens (placed ws) ≡ words_of ws
tokens-placed ws = placed_tokens 0 ws

reads : (total at : ℕ) (ws : List Laid) → Stand ws → total ≡ at + length (laid ws)
    → IsText total (laid ws) (placed_from at ws) None
reads total at [] h size = ([], none, refl)
reads total at (w ∷ ws) h size = (
  w.token.spelling ++ rest_of,
  rest_of,
  blanks w.before h.0,
  h.2,
  omega (arith, size, whole, word),
  blanks_first total w.after (laid ws) _ None h.1
      (reads total (at + length w.before + length w.token.spelling + length w.after) ws h.3
      (omega (arith, size, whole, word, rest))),
)
  where
    rest_of : List ℕ
    rest_of = w.after ++ laid ws

    whole : length (laid (w ∷ ws)) ≡ length w.before + length (w.token.spelling ++ rest_of)
    whole = length-append w.before (w.token.spelling ++ rest_of)

    word : length (w.token.spelling ++ rest_of) ≡ length w.token.spelling + length rest_of
    word = length-append w.token.spelling rest_of

    rest : length rest_of ≡ length w.after + length (laid ws)
    rest = length-append w.after (laid ws)

-- the words of what is written, with their places
pub read_back : (ws : List Laid) → Stand ws → IsText (length (laid ws)) (laid ws) (placed ws) None
read_back ws h = reads (length (laid ws)) 0 ws h (omega arith)

-- ---- digits before a full stop at the end of a line

-- the last byte, or d where there is none
abbrev last_of : ℕ → List ℕ → ℕ
last_of d [] = d
last_of d (b ∷ bs) = last_of b bs

last-append : (d : ℕ) (u v : List ℕ) → last_of d (u ++ v) ≡ last_of (last_of d u) v
last-append d [] v = refl
last-append d (b ∷ u) v = last-append b u v

-- behind a digit the bytes end in a digit
abbrev KeepsDigit : List ℕ → Type 0
KeepsDigit s = (d : ℕ) → is_ascii_digit d ≡ true → is_ascii_digit (last_of d s) ≡ true

-- and behind any byte
abbrev EndsInDigit : List ℕ → Type 0
EndsInDigit s = (d : ℕ) → is_ascii_digit (last_of d s) ≡ true

pass_keep : (ds : List ℕ) → AllPass is_ascii_digit ds → KeepsDigit ds
pass_keep [] h d e = e
pass_keep (b ∷ ds) h d e = pass_keep ds h.1 b h.0

digits_end : (ds : List ℕ) → IsDigits ds → EndsInDigit ds
digits_end [] h d = absurd (cc h.1)
digits_end (b ∷ ds) h d = pass_keep ds h.0.1 b h.0.0

ends_keep : (s : List ℕ) → EndsInDigit s → KeepsDigit s
ends_keep s h d e = h d

both_end : (u v : List ℕ) → EndsInDigit v → EndsInDigit (u ++ v)
both_end u v h d = ap is_ascii_digit (last-append d u v) ∙ h (last_of d u)

both_keep : (u v : List ℕ) → KeepsDigit u → KeepsDigit v → KeepsDigit (u ++ v)
both_keep u v h k d e = ap is_ascii_digit (last-append d u v) ∙ k (last_of d u) (h d e)

end_kept : (u v : List ℕ) → EndsInDigit u → KeepsDigit v → EndsInDigit (u ++ v)
end_kept u v h k d = ap is_ascii_digit (last-append d u v) ∙ k (last_of d u) (h d)

same_keep : (s t : List ℕ) → s ≡ t → KeepsDigit t → KeepsDigit s
same_keep s t e h = subst KeepsDigit (sym e) h

behind : (b : ℕ) (ds : List ℕ) → IsDigits ds → EndsInDigit (b ∷ ds)
behind b ds h d = digits_end ds h b

fraction_keep : (s : List ℕ) → IsFraction s → KeepsDigit s
fraction_keep s (inl e) = same_keep s [] e (λ d k. k)
fraction_keep s (inr (ds, h, e)) = same_keep s (46 ∷ ds) e (ends_keep (46 ∷ ds) (behind 46 ds h))

exponent_keep : (s : List ℕ) → IsExponent s → KeepsDigit s
exponent_keep s (inl e) = same_keep s [] e (λ d k. k)
exponent_keep s (inr (b, sign, ds, which, i, h, e)) =
    same_keep s (b ∷ (sign ++ ds)) e
    (ends_keep (b ∷ (sign ++ ds)) (both_end (b ∷ sign) ds (digits_end ds h)))

tail_keep : (s : List ℕ) → IsTail s → KeepsDigit s
tail_keep s (inl (ds, h, e)) = same_keep s (47 ∷ ds) e (ends_keep (47 ∷ ds) (behind 47 ds h))
tail_keep s (inr (fraction, exponent, f, x, e)) =
    same_keep s (fraction ++ exponent) e
    (both_keep fraction exponent (fraction_keep fraction f) (exponent_keep exponent x))

number_end : (s : List ℕ) → Spells Number s → EndsInDigit s
number_end s (sign, ds, tail, i, h, t, e) =
    subst EndsInDigit (sym e)
    (end_kept (sign ++ ds) tail (both_end sign ds (digits_end ds h)) (tail_keep tail t))

run_dead : (u : List ℕ) → run Dead u ≡ Dead
run_dead [] = refl
run_dead (b ∷ u) = run_dead u

-- a number that begins in this way goes on no further
no_further : (q : State) (ds rest s after : List ℕ) (d : ℕ)
    → ds ++ 46 ∷ 10 ∷ rest ≡ s ++ after → run q ds ≡ Digits → lives (run q s) ≡ true
    → is_ascii_digit (last_of d s) ≡ true → length s ≤ length ds
no_further q ds rest [] after d e r l k = omega arith
no_further q [] rest (b ∷ []) after d e r l k =
    let same : b ≡ 46 = cc e in
    absurd (cc (sym k ∙ ap is_ascii_digit same))
no_further q [] rest (b ∷ c ∷ s) after d e r l k =
    let first : b ≡ 46 = cc e in
    let second : c ≡ 10 = cc e in
    let ends : run q (b ∷ c ∷ s) ≡ Dead =
    ap (λ z. run (step (step z b) c) s) r ∙ ap (λ z. run (step (step Digits z) c) s) first
    ∙ ap (λ z. run (step (step Digits 46) z) s) second ∙ run_dead s in
    absurd (cc (sym l ∙ ap lives ends))
no_further q (x ∷ ds) rest (b ∷ s) after d e r l k =
    let same : b ≡ x = cc e in
    let more : ds ++ 46 ∷ 10 ∷ rest ≡ s ++ after = cc e in
    let alive : lives (run (step q x) s) ≡ true =
    ap (λ z. lives (run (step q z) s)) (sym same) ∙ l in
    let shorter = no_further (step q x) ds rest s after b more r alive k in
    omega (arith, shorter)

-- digits alone are a number
pub digits_spell : (ds : List ℕ) → IsDigits ds → Spells Number ds
digits_spell ds h =
    ([], ds, [], inl refl, h, inr ([], [], inl refl, inl refl, refl), sym (append_nil ds))
  where
    append_nil : (xs : List ℕ) → xs ++ [] ≡ xs
    append_nil [] = refl
    append_nil (x ∷ xs) = ap (λ z. x ∷ z) (append_nil xs)

-- where a number ends: at a space, or at a full stop that ends a line
pub data Closes : List ℕ → Type 0 where
  at_space : (rest : List ℕ) → Closes (32 ∷ rest)
  at_stop : (rest : List ℕ) → Closes (46 ∷ 10 ∷ rest)

pub number_longest : (ds rest : List ℕ) → IsDigits ds → Closes rest
    → IsLongest (ds ++ rest) (record { kind = Number; spelling = ds }) rest
number_longest ds _ h (at_space rest) =
    longest (record { kind = Number; spelling = ds }) (32 ∷ rest) (digits_spell ds h)
    (ap (λ q. step q 32) (digits_run ds h))
number_longest ds _ h (at_stop rest) = record {
  is = refl;
  spells = digits_spell ds h;
  longest = λ other s after e i.
      let there = found other s after i in
      let here = found Number ds (46 ∷ 10 ∷ rest) (digits_spell ds h) in
      let same : piece.Word other there.0 ≡ piece.Word Number here.0 =
      sym there.1 ∙ ap piece_at (sym e) ∙ here.1 in
      let kind : other ≡ Number = cc same in
      no_further Begin ds rest s after 0 e (digits_run ds h) (spelled_lives other s i)
      (number_end s (subst (λ k. Spells k s) kind i) 0);
}
