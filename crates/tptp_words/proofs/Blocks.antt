-- A block comment is skipped up to its first end.
use Rattle.std.proofs.Common.{◌≡◌, ℕ, ◌+◌, ◌⊎◌, inl, inr, Bool, true, false, ◌||◌, ◌&&◌, ◌==◌}
use Rattle.std.proofs.Common.{if◌then◌else◌, List, [], ◌∷◌, ◌++◌, length, drop, slice_index, refl}
use Rattle.std.proofs.Common.{sym, ◌∙◌, ap, subst, arith, append_assoc, length-append}
use Rattle.std.proofs.lemmas.Bool.{eqb-true, and_parts}
use Rattle.tptp_words.specs.declared.piece.Piece.{Piece}
use Rattle.tptp_words.specs.declared.piece.Piece.TheVariants as piece
use Rattle.tptp_words.specs.Text.{star, slash, has_close, Gap, none, block}
use Rattle.tptp_words.specs.Scanning.{block_from, block_at}
use Rattle.tptp_words.proofs.Passes.{drop-front}
use Rattle.tptp_words.proofs.Says.{Says}

or_false : (v w : Bool) → (v || w) ≡ false → (v ≡ false) × (w ≡ false)
or_false true w e = absurd (cc e)
or_false false w e = (refl, e)

and-false : (v : Bool) → (v && false) ≡ false
and-false true = refl
and-false false = refl

-- a comment's end that does not begin in the body does not begin in front of its end either
closes_later : (b : ℕ) (body rest : List ℕ) → (b == star && slice_index body 0 == slash) ≡ false
    → (b == star && slice_index (body ++ star ∷ slash ∷ rest) 0 == slash) ≡ false
closes_later b [] rest e = and-false (b == star)
closes_later b (c ∷ body) rest e = e

pub block_over : (body rest : List ℕ) (n : ℕ) → has_close body ≡ false
    → block_from n (body ++ star ∷ slash ∷ rest) ≡ piece.Gap (n + length body + 2)
block_over [] rest n h = ap (λ m. piece.Gap m) (omega arith)
block_over (b ∷ body) rest n h =
    let parts = or_false (b == star && slice_index body 0 == slash) (has_close body) h in
    ap (λ v. if v then piece.Gap (n + 2) else block_from (n + 1) (body ++ star ∷ slash ∷ rest))
    (closes_later b body rest parts.0)
    ∙ block_over body rest (n + 1) parts.1
    ∙ ap (λ m. piece.Gap m) (omega arith)

pub block_unclosed : (body : List ℕ) (n : ℕ) → has_close body ≡ false
    → block_from n body ≡ piece.Open
block_unclosed [] n h = refl
block_unclosed (b ∷ body) n h =
    let parts = or_false (b == star && slice_index body 0 == slash) (has_close body) h in
    ap (λ v. if v then piece.Gap (n + 2) else block_from (n + 1) body) parts.0
    ∙ block_unclosed body (n + 1) parts.1

-- a text up to the first end of a comment
record Closed (text : List ℕ) (n : ℕ) : Type 0 where
  pub body : List ℕ
  pub rest : List ℕ
  pub is : text ≡ body ++ star ∷ slash ∷ rest
  pub never : has_close body ≡ false
  pub found : block_from n text ≡ piece.Gap (n + length body + 2)

pub starts_with : (k : ℕ) → (0 == k) ≡ false → (text : List ℕ) → (slice_index text 0 == k) ≡ true
    → (rest : List ℕ) × (text ≡ k ∷ rest)
starts_with k differs [] e = absurd (cc (differs, e))
starts_with k differs (b ∷ text) e = (text, ap (λ z. z ∷ text) (eqb-true b k e))

opens_later : (b : ℕ) (body rest : List ℕ)
    → (b == star && slice_index (body ++ star ∷ slash ∷ rest) 0 == slash) ≡ false
    → (b == star && slice_index body 0 == slash) ≡ false
opens_later b [] rest e = and-false (b == star)
opens_later b (c ∷ body) rest e = e

or-false-left : (v w : Bool) → v ≡ false → (v || w) ≡ w
or-false-left v w e = ap (λ z. z || w) e

block_ends : (text : List ℕ) (n : ℕ)
    → ((block_from n text ≡ piece.Open) × (has_close text ≡ false)) ⊎ Closed text n
block_ends [] n = inl (refl, refl)
block_ends (b ∷ text) n =
    go (b == star && slice_index text 0 == slash) refl (block_ends text (n + 1))
  where
    step : Bool → Piece
    step v = if v then piece.Gap (n + 2) else block_from (n + 1) text

    go : (v : Bool) → (b == star && slice_index text 0 == slash) ≡ v
        → ((block_from (n + 1) text ≡ piece.Open) × (has_close text ≡ false)) ⊎ Closed text (n + 1)
        → ((block_from n (b ∷ text) ≡ piece.Open) × (has_close (b ∷ text) ≡ false))
        ⊎ Closed (b ∷ text) n
    go true e k =
        let parts = and_parts _ _ e in
        let more = starts_with slash refl text parts.1 in
        inr (record {
          body = [];
          rest = more.0;
          is = ap (λ z. z ∷ text) (eqb-true b star parts.0) ∙ ap (λ z. star ∷ z) more.1;
          never = refl;
          found = ap step e ∙ ap (λ m. piece.Gap m) (omega arith);
        })
    go false e (inl k) = inl (ap step e ∙ k.0, or-false-left _ _ e ∙ k.1)
    go false e (inr c) = inr (record {
      body = b ∷ c.body;
      rest = c.rest;
      is = ap (λ z. b ∷ z) c.is;
      never = or-false-left _ _ (opens_later b c.body c.rest
          (subst (λ z. (b == star && slice_index z 0 == slash) ≡ false) c.is e)) ∙ c.never;
      found = ap step e ∙ c.found ∙ ap (λ m. piece.Gap m) (omega arith);
    })

-- behind a slash stands a block comment, or the slash begins nothing
pub block_says : (rest : List ℕ)
    → ((block_at rest ≡ piece.Bad 0) × ((slice_index rest 0 == star) ≡ false))
    ⊎ Says (slash ∷ rest) (block_at rest)
block_says rest = go (slice_index rest 0 == star) refl
  where
    choose : Bool → Piece
    choose v = if v then block_from 2 (drop 1 rest) else piece.Bad 0

    inside : (body : List ℕ) → rest ≡ star ∷ body
        → ((block_from 2 body ≡ piece.Open) × (has_close body ≡ false)) ⊎ Closed body 2
        → Says (slash ∷ rest) (block_from 2 body)
    inside body e (inl k) =
        subst (Says (slash ∷ rest)) (sym k.0) (inl (body, ap (λ z. slash ∷ z) e, k.1))
    inside body e (inr c) =
        let text : List ℕ = slash ∷ star ∷ (c.body ++ star ∷ slash ∷ c.rest) in
        let is : slash ∷ rest ≡ text = ap (λ z. slash ∷ z) e ∙ ap (λ z. slash ∷ star ∷ z) c.is in
        let size : length text ≡ 4 + length c.body + length c.rest
        = (let all = length-append c.body (star ∷ slash ∷ c.rest) in omega (arith, all)) in
        let total : length (slash ∷ rest) ≡ length text = ap length is in
        let two : length (c.body ++ star ∷ slash ∷ []) ≡ length c.body + 2
        = length-append c.body (star ∷ slash ∷ []) in
        let left : drop (2 + length c.body + 2) (slash ∷ rest) ≡ c.rest =
        drop-front (slash ∷ rest) (slash ∷ star ∷ (c.body ++ star ∷ slash ∷ [])) c.rest
        (2 + length c.body + 2)
        (is ∙ ap (λ z. slash ∷ star ∷ z) (sym (append_assoc c.body (star ∷ slash ∷ []) c.rest)))
        (omega (arith, two)) in
        let gap : Gap (slash ∷ rest) (drop (2 + length c.body + 2) (slash ∷ rest)) =
        subst (λ z. Gap (slash ∷ rest) z) (sym left)
        (subst (λ z. Gap z c.rest) (sym is) (block c.body c.never none)) in
        subst (Says (slash ∷ rest)) (sym c.found)
        (omega arith, omega arith, gap)

    go : (v : Bool) → (slice_index rest 0 == star) ≡ v
        → ((block_at rest ≡ piece.Bad 0) × ((slice_index rest 0 == star) ≡ false))
        ⊎ Says (slash ∷ rest) (block_at rest)
    go false e = inl (ap choose e, e)
    go true e =
        let more = starts_with star refl rest e in
        let is : block_at rest ≡ block_from 2 more.0
        = ap choose e ∙ ap (λ z. block_from 2 (drop 1 z)) more.1 in
        inr (subst (Says (slash ∷ rest)) (sym is) (inside more.0 more.1 (block_ends more.0 2)))
