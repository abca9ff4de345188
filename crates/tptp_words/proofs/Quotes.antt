-- Quoted text is found up to its closing quote, or to the byte that is not allowed in it.
use Rattle.std.proofs.Common.{◌≡◌, ℕ, ◌+◌, ◌≤◌, inl, inr, Bool, true, false, ◌||◌, ◌&&◌, ◌==◌}
use Rattle.std.proofs.Common.{if◌then◌else◌, List, [], ◌∷◌, ◌++◌, length, drop, refl, sym, ◌∙◌, ap}
use Rattle.std.proofs.Common.{subst, arith, append_assoc, length-append, eq-eqb}
use Rattle.std.proofs.lemmas.Bool.{eqb-true}
use Rattle.std.proofs.lemmas.Bool.Decides.{nat_tests}
use Rattle.tptp_words.specs.declared.word.WordKind.TheVariants.{Quoted, Distinct}
use Rattle.tptp_words.specs.declared.piece.Piece.{Piece}
use Rattle.tptp_words.specs.declared.piece.Piece.TheVariants as piece
use Rattle.tptp_words.specs.Text.{single_quote, double_quote, backslash, is_printable, is_quote}
use Rattle.tptp_words.specs.Text.{AllPass, some_bytes, escaped, in_quotes, Spells, IsOpened}
use Rattle.tptp_words.specs.Text.{NoEscape, IsForbidden, IsBadByte}
use Rattle.tptp_words.specs.Scanning.{closed_at, quoted_from}
use Rattle.tptp_words.proofs.Passes.{Cut, drop-front, pass_append}
use Rattle.tptp_words.proofs.Says.{Says}

quote_no_backslash : (q : ℕ) → is_quote q ≡ true → (backslash == q) ≡ false
quote_no_backslash q h = grind (arith, nat_tests)

quote_printable : (q : ℕ) → is_quote q ≡ true → is_printable q ≡ true
quote_printable q h = grind (arith, nat_tests)

-- what is not behind a backslash
abbrev inside : ℕ → ℕ → ℕ → List ℕ → Bool → Bool → Bool → Piece
inside q n b text v w x =
    if v then closed_at q (n + 1)
    else if w then quoted_from q n true text
    else if x then quoted_from q (n + 1) false text
    else piece.Bad n

inside_is : (q n b : ℕ) (text : List ℕ) (v w x : Bool) → (b == q) ≡ v → (b == backslash) ≡ w
    → is_printable b ≡ x → quoted_from q n false (b ∷ text) ≡ inside q n b text v w x
inside_is q n b text v w x e f g =
    ap (λ z. inside q n b text z (b == backslash) (is_printable b)) e
    ∙ ap (λ z. inside q n b text v z (is_printable b)) f ∙ ap (λ z. inside q n b text v w z) g

escape_is : (q n : ℕ) (text : List ℕ) → is_quote q ≡ true
    → quoted_from q n false (backslash ∷ text) ≡ quoted_from q n true text
escape_is q n text h =
    inside_is q n backslash text false true true (quote_no_backslash q h) refl refl

pub quoted_over : (q : ℕ) (content rest : List ℕ) (n : ℕ) → is_quote q ≡ true
    → AllPass is_printable content
    → quoted_from q n false (escaped q content ++ rest)
    ≡ quoted_from q (n + length (escaped q content)) false rest
quoted_over q [] rest n h p = ap (λ m. quoted_from q m false rest) (omega arith)
quoted_over q (b ∷ content) rest n h p =
    go (b == q) (b == backslash) refl refl (λ m. quoted_over q content rest m h p.1)
  where
    more : List ℕ
    more = escaped q content ++ rest

    behind_backslash : (b == q || b == backslash) ≡ true
        → ((m : ℕ) → quoted_from q m false more
        ≡ quoted_from q (m + length (escaped q content)) false rest)
        → quoted_from q n false (backslash ∷ b ∷ more)
        ≡ quoted_from q (n + length (backslash ∷ b ∷ escaped q content)) false rest
    behind_backslash e k =
        escape_is q n (b ∷ more) h
        ∙ ap (λ z. if z then quoted_from q (n + 2) false more else piece.Bad n) e
        ∙ k (n + 2) ∙ ap (λ m. quoted_from q m false rest) (omega arith)

    go : (v w : Bool) → (b == q) ≡ v → (b == backslash) ≡ w
        → ((m : ℕ) → quoted_from q m false more
        ≡ quoted_from q (m + length (escaped q content)) false rest)
        → quoted_from q n false ((if v || w then backslash ∷ b ∷ escaped q content
        else b ∷ escaped q content) ++ rest)
        ≡ quoted_from q (n + length (if v || w then backslash ∷ b ∷ escaped q content
        else b ∷ escaped q content)) false rest
    go true w e f k = behind_backslash (ap (λ z. z || b == backslash) e) k
    go false true e f k = behind_backslash (ap (λ z. z || b == backslash) e ∙ f) k
    go false false e f k =
        inside_is q n b more false false true e f p.0
        ∙ k (n + 1) ∙ ap (λ m. quoted_from q m false rest) (omega arith)

pub closing_is : (q n : ℕ) (rest : List ℕ) → quoted_from q n false (q ∷ rest) ≡ closed_at q (n + 1)
closing_is q n rest = ap (λ v. if v then closed_at q (n + 1)
    else if q == backslash then quoted_from q n true rest
    else if is_printable q then quoted_from q (n + 1) false rest
    else piece.Bad n) (eq-eqb q q refl)

-- ---- the byte that is not allowed

pub length-escaped-some : (q : ℕ) (content : List ℕ) → some_bytes content ≡ true
    → 1 ≤ length (escaped q content)
length-escaped-some q [] h = absurd (cc h)
length-escaped-some q (b ∷ content) h = go (b == q || b == backslash)
  where
    go : (v : Bool) → 1 ≤ length (if v then backslash ∷ b ∷ escaped q content
        else b ∷ escaped q content)
    go true = omega arith
    go false = omega arith

not_that : (p : ℕ → Bool) (b c : ℕ) → p b ≡ false → p c ≡ true → (b == c) ≡ false
not_that p b c e f = go (b == c) refl
  where
    go : (v : Bool) → (b == c) ≡ v → v ≡ false
    go true g = let same : b ≡ c = eqb-true b c g in absurd (cc (e, f, ap p same))
    go false g = refl

forbidden_is : (q : ℕ) (content rest : List ℕ) (n : ℕ) → is_quote q ≡ true
    → n ≡ 1 + length (escaped q content) → IsForbidden q content rest
    → quoted_from q n false rest ≡ piece.Bad n
forbidden_is q content [] n h size f = absurd f
forbidden_is q content (b ∷ after) n h size (inl f) =
    inside_is q n b after false false false (not_that is_printable b q f (quote_printable q h))
    (not_that is_printable b backslash f refl) f
forbidden_is q content (b ∷ after) n h size (inr (inl (e, f))) =
    subst (λ z. quoted_from q n false (z ∷ after) ≡ piece.Bad n) (sym e)
    (escape_is q n after h ∙ ends after f)
  where
    ends : (after : List ℕ) → NoEscape q after → quoted_from q n true after ≡ piece.Bad n
    ends [] f = refl
    ends (c ∷ after) f = ap (λ z. if z then quoted_from q (n + 2) false after else piece.Bad n) f
forbidden_is q content (b ∷ after) n h size (inr (inr (e, f, empty))) =
    let one : n ≡ 1 = size ∙ ap (λ z. 1 + length (escaped q z)) empty in
    let first : quoted_from q n false (b ∷ after) ≡ quoted_from 39 1 false (39 ∷ after) =
    ap (λ z. quoted_from q n false (z ∷ after)) e
    ∙ ap (λ z. quoted_from z n false (39 ∷ after)) f
    ∙ ap (λ m. quoted_from 39 m false (39 ∷ after)) one in
    first ∙ ap (λ m. piece.Bad m) (sym one)

-- the error of quoted text is found
pub bad_over : (q : ℕ) (content start rest : List ℕ) → IsOpened q content start rest
    → IsForbidden q content rest
    → quoted_from q 1 false (escaped q content ++ rest) ≡ piece.Bad (1 + length (escaped q content))
bad_over q content start rest o f =
    quoted_over q content rest 1 o.quotes o.printable
    ∙ forbidden_is q content rest (1 + length (escaped q content)) o.quotes refl f

-- ---- what is found

escaped-append : (q : ℕ) (u v : List ℕ) → escaped q (u ++ v) ≡ escaped q u ++ escaped q v
escaped-append q [] v = refl
escaped-append q (b ∷ u) v = go (b == q || b == backslash) (escaped-append q u v)
  where
    go : (w : Bool) → escaped q (u ++ v) ≡ escaped q u ++ escaped q v
        → (if w then backslash ∷ b ∷ escaped q (u ++ v) else b ∷ escaped q (u ++ v))
        ≡ (if w then backslash ∷ b ∷ escaped q u else b ∷ escaped q u) ++ escaped q v
    go true k = ap (λ z. backslash ∷ b ∷ z) k
    go false k = ap (λ z. b ∷ z) k

no_content : (q : ℕ) (content : List ℕ) → length (escaped q content) ≡ 0 → content ≡ []
no_content q [] h = refl
no_content q (b ∷ content) h =
    let some = length-escaped-some q (b ∷ content) refl in absurd (omega (arith, h, some))

-- content behind a quote, as far as it was read
record Reads (q : ℕ) (content start text : List ℕ) (n : ℕ) : Type 0 where
  pub opened : IsOpened q content start text
  pub size : n ≡ 1 + length (escaped q content)

rest_there : {q : ℕ} {content start text : List ℕ} {n : ℕ} → Reads q content start text n
    → drop n start ≡ text
rest_there {q} {content} {start} {text} {n} r =
    drop-front start (q ∷ escaped q content) text n r.opened.is (omega (arith, r.size))

bad_here : {q : ℕ} {content start : List ℕ} {b : ℕ} {text : List ℕ} {n : ℕ}
    → Reads q content start (b ∷ text) n → IsForbidden q content (b ∷ text)
    → Says start (piece.Bad n)
bad_here {q} {content} {start} {b} {text} {n} r f =
    let total : length start ≡ length (q ∷ (escaped q content ++ b ∷ text)) =
    ap length r.opened.is in
    let all : length (escaped q content ++ b ∷ text)
    ≡ length (escaped q content) + length (b ∷ text)
    = length-append (escaped q content) (b ∷ text) in (
      omega (arith, total, all, r.size),
      subst (λ z. IsBadByte start z) (sym (rest_there r)) (inr (q, content, r.opened, f)),
    )

-- one byte more
goes_on : {q : ℕ} {content start text rest : List ℕ} {n : ℕ} (c : ℕ) (bytes : List ℕ)
    → Reads q content start text n → escaped q (c ∷ []) ≡ bytes → text ≡ bytes ++ rest
    → is_printable c ≡ true → Reads q (content ++ c ∷ []) start rest (n + length bytes)
goes_on {q} {content} {start} {text} {rest} {n} c bytes r e f p =
    let all : escaped q (content ++ c ∷ []) ≡ escaped q content ++ bytes
    = escaped-append q content (c ∷ []) ∙ ap (λ z. escaped q content ++ z) e in
    let size : length (escaped q (content ++ c ∷ [])) ≡ length (escaped q content) + length bytes
    = ap length all ∙ length-append (escaped q content) bytes in
    record {
      opened = record {
        quotes = r.opened.quotes;
        is = r.opened.is ∙ ap (λ z. q ∷ z) (ap (λ z. escaped q content ++ z) f
            ∙ sym (append_assoc (escaped q content) bytes rest) ∙ ap (λ z. z ++ rest) (sym all));
        printable = pass_append is_printable content (c ∷ []) r.opened.printable (p, tt);
      };
      size = omega (arith, r.size, size);
    }

quote_is : (q : ℕ) → is_quote q ≡ true → (q == single_quote) ≡ false → q ≡ double_quote
quote_is q h e = eqb-true q double_quote (sym (ap (λ v. v || q == double_quote) e) ∙ h)

some_content : (content : List ℕ) (n : ℕ) → n ≡ 1 + length (escaped single_quote content)
    → (n + 1 == 2) ≡ false → some_bytes content ≡ true
some_content [] n size e = let two : n + 1 ≡ 2 =
    omega (arith, size) in absurd (cc (e, ap (λ m. m == 2) two))
some_content (b ∷ content) n size e = refl

-- quoted text up to its closing quote
closed_front : {q : ℕ} {content start text : List ℕ} {n : ℕ} (P : List ℕ → Type 0)
    → Reads q content start (q ∷ text) n → P (in_quotes q content) → Cut P start (n + 1)
closed_front {q} {content} {start} {text} {n} P r h = record {
  front = in_quotes q content;
  rest = text;
  is = r.opened.is ∙ ap (λ z. q ∷ z) (sym (append_assoc (escaped q content) (q ∷ []) text));
  size = let all = length-append (escaped q content) (q ∷ []) in omega (arith, all, r.size);
  holds = h;
}

says_closed : (q : ℕ) (content start text : List ℕ) (n : ℕ) → Reads q content start (q ∷ text) n
    → Says start (closed_at q (n + 1))
says_closed q content start text n r = go (q == single_quote) (n + 1 == 2) refl refl
  where
    at : ℕ → Type 0
    at m = Says start (piece.Bad m)

    go : (v w : Bool) → (q == single_quote) ≡ v → (n + 1 == 2) ≡ w
        → Says start (if v && w then piece.Bad 1
        else piece.Word (if v then Quoted else Distinct) (n + 1))
    go true true e f =
        let quote : q ≡ single_quote = eqb-true q single_quote e in
        let two : n + 1 ≡ 2 = eqb-true (n + 1) 2 f in
        let one : n ≡ 1 = omega (arith, two) in
        let empty : content ≡ [] = no_content q content (omega (arith, one, r.size)) in
        subst at one (bad_here r (inr (inr (quote, quote, empty))))
    go true false e f =
        let quote : q ≡ single_quote = eqb-true q single_quote e in
        let size : n ≡ 1 + length (escaped single_quote content)
        = r.size ∙ ap (λ z. 1 + length (escaped z content)) quote in
        closed_front (Spells Quoted) r (
          content,
          r.opened.printable,
          some_content content n size f,
          ap (λ z. in_quotes z content) quote,
        )
    go false w e f =
        closed_front (Spells Distinct) r (
          content,
          r.opened.printable,
          ap (λ z. in_quotes z content) (quote_is q r.opened.quotes e),
        )

escapes : (q c : ℕ) → (c == q || c == backslash) ≡ true
    → escaped q (c ∷ []) ≡ backslash ∷ c ∷ []
escapes q c e = ap (λ v. if v then backslash ∷ c ∷ [] else c ∷ []) e

escape_printable : (q c : ℕ) → is_quote q ≡ true → (c == q || c == backslash) ≡ true
    → is_printable c ≡ true
escape_printable q c h e = go (c == q) refl e
  where
    go : (v : Bool) → (c == q) ≡ v → (v || c == backslash) ≡ true → is_printable c ≡ true
    go true f g = ap is_printable (eqb-true c q f) ∙ quote_printable q h
    go false f g = ap is_printable (eqb-true c backslash g)

mutual
  says_inside : (text : List ℕ) (q : ℕ) (content start : List ℕ) (n : ℕ)
      → Reads q content start text n → Says start (quoted_from q n false text)
  says_inside [] q content start n r = inr (q, content, r.opened)
  says_inside (b ∷ text) q content start n r =
      subst (Says start) (sym
      (inside_is q n b text (b == q) (b == backslash) (is_printable b) refl refl refl))
      (go (b == q) (b == backslash) (is_printable b) refl refl refl
      (λ c m k. says_inside text q c start m k) (λ k. says_escaped text q content start n k))
    where
      go : (v w x : Bool) → (b == q) ≡ v → (b == backslash) ≡ w → is_printable b ≡ x
          → ((c : List ℕ) (m : ℕ) → Reads q c start text m
          → Says start (quoted_from q m false text))
          → (Reads q content start (backslash ∷ text) n → Says start (quoted_from q n true text))
          → Says start (inside q n b text v w x)
      go true w x e f g rec behind =
          says_closed q content start text n
          (subst (λ z. Reads q content start (z ∷ text) n) (eqb-true b q e) r)
      go false true x e f g rec behind =
          behind (subst (λ z. Reads q content start (z ∷ text) n) (eqb-true b backslash f) r)
      go false false true e f g rec behind =
          rec (content ++ b ∷ []) (n + 1)
          (goes_on b (b ∷ []) r
          (ap (λ v. if v || b == backslash then backslash ∷ b ∷ [] else b ∷ []) e
          ∙ ap (λ v. if v then backslash ∷ b ∷ [] else b ∷ []) f)
          refl g)
      go false false false e f g rec behind = bad_here r (inl g)

  says_escaped : (text : List ℕ) (q : ℕ) (content start : List ℕ) (n : ℕ)
      → Reads q content start (backslash ∷ text) n → Says start (quoted_from q n true text)
  says_escaped [] q content start n r = bad_here r (inr (inl (refl, tt)))
  says_escaped (c ∷ text) q content start n r =
      go (c == q || c == backslash) refl
      (λ k. says_inside text q (content ++ c ∷ []) start (n + 2) k)
    where
      go : (v : Bool) → (c == q || c == backslash) ≡ v
          → (Reads q (content ++ c ∷ []) start text (n + 2)
          → Says start (quoted_from q (n + 2) false text))
          → Says start (if v then quoted_from q (n + 2) false text else piece.Bad n)
      go true e rec =
          rec (goes_on c (backslash ∷ c ∷ []) r (escapes q c e) refl
          (escape_printable q c r.opened.quotes e))
      go false e rec = bad_here r (inr (inl (refl, e)))

-- behind a quote
pub quoted_says : (q : ℕ) (rest : List ℕ) → is_quote q ≡ true
    → Says (q ∷ rest) (quoted_from q 1 false rest)
quoted_says q rest h = says_inside rest q [] (q ∷ rest) 1 (record {
  opened = record { quotes = h; is = refl; printable = tt };
  size = refl;
})
