-- The piece at the front of a text is what stands there.
use Rattle.std.proofs.Common.{◌≡◌, ℕ, ◌+◌, ◌≤◌, ◌⊎◌, inl, inr, Bool, true, false, not, cond, ◌||◌}
use Rattle.std.proofs.Common.{◌&&◌, ◌==◌, if◌then◌else◌, List, [], ◌∷◌, ◌++◌, length, drop}
use Rattle.std.proofs.Common.{slice_index, refl, sym, ◌∙◌, ap, subst, arith, append_assoc}
use Rattle.std.proofs.Common.{append-nil, length-append}
use Rattle.std.proofs.lemmas.Bool.{eqb-true}
use Rattle.std.proofs.lemmas.Bool.Decides.{nat_tests}
use Rattle.std.specs.Char.{is_ascii_lowercase, is_ascii_uppercase, is_ascii_digit}
use Rattle.std.specs.List.{prefix_len}
use Rattle.tptp_words.specs.declared.word.WordKind.{WordKind}
use Rattle.tptp_words.specs.declared.word.WordKind.TheVariants.{Lower, Upper, Quoted, Distinct}
use Rattle.tptp_words.specs.declared.word.WordKind.TheVariants.{Dollar, System, Number, Mark}
use Rattle.tptp_words.specs.declared.piece.Piece.{Piece}
use Rattle.tptp_words.specs.declared.piece.Piece.TheVariants as piece
use Rattle.tptp_words.specs.Text.{is_name, is_blank, not_feed, line_feed, percent, slash, star}
use Rattle.tptp_words.specs.Text.{single_quote, double_quote, dollar_sign, is_quote, is_printable}
use Rattle.tptp_words.specs.Text.{AllPass, some_bytes, OneOf, marks, escaped, IsDigits, IsSign}
use Rattle.tptp_words.specs.Text.{Spells, NoWord, Gap, none, blank, comment, last_comment}
use Rattle.tptp_words.specs.Text.{begins_gap}
use Rattle.tptp_words.specs.Scanning.{is_sign, is_number_start, quoted_from, block_at, dollar_at}
use Rattle.tptp_words.specs.Scanning.{number_at, mark_at, begun, piece_at}
use Rattle.tptp_words.proofs.Passes.{Cut, drop-front, drop_past, prefix_len-over, cut_passing}
use Rattle.tptp_words.proofs.Numbers.{number_over}
use Rattle.tptp_words.proofs.NumberCuts.{Takes, number_takes}
use Rattle.tptp_words.proofs.Marks.{Each, one_of_each, mark_over, mark_takes}
use Rattle.tptp_words.proofs.Quotes.{quoted_over, closing_is, length-escaped-some, quoted_says}
use Rattle.tptp_words.proofs.Blocks.{block_says}
use Rattle.tptp_words.proofs.Names.{name_over, dollar_over, system_over, dollar_length, cut_name}
use Rattle.tptp_words.proofs.Names.{dollar_takes}
use Rattle.tptp_words.proofs.Says.{Says}

-- ---- by the first byte

-- the piece by what the first byte is, each case by a test of its own
abbrev by_tests : ℕ → List ℕ → Bool → Bool → Bool → Bool → Bool → Bool → Bool → Bool → Piece
by_tests b rest v1 v2 v3 v4 v5 v6 v7 v8 =
    if v1 then piece.Gap 1
    else if v2 then piece.Word Lower (1 + prefix_len is_name rest)
    else if v3 then piece.Word Upper (1 + prefix_len is_name rest)
    else if v4 then piece.Gap (2 + prefix_len not_feed rest)
    else if v5 then block_at rest
    else if v6 then quoted_from b 1 false rest
    else if v7 then dollar_at rest
    else if v8 then number_at (b ∷ rest)
    else mark_at (b ∷ rest)

begun_is : (b : ℕ) (rest : List ℕ) (v1 v2 v3 v4 v5 v6 v7 v8 : Bool) → is_blank b ≡ v1
    → is_ascii_lowercase b ≡ v2 → is_ascii_uppercase b ≡ v3 → (b == percent) ≡ v4
    → (b == slash) ≡ v5 → is_quote b ≡ v6 → (b == dollar_sign) ≡ v7 → is_number_start b ≡ v8
    → begun b rest ≡ by_tests b rest v1 v2 v3 v4 v5 v6 v7 v8
unfolding begun
begun_is b rest v1 v2 v3 v4 v5 v6 v7 v8 e1 e2 e3 e4 e5 e6 e7 e8 =
    ap (λ z. by_tests b rest z (is_ascii_lowercase b) (is_ascii_uppercase b) (b == percent)
    (b == slash) (is_quote b) (b == dollar_sign) (is_number_start b)) e1
    ∙ ap (λ z. by_tests b rest v1 z (is_ascii_uppercase b) (b == percent) (b == slash) (is_quote b)
    (b == dollar_sign) (is_number_start b)) e2
    ∙ ap (λ z. by_tests b rest v1 v2 z (b == percent) (b == slash) (is_quote b) (b == dollar_sign)
    (is_number_start b)) e3
    ∙ ap (λ z. by_tests b rest v1 v2 v3 z (b == slash) (is_quote b) (b == dollar_sign)
    (is_number_start b)) e4
    ∙ ap (λ z. by_tests b rest v1 v2 v3 v4 z (is_quote b) (b == dollar_sign) (is_number_start b)) e5
    ∙ ap (λ z. by_tests b rest v1 v2 v3 v4 v5 z (b == dollar_sign) (is_number_start b)) e6
    ∙ ap (λ z. by_tests b rest v1 v2 v3 v4 v5 v6 z (is_number_start b)) e7
    ∙ ap (λ z. by_tests b rest v1 v2 v3 v4 v5 v6 v7 z) e8

pub begun-blank : (b : ℕ) (rest : List ℕ) → is_blank b ≡ true → begun b rest ≡ piece.Gap 1
begun-blank b rest e = begun_is b rest true _ _ _ _ _ _ _ e refl refl refl refl refl refl refl

begun-lower : (b : ℕ) (rest : List ℕ) → is_ascii_lowercase b ≡ true
    → begun b rest ≡ piece.Word Lower (1 + prefix_len is_name rest)
begun-lower b rest e =
    begun_is b rest false true _ _ _ _ _ _
    (grind (arith, nat_tests)) e refl refl refl refl refl refl

begun-upper : (b : ℕ) (rest : List ℕ) → is_ascii_uppercase b ≡ true
    → begun b rest ≡ piece.Word Upper (1 + prefix_len is_name rest)
begun-upper b rest e =
    begun_is b rest false false true _ _ _ _ _ (grind (arith, nat_tests)) (grind (arith, nat_tests))
    e refl refl refl refl refl

begun-digit : (b : ℕ) (rest : List ℕ) → is_ascii_digit b ≡ true
    → begun b rest ≡ number_at (b ∷ rest)
begun-digit b rest e =
    begun_is b rest false false false false false false false true (grind (arith, nat_tests))
    (grind (arith, nat_tests)) (grind (arith, nat_tests)) (grind (arith, nat_tests))
    (grind (arith, nat_tests)) (grind (arith, nat_tests)) (grind (arith, nat_tests))
    (ap (λ v. v || is_sign b) e)

pub begun-percent : (rest : List ℕ)
    → begun percent rest ≡ piece.Gap (2 + prefix_len not_feed rest)
unfolding begun
begun-percent rest = refl

pub begun-slash : (rest : List ℕ) → begun slash rest ≡ block_at rest
unfolding begun
begun-slash rest = refl

begun-dollar : (rest : List ℕ) → begun dollar_sign rest ≡ dollar_at rest
unfolding begun
begun-dollar rest = refl

pub begun-quote : (q : ℕ) (rest : List ℕ) → is_quote q ≡ true
    → begun q rest ≡ quoted_from q 1 false rest
begun-quote q rest h =
    begun_is q rest false false false false false true _ _ (grind (arith, nat_tests))
    (grind (arith, nat_tests)) (grind (arith, nat_tests)) (grind (arith, nat_tests))
    (grind (arith, nat_tests)) h refl refl

begun-sign : (b : ℕ) (rest : List ℕ) → is_sign b ≡ true → begun b rest ≡ number_at (b ∷ rest)
begun-sign b rest e =
    begun_is b rest false false false false false false false true (grind (arith, nat_tests))
    (grind (arith, nat_tests)) (grind (arith, nat_tests)) (grind (arith, nat_tests))
    (grind (arith, nat_tests)) (grind (arith, nat_tests)) (grind (arith, nat_tests))
    (grind (arith, nat_tests))

-- ---- what is spelled is found

-- a word of this kind is found, and it is at least so long
abbrev pub IsFound : List ℕ → WordKind → ℕ → Type 0
IsFound text kind m = (n : ℕ) × (piece_at text ≡ piece.Word kind n) × (m ≤ n)

abbrev MarkBegins : List ℕ → Type 0
MarkBegins m = (rest : List ℕ) → piece_at (m ++ rest) ≡ mark_at (m ++ rest)

each_begins : Each MarkBegins marks
unfolding begun
each_begins = (
  (λ rest. refl),
  (
    (λ rest. refl),
    (
      (λ rest. refl),
      (
        (λ rest. refl),
        (
          (λ rest. refl),
          (
            (λ rest. refl),
            (
              (λ rest. refl),
              (
                (λ rest. refl),
                (
                  (λ rest. refl),
                  (
                    (λ rest. refl),
                    (
                      (λ rest. refl),
                      (
                        (λ rest. refl),
                        (
                          (λ rest. refl),
                          (
                            (λ rest. refl),
                            (
                              (λ rest. refl),
                              (
                                (λ rest. refl),
                                (
                                  (λ rest. refl),
                                  (
                                    (λ rest. refl),
                                    (
                                      (λ rest. refl),
                                      (
                                        (λ rest. refl),
                                        (
                                          (λ rest. refl),
                                          (
                                            (λ rest. refl),
                                            (
                                              (λ rest. refl),
                                              tt,
                                            ),
                                          ),
                                        ),
                                      ),
                                    ),
                                  ),
                                ),
                              ),
                            ),
                          ),
                        ),
                      ),
                    ),
                  ),
                ),
              ),
            ),
          ),
        ),
      ),
    ),
  ),
)

mark_begins : (s rest : List ℕ) → OneOf s marks → piece_at (s ++ rest) ≡ mark_at (s ++ rest)
mark_begins s rest o = one_of_each MarkBegins s marks each_begins o rest

found_mark : (s rest : List ℕ) → OneOf s marks → IsFound (s ++ rest) Mark (length s)
found_mark s rest o =
    let over = mark_over s o rest in (over.0, mark_begins s rest o ∙ over.1, over.2)

found_quoted : (content rest : List ℕ) → AllPass is_printable content → some_bytes content ≡ true
    → IsFound ((single_quote ∷ (escaped single_quote content ++ single_quote ∷ [])) ++ rest) Quoted
    (length (single_quote ∷ (escaped single_quote content ++ single_quote ∷ [])))
found_quoted content rest p some =
    let text : List ℕ = escaped single_quote content ++ single_quote ∷ rest in
    let n : ℕ = 1 + length (escaped single_quote content) in
    let same : (escaped single_quote content ++ single_quote ∷ []) ++ rest ≡ text
    = append_assoc (escaped single_quote content) (single_quote ∷ []) rest in
    let longer = length-escaped-some single_quote content some in
    let differs : (n + 1 == 2) ≡ false = grind (arith, nat_tests, longer) in
    let size : length (escaped single_quote content ++ single_quote ∷ [])
    ≡ length (escaped single_quote content) + 1
    = length-append (escaped single_quote content) (single_quote ∷ []) in (
      n + 1,
      ap (λ z. begun single_quote z) same ∙ begun-quote single_quote text refl
          ∙ quoted_over single_quote content (single_quote ∷ rest) 1 refl p
          ∙ closing_is single_quote n rest
          ∙ ap (λ v. if v then piece.Bad 1 else piece.Word Quoted (n + 1)) differs,
      omega (arith, size),
    )

found_distinct : (content rest : List ℕ) → AllPass is_printable content
    → IsFound ((double_quote ∷
    (escaped double_quote content ++ double_quote ∷ [])) ++ rest) Distinct
    (length (double_quote ∷ (escaped double_quote content ++ double_quote ∷ [])))
found_distinct content rest p =
    let text : List ℕ = escaped double_quote content ++ double_quote ∷ rest in
    let n : ℕ = 1 + length (escaped double_quote content) in
    let same : (escaped double_quote content ++ double_quote ∷ []) ++ rest ≡ text
    = append_assoc (escaped double_quote content) (double_quote ∷ []) rest in
    let size : length (escaped double_quote content ++ double_quote ∷ [])
    ≡ length (escaped double_quote content) + 1
    = length-append (escaped double_quote content) (double_quote ∷ []) in (
      n + 1,
      ap (λ z. begun double_quote z) same ∙ begun-quote double_quote text refl
          ∙ quoted_over double_quote content (double_quote ∷ rest) 1 refl p
          ∙ closing_is double_quote n rest,
      omega (arith, size),
    )

-- behind a sign or not, where digits are, a number is looked for
number_begins : (sign ds rest : List ℕ) → IsSign sign → IsDigits ds
    → piece_at (sign ++ (ds ++ rest)) ≡ number_at (sign ++ (ds ++ rest))
number_begins sign [] rest s h = absurd (cc h.1)
number_begins sign (d ∷ ds) rest (inl e) h =
    subst (λ z. piece_at (z ++ (d ∷ (ds ++ rest))) ≡ number_at (z ++ (d ∷ (ds ++ rest)))) (sym e)
    (begun-digit d (ds ++ rest) h.0.0)
number_begins sign (d ∷ ds) rest (inr (inl e)) h =
    subst (λ z. piece_at (z ++ (d ∷ (ds ++ rest))) ≡ number_at (z ++ (d ∷ (ds ++ rest)))) (sym e)
    (begun-sign 43 (d ∷ (ds ++ rest)) refl)
number_begins sign (d ∷ ds) rest (inr (inr e)) h =
    subst (λ z. piece_at (z ++ (d ∷ (ds ++ rest))) ≡ number_at (z ++ (d ∷ (ds ++ rest)))) (sym e)
    (begun-sign 45 (d ∷ (ds ++ rest)) refl)

found_number : (s rest : List ℕ) → Spells Number s → IsFound (s ++ rest) Number (length s)
found_number s rest (sign, ds, tail, i, h, t, e) =
    let text : List ℕ = sign ++ (ds ++ (tail ++ rest)) in
    let same : s ++ rest ≡ text =
    ap (λ z. z ++ rest) e ∙ append_assoc (sign ++ ds) tail rest
    ∙ append_assoc sign ds (tail ++ rest) in
    let over = number_over sign ds tail rest i h t in
    let two = length-append (sign ++ ds) tail in
    let one = length-append sign ds in
    let size : length s ≡ length ((sign ++ ds) ++ tail) = ap length e in (
      over.0,
      ap piece_at same ∙ number_begins sign ds (tail ++ rest) i h ∙ over.1,
      omega (arith, over.2, two, one, size),
    )

pub found : (kind : WordKind) (s rest : List ℕ) → Spells kind s
    → IsFound (s ++ rest) kind (length s)
found Lower [] rest h = absurd h
found Lower (b ∷ bs) rest h =
    let over = name_over bs rest h.1 in
    (1 + prefix_len is_name (bs ++ rest), begun-lower b (bs ++ rest) h.0, omega (arith, over))
found Upper [] rest h = absurd h
found Upper (b ∷ bs) rest h =
    let over = name_over bs rest h.1 in
    (1 + prefix_len is_name (bs ++ rest), begun-upper b (bs ++ rest) h.0, omega (arith, over))
found Quoted s rest (content, p, some, e) =
    subst (λ z. IsFound (z ++ rest) Quoted (length z)) (sym e) (found_quoted content rest p some)
found Distinct s rest (content, p, e) =
    subst (λ z. IsFound (z ++ rest) Distinct (length z)) (sym e) (found_distinct content rest p)
found Dollar s rest (name, h, e) =
    subst (λ z. IsFound (z ++ rest) Dollar (length z)) (sym e)
    (let over = dollar_length name rest h in (
      1 + prefix_len is_name (name ++ rest),
      begun-dollar (name ++ rest) ∙ dollar_over name rest h,
      omega (arith, over),
    ))
found System s rest (name, h, e) =
    subst (λ z. IsFound (z ++ rest) System (length z)) (sym e)
    (let over = dollar_length name rest h in (
      2 + prefix_len is_name (name ++ rest),
      begun-dollar (dollar_sign ∷ (name ++ rest)) ∙ system_over name rest h,
      omega (arith, over),
    ))
found Number s rest h = found_number s rest h
found Mark s rest h = found_mark s rest h

-- ---- what is found is spelled

abbrev is_word : Piece → Bool
is_word piece.End = false
is_word (piece.Gap n) = false
is_word (piece.Word kind n) = true
is_word (piece.Bad n) = false
is_word piece.Open = false

-- where no word is found, none begins
pub no_word : (text : List ℕ) → is_word (piece_at text) ≡ false → NoWord text
no_word text e kind s after is spells =
    let there = found kind s after spells in
    let same : piece_at text ≡ piece.Word kind there.0 = ap piece_at is ∙ there.1 in
    cc (e, ap is_word same)

bad_first : (b : ℕ) (rest : List ℕ) → is_quote b ≡ false → begins_gap b rest ≡ false
    → begun b rest ≡ piece.Bad 0 → Says (b ∷ rest) (piece.Bad 0)
bad_first b rest q g e =
    (omega arith, inl (refl, (q, g, no_word (b ∷ rest) (ap is_word e))))

-- a word, or a first byte that begins none
taken_says : (b : ℕ) (rest : List ℕ) (p : Piece) → is_quote b ≡ false → begins_gap b rest ≡ false
    → begun b rest ≡ p → Takes (b ∷ rest) p → Says (b ∷ rest) p
taken_says b rest piece.End q g e t = absurd t
taken_says b rest (piece.Gap n) q g e t = absurd t
taken_says b rest (piece.Word kind n) q g e t = t
taken_says b rest (piece.Bad n) q g e t =
    subst (λ m. Says (b ∷ rest) (piece.Bad m)) (sym t)
    (bad_first b rest q g (e ∙ ap (λ m. piece.Bad m) t))
taken_says b rest piece.Open q g e t = absurd t

-- where the bytes that pass a test end, the next does not pass
stops_at : (p : ℕ → Bool) (front : List ℕ) (b : ℕ) (rest : List ℕ) → AllPass p front
    → prefix_len p (front ++ b ∷ rest) ≡ length front → p b ≡ false
stops_at p front b rest h e = go (p b) refl
  where
    over : prefix_len p (front ++ b ∷ rest) ≡ length front + prefix_len p (b ∷ rest)
    over = prefix_len-over p front (b ∷ rest) h

    go : (v : Bool) → p b ≡ v → v ≡ false
    go true f =
        let one : prefix_len p (b ∷ rest) ≡ 1 + prefix_len p rest
        = ap (λ v. cond v (1 + prefix_len p rest) 0) f in
        absurd (omega (arith, over, one, e))
    go false f = refl

feed_is : (b : ℕ) → not_feed b ≡ false → b ≡ line_feed
feed_is b e = go (b == line_feed) refl e
  where
    go : (v : Bool) → (b == line_feed) ≡ v → not v ≡ false → b ≡ line_feed
    go true f g = eqb-true b line_feed f
    go false f g = absurd (cc g)

line_says : (rest : List ℕ)
    → Says (percent ∷ rest) (piece.Gap (2 + prefix_len not_feed rest))
line_says rest = (omega arith, omega arith, go c.rest c.is)
  where
    c : Cut (AllPass not_feed) rest (prefix_len not_feed rest)
    c = cut_passing not_feed rest

    Skips : List ℕ → Type 0
    Skips text = Gap text (drop (2 + prefix_len not_feed rest) text)

    go : (left : List ℕ) → rest ≡ c.front ++ left → Skips (percent ∷ rest)
    go [] is =
        let whole : rest ≡ c.front = is ∙ append-nil c.front in
        let size = c.size in
        let none_left : drop (2 + prefix_len not_feed rest) (percent ∷ c.front) ≡ []
        = drop_past (percent ∷ c.front) (2 + prefix_len not_feed rest) (omega (arith, size)) in
        subst (λ z. Skips (percent ∷ z)) (sym whole)
        (subst (λ z. Gap (percent ∷ c.front) z) (sym none_left) (last_comment c.front c.holds))
    go (b ∷ left) is =
        let size = c.size in
        let all : prefix_len not_feed (c.front ++ b ∷ left) ≡ length c.front
        = ap (λ z. prefix_len not_feed z) (sym is) ∙ sym size in
        let feed : b ≡ line_feed = feed_is b (stops_at not_feed c.front b left c.holds all) in
        let text : rest ≡ c.front ++ line_feed ∷ left = is ∙ ap (λ z. c.front ++ z ∷ left) feed in
        let two : length (c.front ++ line_feed ∷ []) ≡ length c.front + 1
        = length-append c.front (line_feed ∷ []) in
        let left_is : drop (2 + prefix_len not_feed rest) (percent ∷ (c.front ++ line_feed ∷ left))
        ≡ left =
        drop-front (percent ∷ (c.front ++ line_feed ∷ left)) (percent ∷ (c.front ++ line_feed ∷ []))
        left (2 + prefix_len not_feed rest)
        (ap (λ z. percent ∷ z) (sym (append_assoc c.front (line_feed ∷ []) left)))
        (omega (arith, size, two)) in
        subst (λ z. Skips (percent ∷ z)) (sym text)
        (subst (λ z. Gap (percent ∷ (c.front ++ line_feed ∷ left)) z) (sym left_is)
        (comment c.front c.holds none))

slash_says : (rest : List ℕ) → Says (slash ∷ rest) (block_at rest)
slash_says rest = go (block_says rest)
  where
    go : ((block_at rest ≡ piece.Bad 0) × ((slice_index rest 0 == star) ≡ false))
        ⊎ Says (slash ∷ rest) (block_at rest)
        → Says (slash ∷ rest) (block_at rest)
    go (inl k) = subst (Says (slash ∷ rest)) (sym k.0)
        (bad_first slash rest refl k.1 (begun-slash rest ∙ k.0))
    go (inr k) = k

no_gap : (b : ℕ) (rest : List ℕ) → is_blank b ≡ false → (b == percent) ≡ false
    → (b == slash) ≡ false → begins_gap b rest ≡ false
no_gap b rest e f g =
    ap (λ v. v || b == percent || (b == slash && slice_index rest 0 == star)) e
    ∙ ap (λ v. v || (b == slash && slice_index rest 0 == star)) f
    ∙ ap (λ v. v && slice_index rest 0 == star) g

pub piece_says : (text : List ℕ) → Says text (piece_at text)
piece_says [] = refl
piece_says (b ∷ rest) =
    subst (Says (b ∷ rest)) (sym (is_begun _ _ _ _ _ _ _ _ refl refl refl refl refl refl refl refl))
    (go (is_blank b) (is_ascii_lowercase b) (is_ascii_uppercase b) (b == percent) (b == slash)
    (is_quote b) (b == dollar_sign) (is_number_start b)
    refl refl refl refl refl refl refl refl)
  where
    is_begun : (v1 v2 v3 v4 v5 v6 v7 v8 : Bool) → is_blank b ≡ v1
        → is_ascii_lowercase b ≡ v2 → is_ascii_uppercase b ≡ v3 → (b == percent) ≡ v4
        → (b == slash) ≡ v5 → is_quote b ≡ v6 → (b == dollar_sign) ≡ v7 → is_number_start b ≡ v8
        → begun b rest ≡ by_tests b rest v1 v2 v3 v4 v5 v6 v7 v8
    is_begun v1 v2 v3 v4 v5 v6 v7 v8 e1 e2 e3 e4 e5 e6 e7 e8 =
        begun_is b rest v1 v2 v3 v4 v5 v6 v7 v8 e1 e2 e3 e4 e5 e6 e7 e8

    go : (v1 v2 v3 v4 v5 v6 v7 v8 : Bool) → is_blank b ≡ v1
        → is_ascii_lowercase b ≡ v2 → is_ascii_uppercase b ≡ v3 → (b == percent) ≡ v4
        → (b == slash) ≡ v5 → is_quote b ≡ v6 → (b == dollar_sign) ≡ v7 → is_number_start b ≡ v8
        → Says (b ∷ rest) (by_tests b rest v1 v2 v3 v4 v5 v6 v7 v8)
    go true v2 v3 v4 v5 v6 v7 v8 e1 e2 e3 e4 e5 e6 e7 e8 =
        (omega arith, omega arith, blank e1 none)
    go false true v3 v4 v5 v6 v7 v8 e1 e2 e3 e4 e5 e6 e7 e8 = cut_name is_ascii_lowercase b rest e2
    go false false true v4 v5 v6 v7 v8 e1 e2 e3 e4 e5 e6 e7 e8 =
        cut_name is_ascii_uppercase b rest e3
    go false false false true v5 v6 v7 v8 e1 e2 e3 e4 e5 e6 e7 e8 =
        subst (λ z. Says (z ∷ rest) (piece.Gap (2 + prefix_len not_feed rest)))
        (sym (eqb-true b percent e4)) (line_says rest)
    go false false false false true v6 v7 v8 e1 e2 e3 e4 e5 e6 e7 e8 =
        subst (λ z. Says (z ∷ rest) (block_at rest)) (sym (eqb-true b slash e5)) (slash_says rest)
    go false false false false false true v7 v8 e1 e2 e3 e4 e5 e6 e7 e8 = quoted_says b rest e6
    go false false false false false false true v8 e1 e2 e3 e4 e5 e6 e7 e8 =
        taken_says b rest (dollar_at rest) e6 (no_gap b rest e1 e4 e5)
        (is_begun false false false false false false true v8 e1 e2 e3 e4 e5 e6 e7 e8)
        (subst (λ z. Takes (z ∷ rest) (dollar_at rest)) (sym (eqb-true b dollar_sign e7))
        (dollar_takes rest))
    go false false false false false false false true e1 e2 e3 e4 e5 e6 e7 e8 =
        taken_says b rest (number_at (b ∷ rest)) e6 (no_gap b rest e1 e4 e5)
        (is_begun false false false false false false false true e1 e2 e3 e4 e5 e6 e7 e8)
        (number_takes (b ∷ rest))
    go false false false false false false false false e1 e2 e3 e4 e5 e6 e7 e8 =
        taken_says b rest (mark_at (b ∷ rest)) e6 (no_gap b rest e1 e4 e5)
        (is_begun false false false false false false false false e1 e2 e3 e4 e5 e6 e7 e8)
        (mark_takes (b ∷ rest))
