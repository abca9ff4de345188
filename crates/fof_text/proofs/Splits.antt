-- The text of a part does not depend on what follows.
use Rattle.std.proofs.Common.{◌≡◌, ◌+◌, ◌<◌, ℕ, suc, List, [], ◌∷◌, ◌++◌, map, length, refl, sym}
use Rattle.std.proofs.Common.{ap, ◌∙◌, arith, append-nil, append_assoc}
use Rattle.std.specs.Prelude.{codes}
use Rattle.tptp_words.specs.Text.{Token}
use Rattle.fof_text.specs.Written.{Writer, mark_word, name_word, variable_word, more, separated}
use Rattle.fof_text.specs.Written.{in_brackets, applied, side_by_side, quantified, before, after}
use Rattle.fof_text.specs.Pieces.{part, in_row, in_row_from}
use Rattle.fof_text.proofs.Spelled.{text}

-- what follows is written behind the part
pub record Splits (w : Writer) : Type 0 where
  pub at : (rest : List Token) → text (w rest) ≡ part w ++ text rest

pub word_splits : (v : Token) → Splits (λ rest. v ∷ rest)
word_splits v = record {
  at = λ rest.
      ap (λ z. before v ++ z)
      (ap (λ z. v.spelling ++ z) (ap (λ z. z ++ text rest) (sym (append-nil (after v))))
      ∙ sym (append_assoc v.spelling (after v ++ []) (text rest)))
      ∙ sym (append_assoc (before v) (v.spelling ++ (after v ++ [])) (text rest));
}

pub then_splits : (u v : Writer) → Splits u → Splits v → Splits (λ rest. u (v rest))
then_splits u v h k = record {
  at = λ rest.
      h.at (v rest) ∙ ap (λ z. part u ++ z) (k.at rest)
      ∙ sym (append_assoc (part u) (part v) (text rest))
      ∙ ap (λ z. z ++ text rest) (sym (h.at (v [])));
}

-- a word before a part
pub word_then : (v : Token) (w : Writer) → Splits w → Splits (λ rest. v ∷ w rest)
word_then v w h = then_splits (λ rest. v ∷ rest) w (word_splits v) h

abbrev pub AllSplit : List Writer → Type 0
AllSplit [] = Unit {0}
AllSplit (w ∷ ws) = Splits w × AllSplit ws

more_splits : (m : Token) (ws : List Writer) → AllSplit ws → Splits (more m ws)
more_splits m [] h = record { at = λ rest. refl }
more_splits m (w ∷ ws) h =
    word_then m (λ rest. w (more m ws rest)) (then_splits w (more m ws) h.0 (more_splits m ws h.1))

pub separated_splits : (m : Token) (ws : List Writer) → AllSplit ws → Splits (separated m ws)
separated_splits m [] h = record { at = λ rest. refl }
separated_splits m (w ∷ ws) h = then_splits w (more m ws) h.0 (more_splits m ws h.1)

pub brackets_split : (w : Writer) → Splits w → Splits (in_brackets w)
brackets_split w h =
    word_then (mark_word (codes "(")) (λ rest. w (mark_word (codes ")") ∷ rest))
    (then_splits w (λ rest. mark_word (codes ")") ∷ rest) h (word_splits (mark_word (codes ")"))))

pub sides_split : (m : List ℕ) (u v : Writer) → Splits u → Splits v → Splits (side_by_side m u v)
sides_split m u v h k =
    then_splits u (λ rest. mark_word m ∷ v rest) h (word_then (mark_word m) v k)

pub applied_splits : (n : List ℕ) (ws : List Writer) → AllSplit ws → Splits (applied n ws)
applied_splits n [] h = word_splits (name_word n)
applied_splits n (w ∷ ws) h =
    word_then (name_word n) (in_brackets (separated (mark_word (codes ",")) (w ∷ ws)))
    (brackets_split _ (separated_splits (mark_word (codes ",")) (w ∷ ws) h))

pub quantified_splits : (m : List ℕ) (body : ℕ → Writer) (d : ℕ) → Splits (body (d + 1))
    → Splits (quantified m body d)
quantified_splits m body d h =
    word_then (mark_word m) _
    (word_then (mark_word (codes "[")) _
    (word_then (variable_word d) _
    (word_then (mark_word (codes "]")) _
    (word_then (mark_word (codes ":")) (body (d + 1)) h))))

-- ---- parts with a mark between

-- the mark is written as the piece
pub record IsPiece (m piece : List ℕ) : Type 0 where
  pub at : (rest : List Token) → text (mark_word m ∷ rest) ≡ piece ++ text rest

more_is : (m piece : List ℕ) → IsPiece m piece → (n : ℕ) (ws : List Writer) → AllSplit ws
    → part (more (mark_word m) ws) ≡ in_row_from (suc n) piece (map part ws)
more_is m piece p n [] h = refl
more_is m piece p n (w ∷ ws) h =
    let rest : List Token = more (mark_word m) ws [] in
    p.at (w rest)
    ∙ ap (λ z. piece ++ z) (h.0.at rest ∙ ap (λ z. part w ++ z) (more_is m piece p (suc n) ws h.1))

pub separated_is : (m piece : List ℕ) → IsPiece m piece → (ws : List Writer) → AllSplit ws
    → part (separated (mark_word m) ws) ≡ in_row piece (map part ws)
separated_is m piece p [] h = refl
separated_is m piece p (w ∷ ws) h =
    h.0.at (more (mark_word m) ws []) ∙ ap (λ z. part w ++ z) (more_is m piece p 0 ws h.1)

pub brackets_part : (w : Writer) → Splits w
    → part (in_brackets w) ≡ (codes "(" ++ part w) ++ codes ")"
brackets_part w h = ap (λ z. codes "(" ++ z) (h.at (mark_word (codes ")") ∷ []))

pub chain_part : (m piece : List ℕ) → IsPiece m piece → (ws : List Writer) → AllSplit ws
    → part (in_brackets (separated (mark_word m) ws))
    ≡ (codes "(" ++ in_row piece (map part ws)) ++ codes ")"
chain_part m piece p ws h =
    brackets_part (separated (mark_word m) ws) (separated_splits (mark_word m) ws h)
    ∙ ap (λ z. (codes "(" ++ z) ++ codes ")") (separated_is m piece p ws h)

pub comma_piece : IsPiece (codes ",") (codes ",")
comma_piece = record { at = λ rest. refl }

pub and_piece : IsPiece (codes "&") (codes " & ")
and_piece = record { at = λ rest. refl }

pub or_piece : IsPiece (codes "|") (codes " | ")
or_piece = record { at = λ rest. refl }

pub implies_piece : IsPiece (codes "=>") (codes " => ")
implies_piece = record { at = λ rest. refl }

pub equals_piece : IsPiece (codes "=") (codes " = ")
equals_piece = record { at = λ rest. refl }

pub unequal_piece : IsPiece (codes "!=") (codes " != ")
unequal_piece = record { at = λ rest. refl }

pub sides_part : (m piece : List ℕ) → IsPiece m piece → (u v : Writer) → Splits u
    → part (side_by_side m u v) ≡ (part u ++ piece) ++ part v
sides_part m piece p u v h =
    h.at (mark_word m ∷ v []) ∙ ap (λ z. part u ++ z) (p.at (v []))
    ∙ sym (append_assoc (part u) piece (part v))

-- ---- applications

pub applied_alone : (n : List ℕ) (ws : List Writer) → ws ≡ []
    → part (applied n ws) ≡ part (λ rest. name_word n ∷ rest)
applied_alone n ws e = ap (λ z. part (applied n z)) e

pub applied_part : (n : List ℕ) (ws : List Writer) → AllSplit ws → 0 < length ws
    → part (applied n ws)
    ≡ ((part (λ rest. name_word n ∷ rest) ++ codes "(") ++ in_row (codes ",")
    (map part ws)) ++ codes ")"
applied_part n [] h l = absurd (omega arith)
applied_part n (w ∷ ws) h l =
    let inside = in_row (codes ",") (map part (w ∷ ws)) in
    let name = part (λ rest. name_word n ∷ rest) in
    (word_splits (name_word n)).at (in_brackets (separated (mark_word (codes ",")) (w ∷ ws)) [])
    ∙ ap (λ z. name ++ z) (chain_part (codes ",") (codes ",") comma_piece (w ∷ ws) h)
    ∙ sym (append_assoc (name ++ codes "(") inside (codes ")")
    ∙ append_assoc name (codes "(") (inside ++ codes ")"))

-- ---- quantifiers

pub quantified_part : (m : List ℕ) → IsPiece m m → (body : ℕ → Writer) (d : ℕ)
    → Splits (body (d + 1))
    → part (quantified m body d)
    ≡ (((m ++ codes "[") ++ part (λ rest. variable_word d ∷ rest)) ++ codes "]: ") ++ part
    (body (d + 1))
quantified_part m p body d h =
    let name = part (λ rest. variable_word d ∷ rest) in
    let scope = part (body (d + 1)) in
    let closing : List Token = mark_word (codes "]") ∷ mark_word (codes ":") ∷ body (d + 1) [] in
    p.at (mark_word (codes "[") ∷ variable_word d ∷ closing)
    ∙ ap (λ z. m ++ (codes "[" ++ z)) ((word_splits (variable_word d)).at closing)
    ∙ sym (append_assoc ((m ++ codes "[") ++ name) (codes "]: ") scope
    ∙ append_assoc (m ++ codes "[") name (codes "]: " ++ scope)
    ∙ append_assoc m (codes "[") (name ++ (codes "]: " ++ scope)))

pub all_piece : IsPiece (codes "!") (codes "!")
all_piece = record { at = λ rest. refl }

pub some_piece : IsPiece (codes "?") (codes "?")
some_piece = record { at = λ rest. refl }
