-- What the code sends for names, terms and formulas, case by case.
use Rattle.std.proofs.Common.{◌≡◌, ◌+◌, ◌-◌, ◌≤◌, ◌<◌, ◌||◌, ◌==◌, if◌then◌else◌, ℕ, zero, suc}
use Rattle.std.proofs.Common.{Bool, true, false, List, [], ◌∷◌, ◌++◌, map, length, take, refl, sym}
use Rattle.std.proofs.Common.{ap, ◌∙◌, arith, append-nil, append_assoc}
use Rattle.std.specs.Prelude.{codes, decimal, get_or, eqb}
use Rattle.std.proofs.lemmas.Bool.{eqb-false}
use Rattle.std.proofs.lemmas.List.{length-map, length-take-le, map-append, take_all, take_more}
use Rattle.std.proofs.lemmas.Simd.{map-map}
use Rattle.fof_models.specs.declared.formula.FofTerm.{FofTerm}
use Rattle.fof_models.specs.declared.formula.FofTerm.TheVariants as T
use Rattle.fof_models.specs.declared.formula.FofTerm.TheOpen as O
use Rattle.fof_models.specs.declared.formula.FofTerm.TheFolds.{fold-roll-FofTerm}
use Rattle.fof_models.specs.declared.formula.Fof.{Fof, roll-Fof}
use Rattle.fof_models.specs.declared.formula.Fof.TheVariants as F
use Rattle.fof_models.specs.declared.formula.Fof.TheOpen.{Fof-F}
use Rattle.fof_models.specs.declared.formula.Fof.TheOpen as G
use Rattle.fof_models.specs.declared.formula.Fof.TheFolds.{fold-roll-Fof, map-Fof}
use Rattle.tptp_words.specs.Text.{escaped, single_quote}
use Rattle.fof_text.specs.Names.{name_at}
use Rattle.fof_text.specs.Written.{Writer, lower_word, quoted_word, is_lower, name_word}
use Rattle.fof_text.specs.Written.{variable_word, applied, side_by_side, Both, term_words}
use Rattle.fof_text.specs.Written.{term_words_step, formula_words, formula_words_step}
use Rattle.fof_text.specs.Pieces.{part, between, in_row, in_row_from}
use Rattle.fof_text.proofs.Trees.{formulas_by_layer}
use Rattle.fof_text.proofs.Splits.{AllSplit, and_piece, or_piece, implies_piece, equals_piece}
use Rattle.fof_text.proofs.Splits.{unequal_piece, all_piece, some_piece, brackets_part, chain_part}
use Rattle.fof_text.proofs.Splits.{sides_part, sides_split, applied_part, quantified_part}
use Rattle.fof_text.proofs.WrittenSplits.{terms_split, all_terms_split, formulas_split}

-- ---- parts in a row

row_last : (piece : List ℕ) (xs : List (List ℕ)) (n : ℕ) (x : List ℕ)
    → in_row_from n piece (xs ++ x ∷ [])
    ≡ (in_row_from n piece xs ++ between (n + length xs) piece) ++ x
row_last piece [] n x =
    ap (λ z. between n piece ++ z) (append-nil x)
    ∙ ap (λ k. between k piece ++ x) (let e : n ≡ n + 0 = omega arith in e)
row_last piece (y ∷ ys) n x =
    let tail = in_row_from (suc n) piece ys in
    let front = between n piece in
    let e : suc n + length ys ≡ n + suc (length ys) = omega arith in
    ap (λ z. front ++ (y ++ z))
    (row_last piece ys (suc n) x ∙ append_assoc tail (between (suc n + length ys) piece) x
    ∙ ap (λ k. tail ++ (between k piece ++ x)) e)
    ∙ ap (λ z. front ++ z) (sym (append_assoc y tail _))
    ∙ sym (append_assoc front (y ++ tail) _)
    ∙ sym (append_assoc (front ++ (y ++ tail)) (between (n + suc (length ys)) piece) x)

-- one part more
pub row_next : {A : Type 0} (f : A → List ℕ) (piece : List ℕ) (us : List A) (i : ℕ) (u : A)
    → i < length us → u ≡ get_or us i u
    → in_row piece (map f (take (i + 1) us))
    ≡ (in_row piece (map f (take i us)) ++ between i piece) ++ f u
row_next f piece us i u l e =
    let done = map f (take i us) in
    let long : 0 + length done ≡ i =
    let short : i ≤ length us = omega arith in
    omega (arith, length-map (take i us) f, length-take-le i us short) in
    ap (λ z. in_row piece (map f z)) (take_more us i u l ∙ ap (λ z. take i us ++ z ∷ []) (sym e))
    ∙ ap (in_row piece) (map-append f (take i us) (u ∷ []))
    ∙ row_last piece done 0 (f u)
    ∙ ap (λ k. (in_row piece done ++ between k piece) ++ f u) long

-- all parts
pub row_end : {A : Type 0} (f : A → List ℕ) (piece : List ℕ) (us : List A) (i : ℕ)
    → length us ≤ i → in_row piece (map f (take i us)) ≡ in_row piece (map f us)
row_end f piece us i l = ap (λ z. in_row piece (map f z)) (take_all i us l)

-- ---- names

-- how a name is spelled, by whether it is a word as it is
pub name_spelled : (n : List ℕ) (v : Bool) → is_lower n ≡ v
    → (name_word n).spelling
    ≡ (if v then n else single_quote ∷ (escaped single_quote n ++ single_quote ∷ []))
name_spelled n v e = ap (λ u. (if u then lower_word n else quoted_word n).spelling) e ∙ go v
  where
    go : (v : Bool) → (if v then lower_word n else quoted_word n).spelling
        ≡ (if v then n else single_quote ∷ (escaped single_quote n ++ single_quote ∷ []))
    go true = refl
    go false = refl

-- a name alone has no spaces around it
pub name_part : (n : List ℕ) → part (λ rest. name_word n ∷ rest) ≡ (name_word n).spelling
name_part n = go (is_lower n)
  where
    go : (v : Bool) → part (λ rest. (if v then lower_word n else quoted_word n) ∷ rest)
        ≡ (if v then lower_word n else quoted_word n).spelling
    go true = append-nil n
    go false = append-nil (single_quote ∷ (escaped single_quote n ++ single_quote ∷ []))

pub variable_part : (d : ℕ) → part (λ rest. variable_word d ∷ rest) ≡ codes "X" ++ decimal d
variable_part d = append-nil (codes "X" ++ decimal d)

escaped-append : (quote : ℕ) (bs cs : List ℕ)
    → escaped quote (bs ++ cs) ≡ escaped quote bs ++ escaped quote cs
escaped-append quote [] cs = refl
escaped-append quote (b ∷ bs) cs = go (b == quote || b == 92) (escaped-append quote bs cs)
  where
    go : (v : Bool) → escaped quote (bs ++ cs) ≡ escaped quote bs ++ escaped quote cs
        → (if v then 92 ∷ b ∷ escaped quote (bs ++ cs) else b ∷ escaped quote (bs ++ cs))
        ≡ (if v then 92 ∷ b ∷ escaped quote bs else b ∷ escaped quote bs) ++ escaped quote cs
    go true e = ap (λ z. 92 ∷ b ∷ z) e
    go false e = ap (λ z. b ∷ z) e

pub escaped_next : (bs : List ℕ) (i : ℕ) → i < length bs
    → escaped single_quote (take (i + 1) bs)
    ≡ escaped single_quote (take i bs) ++ escaped single_quote (get_or bs i 0 ∷ [])
escaped_next bs i l =
    ap (escaped single_quote) (take_more bs i 0 l)
    ∙ escaped-append single_quote (take i bs) (get_or bs i 0 ∷ [])

pub name_inside : (ns : List (List ℕ)) (i : ℕ) (n : List ℕ) → i < length ns → n ≡ get_or ns i n
    → name_at ns i ≡ n
name_inside [] i n l e = absurd (omega arith)
name_inside (m ∷ ns) zero n l e = sym e
name_inside (m ∷ ns) (suc i) n l e = name_inside ns i n (omega arith) e

pub name_outside : (ns : List (List ℕ)) (i : ℕ) → length ns ≤ i → name_at ns i ≡ []
name_outside [] i l = refl
name_outside (m ∷ ns) zero l = absurd (omega arith)
name_outside (m ∷ ns) (suc i) l = name_outside ns i (omega arith)

-- ---- terms

module _ (names : List (List ℕ)) (d : ℕ) where
  pub part-apply : (f : ℕ) (ts : List FofTerm)
      → part (term_words names (T.Apply f ts) d)
      ≡ part (applied (name_at names f) (map (λ t. term_words names t d) ts))
  unfolding term_words
  part-apply f ts =
      ap (λ z. part (term_words names z d)) (sym (T.rolls-Apply f ts))
      ∙ ap (λ (h : ℕ → Writer). part (h d))
      (fold-roll-FofTerm (ℕ → Writer) (term_words_step names) (O.Apply f ts))
      ∙ ap (λ ws. part (applied (name_at names f) ws))
      (map-map (λ (u : ℕ → Writer). u d) (term_words names) ts)

  pub part-var : (i : ℕ)
      → part (term_words names (T.Var i) d) ≡ part (λ rest. variable_word (d - (i + 1)) ∷ rest)
  unfolding term_words
  part-var i =
      ap (λ z. part (term_words names z d)) (sym (T.rolls-Var i))
      ∙ ap (λ (h : ℕ → Writer). part (h d))
      (fold-roll-FofTerm (ℕ → Writer) (term_words_step names) (O.Var i))

  -- the text of a term
  abbrev pub term_part : FofTerm → List ℕ
  term_part t = part (term_words names t d)

  pub applied_end : (f : ℕ) (ts : List FofTerm) (i : ℕ) → eqb (length ts) 0 ≡ false
      → length ts ≤ i → part (applied (name_at names f) (map (λ t. term_words names t d) ts))
      ≡ ((part (λ rest. name_word (name_at names f) ∷ rest) ++ codes "(")
      ++ in_row (codes ",") (map term_part (take i ts))) ++ codes ")"
  applied_end f ts i some past =
      let ws : List Writer = map (λ t. term_words names t d) ts in
      let front = part (λ rest. name_word (name_at names f) ∷ rest) ++ codes "(" in
      let full : length ts ≡ 0 → ⊥ = eqb-false (length ts) 0 some in
      let long : 0 < length ws = omega (arith, full, length-map ts (λ t. term_words names t d)) in
      applied_part (name_at names f) ws (all_terms_split names ts d) long
      ∙ ap (λ z. (front ++ in_row (codes ",") z) ++ codes ")")
      (map-map part (λ t. term_words names t d) ts)
      ∙ ap (λ z. (front ++ z) ++ codes ")") (sym (row_end term_part (codes ",") ts i past))

  -- ---- formulas

  roll : (x : Fof-F Fof) → formula_words names (roll-Fof x)
      ≡ formula_words_step names (map-Fof Fof Both (formula_words names) x)
  unfolding formula_words
  roll x = fold-roll-Fof Both (formula_words_step names) x

  -- the text of a formula, and that of its negation
  abbrev pub formula_part : Fof → List ℕ
  formula_part f = part ((formula_words names f).is d)

  abbrev pub negated_part : Fof → List ℕ
  negated_part f = part ((formula_words names f).negated d)

  abbrev layer_of : Fof-F Fof → Both
  layer_of x = formula_words_step names (map-Fof Fof Both (formula_words names) x)

  at_is : (f : Fof) (x : Fof-F Fof) → f ≡ roll-Fof x → formula_part f ≡ part ((layer_of x).is d)
  at_is f x e = ap formula_part e ∙ ap (λ (b : Both). part (b.is d)) (roll x)

  at_not : (f : Fof) (x : Fof-F Fof) → f ≡ roll-Fof x
      → negated_part f ≡ part ((layer_of x).negated d)
  at_not f x e = ap negated_part e ∙ ap (λ (b : Both). part (b.negated d)) (roll x)

  pub true_is : (f : Fof) → f ≡ F.True → formula_part f ≡ codes "$true"
  true_is f e = at_is f G.True (e ∙ sym F.rolls-True)

  pub false_is : (f : Fof) → f ≡ F.False → formula_part f ≡ codes "$false"
  false_is f e = at_is f G.False (e ∙ sym F.rolls-False)

  pub atom_is : (f : Fof) (p : ℕ) (ts : List FofTerm) → f ≡ F.Atom p ts
      → formula_part f ≡ part (applied (name_at names p) (map (λ t. term_words names t d) ts))
  atom_is f p ts e = at_is f (G.Atom p ts) (e ∙ sym (F.rolls-Atom p ts))

  pub equal_is : (f : Fof) (a b : FofTerm) → f ≡ F.Equal a b
      → formula_part f ≡ (term_part a ++ codes " = ") ++ term_part b
  equal_is f a b e =
      at_is f (G.Equal a b) (e ∙ sym (F.rolls-Equal a b))
      ∙ sides_part (codes "=") (codes " = ") equals_piece (term_words names a d)
      (term_words names b d) (terms_split names a d)

  pub equal_not : (f : Fof) (a b : FofTerm) → f ≡ F.Equal a b
      → negated_part f ≡ (term_part a ++ codes " != ") ++ term_part b
  equal_not f a b e =
      at_not f (G.Equal a b) (e ∙ sym (F.rolls-Equal a b))
      ∙ sides_part (codes "!=") (codes " != ") unequal_piece (term_words names a d)
      (term_words names b d) (terms_split names a d)

  pub not_is : (f u : Fof) → f ≡ F.Not u → formula_part f ≡ negated_part u
  not_is f u e = at_is f (G.Not u) (e ∙ sym (F.rolls-Not u))

  pub implies_is : (f u v : Fof) → f ≡ F.Implies u v → formula_part f
      ≡ (((codes "(" ++ formula_part u) ++ codes " => ") ++ formula_part v) ++ codes ")"
  implies_is f u v e =
      let a = (formula_words names u).is d in
      let b = (formula_words names v).is d in
      let split_u = (formulas_split names u).is d in
      let split_v = (formulas_split names v).is d in
      at_is f (G.Implies u v) (e ∙ sym (F.rolls-Implies u v))
      ∙ brackets_part (side_by_side (codes "=>") a b) (sides_split (codes "=>") a b split_u split_v)
      ∙ ap (λ z. (codes "(" ++ z) ++ codes ")")
      (sides_part (codes "=>") (codes " => ") implies_piece a b split_u)

  pub for_all_is : (f u : Fof) → f ≡ F.ForAll u → formula_part f
      ≡ ((codes "![" ++ part (λ rest. variable_word d ∷ rest)) ++ codes "]: ")
      ++ part ((formula_words names u).is (d + 1))
  for_all_is f u e =
      at_is f (G.ForAll u) (e ∙ sym (F.rolls-ForAll u))
      ∙ quantified_part (codes "!") all_piece (formula_words names u).is d
      ((formulas_split names u).is (d + 1))

  pub exists_is : (f u : Fof) → f ≡ F.Exists u → formula_part f
      ≡ ((codes "?[" ++ part (λ rest. variable_word d ∷ rest)) ++ codes "]: ")
      ++ part ((formula_words names u).is (d + 1))
  exists_is f u e =
      at_is f (G.Exists u) (e ∙ sym (F.rolls-Exists u))
      ∙ quantified_part (codes "?") some_piece (formula_words names u).is d
      ((formulas_split names u).is (d + 1))

  -- ---- chains

  all_split : (us : List Fof) → AllSplit (map (λ (b : Both). b.is d) (map (formula_words names) us))
  all_split [] = tt
  all_split (u ∷ us) = ((formulas_split names u).is d, all_split us)

  parts_are : (us : List Fof)
      → map part (map (λ (b : Both). b.is d) (map (formula_words names) us)) ≡ map formula_part us
  parts_are [] = refl
  parts_are (u ∷ us) = ap (λ z. formula_part u ∷ z) (parts_are us)

  pub and_is : (f : Fof) (us : List Fof) → f ≡ F.And us
      → formula_part f ≡ (codes "(" ++ in_row (codes " & ") (map formula_part us)) ++ codes ")"
  and_is f us e =
      at_is f (G.And us) (e ∙ sym (F.rolls-And us))
      ∙ chain_part (codes "&") (codes " & ") and_piece _ (all_split us)
      ∙ ap (λ z. (codes "(" ++ in_row (codes " & ") z) ++ codes ")") (parts_are us)

  pub or_is : (f : Fof) (us : List Fof) → f ≡ F.Or us
      → formula_part f ≡ (codes "(" ++ in_row (codes " | ") (map formula_part us)) ++ codes ")"
  or_is f us e =
      at_is f (G.Or us) (e ∙ sym (F.rolls-Or us))
      ∙ chain_part (codes "|") (codes " | ") or_piece _ (all_split us)
      ∙ ap (λ z. (codes "(" ++ in_row (codes " | ") z) ++ codes ")") (parts_are us)

  -- ---- negations

  abbrev NotEqual : Fof → Type 0
  NotEqual f = (a b : FofTerm) → f ≡ F.Equal a b → ⊥

  abbrev Prefixed : Fof → Type 0
  Prefixed f = NotEqual f → negated_part f ≡ codes "~" ++ formula_part f

  prefixed : (x : Fof-F Fof)
      → part ((layer_of x).negated d) ≡ codes "~" ++ part ((layer_of x).is d)
      → Prefixed (roll-Fof x)
  prefixed x h differs =
      at_not (roll-Fof x) x refl ∙ h ∙ ap (λ z. codes "~" ++ z) (sym (at_is (roll-Fof x) x refl))

  abbrev Kept : Type 0
  Kept = (f : Fof) × Prefixed f

  layer : (y : Fof-F Kept) → Prefixed (roll-Fof (map-Fof Kept Fof (λ e. e.0) y))
  layer G.True = prefixed G.True refl
  layer G.False = prefixed G.False refl
  layer (G.Atom p ts) = prefixed (G.Atom p ts) refl
  layer (G.Equal a b) = λ differs. absurd (differs a b (F.rolls-Equal a b))
  layer (G.Not u) = prefixed (G.Not u.0) refl
  layer (G.And us) = prefixed (G.And (map (λ (e : Kept). e.0) us)) refl
  layer (G.Or us) = prefixed (G.Or (map (λ (e : Kept). e.0) us)) refl
  layer (G.Implies u v) = prefixed (G.Implies u.0 v.0) refl
  layer (G.ForAll u) = prefixed (G.ForAll u.0) refl
  layer (G.Exists u) = prefixed (G.Exists u.0) refl

  -- the negation of a formula that is no equation
  pub other_not : (f : Fof) → NotEqual f → negated_part f ≡ codes "~" ++ formula_part f
  other_not = formulas_by_layer Prefixed layer
