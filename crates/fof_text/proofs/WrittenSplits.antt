-- The text of a term, and of a formula, does not depend on what follows.
use Rattle.std.proofs.Common.{ℕ, ◌+◌, List, [], ◌∷◌, map, sym, subst}
use Rattle.std.specs.Prelude.{codes}
use Rattle.fof_models.specs.declared.formula.FofTerm.{FofTerm, roll-FofTerm}
use Rattle.fof_models.specs.declared.formula.FofTerm.TheOpen.{FofTerm-F}
use Rattle.fof_models.specs.declared.formula.FofTerm.TheOpen as O
use Rattle.fof_models.specs.declared.formula.FofTerm.TheFolds.{fold-roll-FofTerm, map-FofTerm}
use Rattle.fof_models.specs.declared.formula.Fof.{Fof, roll-Fof}
use Rattle.fof_models.specs.declared.formula.Fof.TheOpen.{Fof-F}
use Rattle.fof_models.specs.declared.formula.Fof.TheOpen as G
use Rattle.fof_models.specs.declared.formula.Fof.TheFolds.{fold-roll-Fof, map-Fof}
use Rattle.fof_text.specs.Names.{name_at}
use Rattle.fof_text.specs.Written.{Writer, mark_word, dollar_word, variable_word, plain, Both}
use Rattle.fof_text.specs.Written.{term_words, term_words_step, formula_words, formula_words_step}
use Rattle.fof_text.proofs.Trees.{terms_by_layer, formulas_by_layer}
use Rattle.fof_text.proofs.Splits.{Splits, AllSplit, word_splits, word_then, separated_splits}
use Rattle.fof_text.proofs.Splits.{brackets_split, sides_split, applied_splits, quantified_splits}

module _ (names : List (List ℕ)) where
  -- ---- terms

  abbrev TermClaim : FofTerm → Type 0
  TermClaim t = (d : ℕ) → Splits (term_words names t d)

  abbrev KeptTerm : Type 0
  KeptTerm = (t : FofTerm) × TermClaim t

  term_rolled : (x : FofTerm-F FofTerm)
      → ((d : ℕ) → Splits (term_words_step names
      (map-FofTerm FofTerm (ℕ → Writer) (term_words names) x) d))
      → TermClaim (roll-FofTerm x)
  unfolding term_words
  term_rolled x h =
      subst (λ (u : ℕ → Writer). (d : ℕ) → Splits (u d))
      (sym (fold-roll-FofTerm (ℕ → Writer) (term_words_step names) x)) h

  terms_kept : (ks : List KeptTerm) (d : ℕ)
      → AllSplit (map (λ (u : ℕ → Writer). u d)
      (map (term_words names) (map (λ (e : KeptTerm). e.0) ks)))
  terms_kept [] d = tt
  terms_kept (k ∷ ks) d = (k.1 d, terms_kept ks d)

  term_layer : (y : FofTerm-F KeptTerm)
      → TermClaim (roll-FofTerm (map-FofTerm KeptTerm FofTerm (λ e. e.0) y))
  term_layer (O.Var i) = term_rolled (O.Var i) (λ d. word_splits (variable_word _))
  term_layer (O.Apply f ks) =
      term_rolled (O.Apply f (map (λ (e : KeptTerm). e.0) ks))
      (λ d. applied_splits (name_at names f) _ (terms_kept ks d))

  pub terms_split : (t : FofTerm) → TermClaim t
  terms_split = terms_by_layer TermClaim term_layer

  pub all_terms_split : (ts : List FofTerm) (d : ℕ)
      → AllSplit (map (λ t. term_words names t d) ts)
  all_terms_split [] d = tt
  all_terms_split (t ∷ ts) d = (terms_split t d, all_terms_split ts d)

  -- ---- formulas

  pub record BothSplit (b : Both) : Type 0 where
    pub is : (d : ℕ) → Splits (b.is d)
    pub negated : (d : ℕ) → Splits (b.negated d)

  plain_splits : (u : ℕ → Writer) → ((d : ℕ) → Splits (u d)) → BothSplit (plain u)
  plain_splits u h = record {
    is = h;
    negated = λ d. word_then (mark_word (codes "~")) (u d) (h d);
  }

  abbrev Claim : Fof → Type 0
  Claim f = BothSplit (formula_words names f)

  abbrev Kept : Type 0
  Kept = (f : Fof) × Claim f

  rolled : (x : Fof-F Fof)
      → BothSplit (formula_words_step names (map-Fof Fof Both (formula_words names) x))
      → Claim (roll-Fof x)
  unfolding formula_words
  rolled x h = subst BothSplit (sym (fold-roll-Fof Both (formula_words_step names) x)) h

  all_kept : (ks : List Kept) (d : ℕ)
      → AllSplit (map (λ (b : Both). b.is d)
      (map (formula_words names) (map (λ (e : Kept). e.0) ks)))
  all_kept [] d = tt
  all_kept (k ∷ ks) d = (k.1.is d, all_kept ks d)

  layer : (y : Fof-F Kept) → Claim (roll-Fof (map-Fof Kept Fof (λ e. e.0) y))
  layer G.True = rolled G.True (plain_splits _ (λ d. word_splits (dollar_word (codes "$true"))))
  layer G.False = rolled G.False (plain_splits _ (λ d. word_splits (dollar_word (codes "$false"))))
  layer (G.Atom p ts) =
      rolled (G.Atom p ts)
      (plain_splits _ (λ d. applied_splits (name_at names p) _ (all_terms_split ts d)))
  layer (G.Equal a b) = rolled (G.Equal a b) (record {
    is = λ d. sides_split (codes "=") _ _ (terms_split a d) (terms_split b d);
    negated = λ d. sides_split (codes "!=") _ _ (terms_split a d) (terms_split b d);
  })
  layer (G.Not u) = rolled (G.Not u.0) (plain_splits _ u.1.negated)
  layer (G.And us) =
      rolled (G.And (map (λ (e : Kept). e.0) us))
      (plain_splits _ (λ d. brackets_split _
      (separated_splits (mark_word (codes "&")) _ (all_kept us d))))
  layer (G.Or us) =
      rolled (G.Or (map (λ (e : Kept). e.0) us))
      (plain_splits _ (λ d. brackets_split _
      (separated_splits (mark_word (codes "|")) _ (all_kept us d))))
  layer (G.Implies u v) =
      rolled (G.Implies u.0 v.0)
      (plain_splits _ (λ d. brackets_split _ (sides_split (codes "=>") _ _ (u.1.is d) (v.1.is d))))
  layer (G.ForAll u) =
      rolled (G.ForAll u.0)
      (plain_splits _ (λ d. quantified_splits (codes "!") (formula_words names u.0).is d
      (u.1.is (d + 1))))
  layer (G.Exists u) =
      rolled (G.Exists u.0)
      (plain_splits _ (λ d. quantified_splits (codes "?") (formula_words names u.0).is d
      (u.1.is (d + 1))))

  pub formulas_split : (f : Fof) → Claim f
  formulas_split = formulas_by_layer Claim layer
