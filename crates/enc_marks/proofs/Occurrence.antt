-- The equations of occurrence and of renumbering, one a variant, in their order.
use Rattle.std.specs.Prelude.{ℕ, ◌≡◌, Bool, false, ◌||◌, List, map, eqb}
use Rattle.std.specs.List.{list_any}
use Rattle.std.proofs.Common.{sym, ap, ◌∙◌}
use Rattle.enc_base.proofs.Quantifiers.{list_any-map}
use Rattle.fof_models.specs.declared.formula.FofTerm.{FofTerm}
use Rattle.fof_models.specs.declared.formula.FofTerm.TheVariants as term
use Rattle.fof_models.specs.declared.formula.FofTerm.TheOpen as term_layer
use Rattle.fof_models.specs.declared.formula.FofTerm.TheFolds.{fold-roll-FofTerm}
use Rattle.fof_models.specs.declared.formula.Fof.{Fof, roll-Fof}
use Rattle.fof_models.specs.declared.formula.Fof.TheVariants as formula
use Rattle.fof_models.specs.declared.formula.Fof.TheOpen.{Fof-F}
use Rattle.fof_models.specs.declared.formula.Fof.TheOpen as layer
use Rattle.fof_models.specs.declared.formula.Fof.TheFolds.{fold-roll-Fof, map-Fof}
use Rattle.enc_marks.specs.Occurrence.{occurs_in_term, occurs_in_term_step, occurs, occurs_step, renumber_term, renumber_term_step, renumber, renumber_step}

pub occurs_in_term-variable : (m i : ℕ) → occurs_in_term m (term.Var i) ≡ false
unfolding occurs_in_term
occurs_in_term-variable m i =
    ap (occurs_in_term m) (sym (term.rolls-Var i))
    ∙ fold-roll-FofTerm Bool (occurs_in_term_step m) (term_layer.Var i)

pub occurs_in_term-apply : (m f : ℕ) (terms : List FofTerm) →
    occurs_in_term m (term.Apply f terms) ≡ (eqb m f || list_any (occurs_in_term m) terms)
unfolding occurs_in_term
occurs_in_term-apply m f terms =
    ap (occurs_in_term m) (sym (term.rolls-Apply f terms))
    ∙ fold-roll-FofTerm Bool (occurs_in_term_step m) (term_layer.Apply f terms)
    ∙ ap (λ b. eqb m f || b) (list_any-map (λ (t : Bool). t) (occurs_in_term m) terms)

occurs-roll : (m : ℕ) (x : Fof-F Fof) →
    occurs m (roll-Fof x) ≡ occurs_step m (map-Fof Fof Bool (occurs m) x)
unfolding occurs
occurs-roll m x = fold-roll-Fof Bool (occurs_step m) x

pub occurs-true : (m : ℕ) → occurs m formula.True ≡ false
occurs-true m = ap (occurs m) (sym formula.rolls-True) ∙ occurs-roll m layer.True

pub occurs-false : (m : ℕ) → occurs m formula.False ≡ false
occurs-false m = ap (occurs m) (sym formula.rolls-False) ∙ occurs-roll m layer.False

pub occurs-atom : (m p : ℕ) (terms : List FofTerm) →
    occurs m (formula.Atom p terms) ≡ (eqb m p || list_any (occurs_in_term m) terms)
occurs-atom m p terms =
    ap (occurs m) (sym (formula.rolls-Atom p terms)) ∙ occurs-roll m (layer.Atom p terms)

pub occurs-equal : (m : ℕ) (left right : FofTerm) →
    occurs m (formula.Equal left right) ≡ (occurs_in_term m left || occurs_in_term m right)
occurs-equal m left right =
    ap (occurs m) (sym (formula.rolls-Equal left right)) ∙ occurs-roll m (layer.Equal left right)

pub occurs-not : (m : ℕ) (a : Fof) → occurs m (formula.Not a) ≡ occurs m a
occurs-not m a = ap (occurs m) (sym (formula.rolls-Not a)) ∙ occurs-roll m (layer.Not a)

pub occurs-and : (m : ℕ) (parts : List Fof) →
    occurs m (formula.And parts) ≡ list_any (occurs m) parts
occurs-and m parts =
    ap (occurs m) (sym (formula.rolls-And parts)) ∙ occurs-roll m (layer.And parts)
    ∙ list_any-map (λ (part : Bool). part) (occurs m) parts

pub occurs-or : (m : ℕ) (parts : List Fof) →
    occurs m (formula.Or parts) ≡ list_any (occurs m) parts
occurs-or m parts =
    ap (occurs m) (sym (formula.rolls-Or parts)) ∙ occurs-roll m (layer.Or parts)
    ∙ list_any-map (λ (part : Bool). part) (occurs m) parts

pub occurs-implies : (m : ℕ) (a b : Fof) →
    occurs m (formula.Implies a b) ≡ (occurs m a || occurs m b)
occurs-implies m a b =
    ap (occurs m) (sym (formula.rolls-Implies a b)) ∙ occurs-roll m (layer.Implies a b)

pub occurs-for_all : (m : ℕ) (body : Fof) → occurs m (formula.ForAll body) ≡ occurs m body
occurs-for_all m body =
    ap (occurs m) (sym (formula.rolls-ForAll body)) ∙ occurs-roll m (layer.ForAll body)

pub occurs-exists : (m : ℕ) (body : Fof) → occurs m (formula.Exists body) ≡ occurs m body
occurs-exists m body =
    ap (occurs m) (sym (formula.rolls-Exists body)) ∙ occurs-roll m (layer.Exists body)

pub renumber_term-variable : (number : ℕ → ℕ) (i : ℕ) →
    renumber_term number (term.Var i) ≡ term.Var i
unfolding renumber_term
renumber_term-variable number i =
    ap (renumber_term number) (sym (term.rolls-Var i))
    ∙ fold-roll-FofTerm FofTerm (renumber_term_step number) (term_layer.Var i)

pub renumber_term-apply : (number : ℕ → ℕ) (f : ℕ) (terms : List FofTerm) →
    renumber_term number (term.Apply f terms)
    ≡ term.Apply (number f) (map (renumber_term number) terms)
unfolding renumber_term
renumber_term-apply number f terms =
    ap (renumber_term number) (sym (term.rolls-Apply f terms))
    ∙ fold-roll-FofTerm FofTerm (renumber_term_step number) (term_layer.Apply f terms)

renumber-roll : (number : ℕ → ℕ) (x : Fof-F Fof) →
    renumber number (roll-Fof x) ≡ renumber_step number (map-Fof Fof Fof (renumber number) x)
unfolding renumber
renumber-roll number x = fold-roll-Fof Fof (renumber_step number) x

module _ (number : ℕ → ℕ) where
  pub renumber-true : renumber number formula.True ≡ formula.True
  renumber-true = ap (renumber number) (sym formula.rolls-True) ∙ renumber-roll number layer.True

  pub renumber-false : renumber number formula.False ≡ formula.False
  renumber-false = ap (renumber number) (sym formula.rolls-False) ∙ renumber-roll number layer.False

  pub renumber-atom : (p : ℕ) (terms : List FofTerm) →
      renumber number (formula.Atom p terms)
      ≡ formula.Atom (number p) (map (renumber_term number) terms)
  renumber-atom p terms =
      ap (renumber number) (sym (formula.rolls-Atom p terms))
      ∙ renumber-roll number (layer.Atom p terms)

  pub renumber-equal : (left right : FofTerm) →
      renumber number (formula.Equal left right)
      ≡ formula.Equal (renumber_term number left) (renumber_term number right)
  renumber-equal left right =
      ap (renumber number) (sym (formula.rolls-Equal left right))
      ∙ renumber-roll number (layer.Equal left right)

  pub renumber-not : (a : Fof) →
      renumber number (formula.Not a) ≡ formula.Not (renumber number a)
  renumber-not a =
      ap (renumber number) (sym (formula.rolls-Not a)) ∙ renumber-roll number (layer.Not a)

  pub renumber-and : (parts : List Fof) →
      renumber number (formula.And parts) ≡ formula.And (map (renumber number) parts)
  renumber-and parts =
      ap (renumber number) (sym (formula.rolls-And parts)) ∙ renumber-roll number (layer.And parts)

  pub renumber-or : (parts : List Fof) →
      renumber number (formula.Or parts) ≡ formula.Or (map (renumber number) parts)
  renumber-or parts =
      ap (renumber number) (sym (formula.rolls-Or parts)) ∙ renumber-roll number (layer.Or parts)

  pub renumber-implies : (a b : Fof) →
      renumber number (formula.Implies a b)
      ≡ formula.Implies (renumber number a) (renumber number b)
  renumber-implies a b =
      ap (renumber number) (sym (formula.rolls-Implies a b))
      ∙ renumber-roll number (layer.Implies a b)

  pub renumber-for_all : (body : Fof) →
      renumber number (formula.ForAll body) ≡ formula.ForAll (renumber number body)
  renumber-for_all body =
      ap (renumber number) (sym (formula.rolls-ForAll body))
      ∙ renumber-roll number (layer.ForAll body)

  pub renumber-exists : (body : Fof) →
      renumber number (formula.Exists body) ≡ formula.Exists (renumber number body)
  renumber-exists body =
      ap (renumber number) (sym (formula.rolls-Exists body))
      ∙ renumber-roll number (layer.Exists body)
