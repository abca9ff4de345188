-- The equations of values and of truth, one a variant, in their order.
use Rattle.std.specs.Prelude.{ℕ, ◌≡◌, Bool, true, false, not, ◌||◌, List, ◌∷◌, map, eqb, slice_index}
use Rattle.std.specs.List.{list_all, list_any}
use Rattle.std.proofs.Common.{sym, ap, ◌∙◌}
use Rattle.std.proofs.lemmas.List.Folds.{list_all-map}
use Rattle.enc_base.specs.Quantifiers.{all_below, some_below}
use Rattle.enc_base.proofs.Quantifiers.{list_any-map}
use Rattle.fof_models.specs.declared.formula.FofTerm.{FofTerm}
use Rattle.fof_models.specs.declared.formula.FofTerm.TheVariants as term
use Rattle.fof_models.specs.declared.formula.FofTerm.TheOpen as term_layer
use Rattle.fof_models.specs.declared.formula.FofTerm.TheFolds.{fold-roll-FofTerm}
use Rattle.fof_models.specs.declared.formula.Fof.{Fof, roll-Fof}
use Rattle.fof_models.specs.declared.formula.Fof.TheVariants as formula
use Rattle.fof_models.specs.declared.formula.Fof.TheOpen.{Fof-F}
use Rattle.fof_models.specs.declared.formula.Fof.TheOpen as layer
use Rattle.fof_models.specs.declared.formula.Fof.TheFolds.{fold-roll-Fof, map-Fof}
use Rattle.fof_models.specs.Structures.{Untyped}
use Rattle.fof_models.specs.Truth.{value, value_step, truth, truth_step}

pub value-variable : (s : Untyped) (elements : List ℕ) (i : ℕ) →
    value s elements (term.Var i) ≡ slice_index elements i
unfolding value
value-variable s elements i =
    ap (value s elements) (sym (term.rolls-Var i))
    ∙ fold-roll-FofTerm ℕ (value_step s elements) (term_layer.Var i)

pub value-apply : (s : Untyped) (elements : List ℕ) (f : ℕ) (terms : List FofTerm) →
    value s elements (term.Apply f terms) ≡ s.symbol_at f (map (value s elements) terms)
unfolding value
value-apply s elements f terms =
    ap (value s elements) (sym (term.rolls-Apply f terms))
    ∙ fold-roll-FofTerm ℕ (value_step s elements) (term_layer.Apply f terms)

truth-roll : (s : Untyped) (x : Fof-F Fof) (elements : List ℕ) →
    truth s (roll-Fof x) elements ≡ truth_step s (map-Fof Fof (List ℕ → Bool) (truth s) x) elements
unfolding truth
truth-roll s x elements =
    ap (λ (test : List ℕ → Bool). test elements) (fold-roll-Fof (List ℕ → Bool) (truth_step s) x)

pub truth-true : (s : Untyped) (elements : List ℕ) →
    truth s formula.True elements
    ≡ true
truth-true s elements =
    ap (λ x. truth s x elements) (sym formula.rolls-True)
    ∙ truth-roll s layer.True elements

pub truth-false : (s : Untyped) (elements : List ℕ) →
    truth s formula.False elements
    ≡ false
truth-false s elements =
    ap (λ x. truth s x elements) (sym formula.rolls-False)
    ∙ truth-roll s layer.False elements

pub truth-atom : (s : Untyped) (p : ℕ) (terms : List FofTerm) (elements : List ℕ) →
    truth s (formula.Atom p terms) elements
    ≡ eqb (s.symbol_at p (map (value s elements) terms)) 1
truth-atom s p terms elements =
    ap (λ x. truth s x elements) (sym (formula.rolls-Atom p terms))
    ∙ truth-roll s (layer.Atom p terms) elements

pub truth-equal : (s : Untyped) (left right : FofTerm) (elements : List ℕ) →
    truth s (formula.Equal left right) elements
    ≡ eqb (value s elements left) (value s elements right)
truth-equal s left right elements =
    ap (λ x. truth s x elements) (sym (formula.rolls-Equal left right))
    ∙ truth-roll s (layer.Equal left right) elements

pub truth-not : (s : Untyped) (a : Fof) (elements : List ℕ) →
    truth s (formula.Not a) elements
    ≡ not (truth s a elements)
truth-not s a elements =
    ap (λ x. truth s x elements) (sym (formula.rolls-Not a))
    ∙ truth-roll s (layer.Not a) elements

pub truth-and : (s : Untyped) (parts : List Fof) (elements : List ℕ) →
    truth s (formula.And parts) elements
    ≡ list_all (λ part. truth s part elements) parts
truth-and s parts elements =
    ap (λ x. truth s x elements) (sym (formula.rolls-And parts))
    ∙ truth-roll s (layer.And parts) elements
    ∙ list_all-map (λ (test : List ℕ → Bool). test elements) (truth s) parts

pub truth-or : (s : Untyped) (parts : List Fof) (elements : List ℕ) →
    truth s (formula.Or parts) elements
    ≡ list_any (λ part. truth s part elements) parts
truth-or s parts elements =
    ap (λ x. truth s x elements) (sym (formula.rolls-Or parts))
    ∙ truth-roll s (layer.Or parts) elements
    ∙ list_any-map (λ (test : List ℕ → Bool). test elements) (truth s) parts

pub truth-implies : (s : Untyped) (a b : Fof) (elements : List ℕ) →
    truth s (formula.Implies a b) elements
    ≡ (not (truth s a elements) || truth s b elements)
truth-implies s a b elements =
    ap (λ x. truth s x elements) (sym (formula.rolls-Implies a b))
    ∙ truth-roll s (layer.Implies a b) elements

pub truth-for_all : (s : Untyped) (body : Fof) (elements : List ℕ) →
    truth s (formula.ForAll body) elements
    ≡ all_below s.size (λ element. truth s body (element ∷ elements))
truth-for_all s body elements =
    ap (λ x. truth s x elements) (sym (formula.rolls-ForAll body))
    ∙ truth-roll s (layer.ForAll body) elements

pub truth-exists : (s : Untyped) (body : Fof) (elements : List ℕ) →
    truth s (formula.Exists body) elements
    ≡ some_below s.size (λ element. truth s body (element ∷ elements))
truth-exists s body elements =
    ap (λ x. truth s x elements) (sym (formula.rolls-Exists body))
    ∙ truth-roll s (layer.Exists body) elements
