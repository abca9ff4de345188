-- The equations of the translation of types, terms and formulas, one a variant, in their order.
use Rattle.std.specs.Prelude.{ℕ, ◌≡◌, ◌+◌, ◌-◌, Bool, List, [], ◌∷◌, map, get_or}
use Rattle.std.proofs.Common.{refl, sym, ap, ◌∙◌}
use Rattle.tf_core.specs.declared.ty.Ty.{Ty}
use Rattle.tf_core.specs.declared.ty.Ty.TheVariants as type
use Rattle.tf_core.specs.declared.ty.Ty.TheOpen as type_layer
use Rattle.tf_core.specs.declared.ty.Ty.TheFolds.{fold-roll-Ty}
use Rattle.tf_core.specs.declared.term.Term.{Term}
use Rattle.tf_core.specs.declared.term.Term.TheVariants as term
use Rattle.tf_core.specs.declared.term.Term.TheOpen as term_layer
use Rattle.tf_core.specs.declared.term.Term.TheFolds.{fold-roll-Term}
use Rattle.tf_core.specs.declared.nnf.Nnf.{Nnf, roll-Nnf}
use Rattle.tf_core.specs.declared.nnf.Nnf.TheVariants as nnf
use Rattle.tf_core.specs.declared.nnf.Nnf.TheOpen.{Nnf-F}
use Rattle.tf_core.specs.declared.nnf.Nnf.TheOpen as layer
use Rattle.tf_core.specs.declared.nnf.Nnf.TheFolds.{map-Nnf, para-roll-Nnf}
use Rattle.tf_core.specs.declared.signature.Signature.{Signature}
use Rattle.fof_models.specs.declared.formula.FofTerm.{FofTerm}
use Rattle.fof_models.specs.declared.formula.FofTerm.TheVariants as fof_term
use Rattle.fof_models.specs.declared.formula.Fof.{Fof}
use Rattle.fof_models.specs.declared.formula.Fof.TheVariants as fof
use Rattle.tf_naked.specs.declared.position.Kind.{Kind}
use Rattle.tf_naked.specs.declared.position.Kind.TheVariants.{Universal, Existential, Applied}
use Rattle.enc_marks.specs.Choices.{Choices}
use Rattle.enc_marks.specs.Translation.{Numbers, Bare, type_term, type_term_step, literal, arguments_of, bare, bare_step, side, for_all, exists, formula, formula_step}

pub type_term-variable : (number : ℕ → ℕ) (depth i : ℕ) →
    type_term number depth (type.Var i) ≡ fof_term.Var (depth - (i + 1))
unfolding type_term
type_term-variable number depth i =
    ap (type_term number depth) (sym (type.rolls-Var i))
    ∙ fold-roll-Ty FofTerm (type_term_step number depth) (type_layer.Var i)

pub type_term-apply : (number : ℕ → ℕ) (depth c : ℕ) (arguments : List Ty) →
    type_term number depth (type.Apply c arguments)
    ≡ fof_term.Apply (number c) (map (type_term number depth) arguments)
unfolding type_term
type_term-apply number depth c arguments =
    ap (type_term number depth) (sym (type.rolls-Apply c arguments))
    ∙ fold-roll-Ty FofTerm (type_term_step number depth) (type_layer.Apply c arguments)

module _ (c : Choices) (k : Numbers) (g : Signature) where
  pub bare-variable : (depth : ℕ) (kinds : List Kind) (i : ℕ) →
      bare c k g depth kinds (term.Var i)
      ≡ record { kind = get_or kinds i Universal; term = fof_term.Var i }
  unfolding bare
  bare-variable depth kinds i =
      ap (bare c k g depth kinds) (sym (term.rolls-Var i))
      ∙ fold-roll-Term Bare (bare_step c k g depth kinds) (term_layer.Var i)

  pub bare-apply : (depth : ℕ) (kinds : List Kind) (f : ℕ) (types : List Ty) (terms : List Term) →
      bare c k g depth kinds (term.Apply f types terms)
      ≡ record {
        kind = Applied;
        term = fof_term.Apply (k.symbol f)
            (arguments_of c k g depth f types (map (bare c k g depth kinds) terms));
      }
  unfolding bare
  bare-apply depth kinds f types terms =
      ap (bare c k g depth kinds) (sym (term.rolls-Apply f types terms))
      ∙ fold-roll-Term Bare (bare_step c k g depth kinds) (term_layer.Apply f types terms)

  pub formula-roll : (x : Nnf-F Nnf) (depth : ℕ) (kinds : List Kind) →
      formula c k g (roll-Nnf x) depth kinds
      ≡ formula_step c k g
      (map-Nnf Nnf (Nnf × (ℕ → List Kind → Fof)) (λ part. (part, formula c k g part)) x) depth kinds
  unfolding formula
  formula-roll x depth kinds =
      ap (λ (h : ℕ → List Kind → Fof). h depth kinds)
      (para-roll-Nnf (ℕ → List Kind → Fof) (formula_step c k g) x)

  -- the translations that stand beside the parts
  each_second : (parts : List Nnf) (depth : ℕ) (kinds : List Kind) →
      map (λ (pair : Nnf × (ℕ → List Kind → Fof)). pair.1 depth kinds)
      (map (λ part. (part, formula c k g part)) parts)
      ≡ map (λ part. formula c k g part depth kinds) parts
  each_second [] depth kinds = refl
  each_second (part ∷ parts) depth kinds =
      ap (λ others. formula c k g part depth kinds ∷ others) (each_second parts depth kinds)

  pub formula-true : (depth : ℕ) (kinds : List Kind) → formula c k g nnf.True depth kinds ≡ fof.True
  formula-true depth kinds =
      ap (λ p. formula c k g p depth kinds) (sym nnf.rolls-True)
      ∙ formula-roll layer.True depth kinds

  pub formula-false : (depth : ℕ) (kinds : List Kind) →
      formula c k g nnf.False depth kinds ≡ fof.False
  formula-false depth kinds =
      ap (λ p. formula c k g p depth kinds) (sym nnf.rolls-False)
      ∙ formula-roll layer.False depth kinds

  pub formula-atom : (positive : Bool) (f : ℕ) (types : List Ty) (terms : List Term) (depth : ℕ)
      (kinds : List Kind) →
      formula c k g (nnf.Atom positive f types terms) depth kinds
      ≡ literal positive
      (fof.Atom (k.symbol f)
      (arguments_of c k g depth f types (map (bare c k g depth kinds) terms)))
  formula-atom positive f types terms depth kinds =
      ap (λ p. formula c k g p depth kinds) (sym (nnf.rolls-Atom positive f types terms))
      ∙ formula-roll (layer.Atom positive f types terms) depth kinds

  pub formula-equation : (positive : Bool) (ty : Ty) (left right : Term) (depth : ℕ)
      (kinds : List Kind) →
      formula c k g (nnf.Equation positive ty left right) depth kinds
      ≡ literal positive
      (fof.Equal
      (side c k g depth kinds positive ty left)
      (side c k g depth kinds positive ty right))
  formula-equation positive ty left right depth kinds =
      ap (λ p. formula c k g p depth kinds) (sym (nnf.rolls-Equation positive ty left right))
      ∙ formula-roll (layer.Equation positive ty left right) depth kinds

  pub formula-and : (parts : List Nnf) (depth : ℕ) (kinds : List Kind) →
      formula c k g (nnf.And parts) depth kinds
      ≡ fof.And (map (λ part. formula c k g part depth kinds) parts)
  formula-and parts depth kinds =
      ap (λ p. formula c k g p depth kinds) (sym (nnf.rolls-And parts))
      ∙ formula-roll (layer.And parts) depth kinds
      ∙ ap fof.And (each_second parts depth kinds)

  pub formula-or : (parts : List Nnf) (depth : ℕ) (kinds : List Kind) →
      formula c k g (nnf.Or parts) depth kinds
      ≡ fof.Or (map (λ part. formula c k g part depth kinds) parts)
  formula-or parts depth kinds =
      ap (λ p. formula c k g p depth kinds) (sym (nnf.rolls-Or parts))
      ∙ formula-roll (layer.Or parts) depth kinds
      ∙ ap fof.Or (each_second parts depth kinds)

  pub formula-for_all : (ty : Ty) (body : Nnf) (depth : ℕ) (kinds : List Kind) →
      formula c k g (nnf.ForAll ty body) depth kinds
      ≡ for_all c k g (depth + 1) ty body (formula c k g body (depth + 1) (Universal ∷ kinds))
  formula-for_all ty body depth kinds =
      ap (λ p. formula c k g p depth kinds) (sym (nnf.rolls-ForAll ty body))
      ∙ formula-roll (layer.ForAll ty body) depth kinds

  pub formula-exists : (ty : Ty) (body : Nnf) (depth : ℕ) (kinds : List Kind) →
      formula c k g (nnf.Exists ty body) depth kinds
      ≡ exists c k g (depth + 1) ty (formula c k g body (depth + 1) (Existential ∷ kinds))
  formula-exists ty body depth kinds =
      ap (λ p. formula c k g p depth kinds) (sym (nnf.rolls-Exists ty body))
      ∙ formula-roll (layer.Exists ty body) depth kinds
