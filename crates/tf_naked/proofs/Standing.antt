-- The equations of where variables stand, one a variant, in their order.
use Rattle.std.specs.Prelude.{ℕ, ◌≡◌, ◌+◌, Bool, false, ◌||◌, List, map, eqb, get_or}
use Rattle.std.specs.List.{list_any}
use Rattle.std.proofs.Common.{sym, ap, ◌∙◌}
use Rattle.enc_base.proofs.Quantifiers.{list_any-map}
use Rattle.tf_core.specs.declared.ty.Ty.{Ty}
use Rattle.tf_core.specs.declared.term.Term.{Term}
use Rattle.tf_core.specs.declared.term.Term.TheVariants as term
use Rattle.tf_core.specs.declared.term.Term.TheOpen as term_layer
use Rattle.tf_core.specs.declared.term.Term.TheFolds.{fold-roll-Term}
use Rattle.tf_core.specs.declared.nnf.Nnf.{Nnf, roll-Nnf}
use Rattle.tf_core.specs.declared.nnf.Nnf.TheVariants as nnf
use Rattle.tf_core.specs.declared.nnf.Nnf.TheOpen.{Nnf-F}
use Rattle.tf_core.specs.declared.nnf.Nnf.TheOpen as layer
use Rattle.tf_core.specs.declared.nnf.Nnf.TheFolds.{fold-roll-Nnf, map-Nnf}
use Rattle.tf_core.specs.declared.signature.Signature.{Signature}
use Rattle.tf_naked.specs.declared.position.Position.{Position}
use Rattle.tf_naked.specs.declared.position.Kind.{Kind}
use Rattle.tf_naked.specs.declared.position.Kind.TheVariants.{Universal, Applied}
use Rattle.tf_naked.specs.Standing.{kind_of, kind_step, Standing, stands_in_application, stands_in_side, standing, standing_step, stands, stands_step}

pub kind_of-variable : (kinds : List Kind) (i : ℕ) →
    kind_of kinds (term.Var i) ≡ get_or kinds i Universal
unfolding kind_of
kind_of-variable kinds i =
    ap (kind_of kinds) (sym (term.rolls-Var i))
    ∙ fold-roll-Term Kind (kind_step kinds) (term_layer.Var i)

pub kind_of-apply : (kinds : List Kind) (f : ℕ) (types : List Ty) (terms : List Term) →
    kind_of kinds (term.Apply f types terms) ≡ Applied
unfolding kind_of
kind_of-apply kinds f types terms =
    ap (kind_of kinds) (sym (term.rolls-Apply f types terms))
    ∙ fold-roll-Term Kind (kind_step kinds) (term_layer.Apply f types terms)

module _ (g : Signature) (test : Position → Bool) where
  pub standing-variable : (n : ℕ) →
      standing g test (term.Var n) ≡ record { here = λ i. eqb n i; inside = λ i. false }
  unfolding standing
  standing-variable n =
      ap (standing g test) (sym (term.rolls-Var n))
      ∙ fold-roll-Term Standing (standing_step g test) (term_layer.Var n)

  pub standing-apply : (f : ℕ) (types : List Ty) (terms : List Term) →
      standing g test (term.Apply f types terms)
      ≡ record {
        here = λ i. false;
        inside = stands_in_application g test f (map (standing g test) terms);
      }
  unfolding standing
  standing-apply f types terms =
      ap (standing g test) (sym (term.rolls-Apply f types terms))
      ∙ fold-roll-Term Standing (standing_step g test) (term_layer.Apply f types terms)

  pub stands-roll : (x : Nnf-F Nnf) (i : ℕ) →
      stands g test (roll-Nnf x) i
      ≡ stands_step g test (map-Nnf Nnf (ℕ → Bool) (stands g test) x) i
  unfolding stands
  stands-roll x i =
      ap (λ (h : ℕ → Bool). h i) (fold-roll-Nnf (ℕ → Bool) (stands_step g test) x)

  pub stands-true : (i : ℕ) → stands g test nnf.True i ≡ false
  stands-true i = ap (λ p. stands g test p i) (sym nnf.rolls-True) ∙ stands-roll layer.True i

  pub stands-false : (i : ℕ) → stands g test nnf.False i ≡ false
  stands-false i = ap (λ p. stands g test p i) (sym nnf.rolls-False) ∙ stands-roll layer.False i

  pub stands-atom : (positive : Bool) (f : ℕ) (types : List Ty) (terms : List Term) (i : ℕ) →
      stands g test (nnf.Atom positive f types terms) i
      ≡ stands_in_application g test f (map (standing g test) terms) i
  stands-atom positive f types terms i =
      ap (λ p. stands g test p i) (sym (nnf.rolls-Atom positive f types terms))
      ∙ stands-roll (layer.Atom positive f types terms) i

  pub stands-equation : (positive : Bool) (ty : Ty) (left right : Term) (i : ℕ) →
      stands g test (nnf.Equation positive ty left right) i
      ≡ (stands_in_side test positive (standing g test left) i
      || stands_in_side test positive (standing g test right) i)
  stands-equation positive ty left right i =
      ap (λ p. stands g test p i) (sym (nnf.rolls-Equation positive ty left right))
      ∙ stands-roll (layer.Equation positive ty left right) i

  pub stands-and : (parts : List Nnf) (i : ℕ) →
      stands g test (nnf.And parts) i ≡ list_any (λ part. stands g test part i) parts
  stands-and parts i =
      ap (λ p. stands g test p i) (sym (nnf.rolls-And parts))
      ∙ stands-roll (layer.And parts) i
      ∙ list_any-map (λ (part : ℕ → Bool). part i) (stands g test) parts

  pub stands-or : (parts : List Nnf) (i : ℕ) →
      stands g test (nnf.Or parts) i ≡ list_any (λ part. stands g test part i) parts
  stands-or parts i =
      ap (λ p. stands g test p i) (sym (nnf.rolls-Or parts))
      ∙ stands-roll (layer.Or parts) i
      ∙ list_any-map (λ (part : ℕ → Bool). part i) (stands g test) parts

  pub stands-for_all : (ty : Ty) (body : Nnf) (i : ℕ) →
      stands g test (nnf.ForAll ty body) i ≡ stands g test body (i + 1)
  stands-for_all ty body i =
      ap (λ p. stands g test p i) (sym (nnf.rolls-ForAll ty body))
      ∙ stands-roll (layer.ForAll ty body) i

  pub stands-exists : (ty : Ty) (body : Nnf) (i : ℕ) →
      stands g test (nnf.Exists ty body) i ≡ stands g test body (i + 1)
  stands-exists ty body i =
      ap (λ p. stands g test p i) (sym (nnf.rolls-Exists ty body))
      ∙ stands-roll (layer.Exists ty body) i
