-- The equations of the list of a formula's equations, one a variant, in their order.
use Rattle.std.specs.Prelude.{ℕ, ◌≡◌, Bool, List, [], ◌∷◌, map}
use Rattle.std.proofs.Common.{refl, sym, ap, ◌∙◌}
use Rattle.tf_core.specs.declared.ty.Ty.{Ty}
use Rattle.tf_core.specs.declared.term.Term.{Term}
use Rattle.tf_core.specs.declared.nnf.Nnf.{Nnf, roll-Nnf}
use Rattle.tf_core.specs.declared.nnf.Nnf.TheVariants as nnf
use Rattle.tf_core.specs.declared.nnf.Nnf.TheOpen.{Nnf-F}
use Rattle.tf_core.specs.declared.nnf.Nnf.TheOpen as layer
use Rattle.tf_core.specs.declared.nnf.Nnf.TheFolds.{fold-roll-Nnf, map-Nnf}
use Rattle.tf_core.specs.Sorts.{joined}
use Rattle.tf_naked.specs.declared.position.Kind.{Kind}
use Rattle.tf_naked.specs.declared.position.Kind.TheVariants.{Universal, Existential}
use Rattle.tf_naked.specs.Standing.{kind_of}
use Rattle.tf_naked.specs.Naked.{Equation, equations_of, equations_step}

pub equations_of-roll : (x : Nnf-F Nnf) (kinds : List Kind) →
    equations_of (roll-Nnf x) kinds
    ≡ equations_step (map-Nnf Nnf (List Kind → List Equation) equations_of x) kinds
unfolding equations_of
equations_of-roll x kinds =
    ap (λ (h : List Kind → List Equation). h kinds)
    (fold-roll-Nnf (List Kind → List Equation) equations_step x)

-- each of a list of functions that were made of formulas, at one list of kinds
each_at : (kinds : List Kind) (parts : List Nnf) →
    map (λ (h : List Kind → List Equation). h kinds) (map equations_of parts)
    ≡ map (λ part. equations_of part kinds) parts
each_at kinds [] = refl
each_at kinds (part ∷ parts) = ap (λ lists. equations_of part kinds ∷ lists) (each_at kinds parts)

pub equations_of-true : (kinds : List Kind) → equations_of nnf.True kinds ≡ []
equations_of-true kinds =
    ap (λ p. equations_of p kinds) (sym nnf.rolls-True) ∙ equations_of-roll layer.True kinds

pub equations_of-false : (kinds : List Kind) → equations_of nnf.False kinds ≡ []
equations_of-false kinds =
    ap (λ p. equations_of p kinds) (sym nnf.rolls-False) ∙ equations_of-roll layer.False kinds

pub equations_of-atom : (positive : Bool) (f : ℕ) (types : List Ty) (terms : List Term)
    (kinds : List Kind) → equations_of (nnf.Atom positive f types terms) kinds ≡ []
equations_of-atom positive f types terms kinds =
    ap (λ p. equations_of p kinds) (sym (nnf.rolls-Atom positive f types terms))
    ∙ equations_of-roll (layer.Atom positive f types terms) kinds

pub equations_of-equation : (positive : Bool) (ty : Ty) (left right : Term) (kinds : List Kind) →
    equations_of (nnf.Equation positive ty left right) kinds
    ≡ record {
      positive = positive;
      ty = ty;
      left = kind_of kinds left;
      right = kind_of kinds right;
    } ∷ []
equations_of-equation positive ty left right kinds =
    ap (λ p. equations_of p kinds) (sym (nnf.rolls-Equation positive ty left right))
    ∙ equations_of-roll (layer.Equation positive ty left right) kinds

pub equations_of-and : (parts : List Nnf) (kinds : List Kind) →
    equations_of (nnf.And parts) kinds ≡ joined (map (λ part. equations_of part kinds) parts)
equations_of-and parts kinds =
    ap (λ p. equations_of p kinds) (sym (nnf.rolls-And parts))
    ∙ equations_of-roll (layer.And parts) kinds
    ∙ ap joined (each_at kinds parts)

pub equations_of-or : (parts : List Nnf) (kinds : List Kind) →
    equations_of (nnf.Or parts) kinds ≡ joined (map (λ part. equations_of part kinds) parts)
equations_of-or parts kinds =
    ap (λ p. equations_of p kinds) (sym (nnf.rolls-Or parts))
    ∙ equations_of-roll (layer.Or parts) kinds
    ∙ ap joined (each_at kinds parts)

pub equations_of-for_all : (ty : Ty) (body : Nnf) (kinds : List Kind) →
    equations_of (nnf.ForAll ty body) kinds ≡ equations_of body (Universal ∷ kinds)
equations_of-for_all ty body kinds =
    ap (λ p. equations_of p kinds) (sym (nnf.rolls-ForAll ty body))
    ∙ equations_of-roll (layer.ForAll ty body) kinds

pub equations_of-exists : (ty : Ty) (body : Nnf) (kinds : List Kind) →
    equations_of (nnf.Exists ty body) kinds ≡ equations_of body (Existential ∷ kinds)
equations_of-exists ty body kinds =
    ap (λ p. equations_of p kinds) (sym (nnf.rolls-Exists ty body))
    ∙ equations_of-roll (layer.Exists ty body) kinds
