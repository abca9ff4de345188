-- The equations of the types at a formula's binders, one a variant, in their order.
use Rattle.std.specs.Prelude.{ℕ, ◌≡◌, Bool, List, [], ◌∷◌, map}
use Rattle.std.proofs.Common.{sym, ap, ◌∙◌}
use Rattle.tf_core.specs.declared.ty.Ty.{Ty}
use Rattle.tf_core.specs.declared.term.Term.{Term}
use Rattle.tf_core.specs.declared.nnf.Nnf.{Nnf}
use Rattle.tf_core.specs.declared.nnf.Nnf.TheVariants as nnf
use Rattle.tf_core.specs.declared.nnf.Nnf.TheOpen as layer
use Rattle.tf_core.specs.declared.nnf.Nnf.TheFolds.{fold-roll-Nnf}
use Rattle.tf_core.specs.Sorts.{joined, binder_types, binder_types_step}

pub binder_types-true : binder_types nnf.True ≡ []
unfolding binder_types
binder_types-true =
    ap binder_types (sym nnf.rolls-True)
    ∙ fold-roll-Nnf (List Ty) binder_types_step layer.True

pub binder_types-false : binder_types nnf.False ≡ []
unfolding binder_types
binder_types-false =
    ap binder_types (sym nnf.rolls-False)
    ∙ fold-roll-Nnf (List Ty) binder_types_step layer.False

pub binder_types-atom : (positive : Bool) (f : ℕ) (types : List Ty) (terms : List Term) →
    binder_types (nnf.Atom positive f types terms) ≡ []
unfolding binder_types
binder_types-atom positive f types terms =
    ap binder_types (sym (nnf.rolls-Atom positive f types terms))
    ∙ fold-roll-Nnf (List Ty) binder_types_step (layer.Atom positive f types terms)

pub binder_types-equation : (positive : Bool) (ty : Ty) (left right : Term) →
    binder_types (nnf.Equation positive ty left right) ≡ []
unfolding binder_types
binder_types-equation positive ty left right =
    ap binder_types (sym (nnf.rolls-Equation positive ty left right))
    ∙ fold-roll-Nnf (List Ty) binder_types_step (layer.Equation positive ty left right)

pub binder_types-and : (parts : List Nnf) →
    binder_types (nnf.And parts) ≡ joined (map binder_types parts)
unfolding binder_types
binder_types-and parts =
    ap binder_types (sym (nnf.rolls-And parts))
    ∙ fold-roll-Nnf (List Ty) binder_types_step (layer.And parts)

pub binder_types-or : (parts : List Nnf) →
    binder_types (nnf.Or parts) ≡ joined (map binder_types parts)
unfolding binder_types
binder_types-or parts =
    ap binder_types (sym (nnf.rolls-Or parts))
    ∙ fold-roll-Nnf (List Ty) binder_types_step (layer.Or parts)

pub binder_types-for_all : (ty : Ty) (body : Nnf) →
    binder_types (nnf.ForAll ty body) ≡ ty ∷ binder_types body
unfolding binder_types
binder_types-for_all ty body =
    ap binder_types (sym (nnf.rolls-ForAll ty body))
    ∙ fold-roll-Nnf (List Ty) binder_types_step (layer.ForAll ty body)

pub binder_types-exists : (ty : Ty) (body : Nnf) →
    binder_types (nnf.Exists ty body) ≡ ty ∷ binder_types body
unfolding binder_types
binder_types-exists ty body =
    ap binder_types (sym (nnf.rolls-Exists ty body))
    ∙ fold-roll-Nnf (List Ty) binder_types_step (layer.Exists ty body)
