-- The universal binders of a formula, each with the formula that it stands round.
use Rattle.std.specs.Prelude.{Bool, ◌&&◌, List, [], ◌∷◌, map}
use Rattle.tf_core.specs.declared.ty.Ty.{Ty}
use Rattle.tf_core.specs.declared.nnf.Nnf.{Nnf}
use Rattle.tf_core.specs.declared.nnf.Nnf.TheOpen.{Nnf-F}
use Rattle.tf_core.specs.declared.nnf.Nnf.TheOpen as layer
use Rattle.tf_core.specs.declared.nnf.Nnf.TheFolds.{para-Nnf}
use Rattle.tf_core.specs.declared.signature.Signature.{Signature}
use Rattle.tf_core.specs.Sorts.{joined}
use Rattle.tf_core.specs.Types.{same_type}
use Rattle.tf_naked.specs.Standing.{is_naked}

-- a universal binder: the type of its variable, and its body
pub record Universal : Type 0 where
  pub ty : Ty
  pub body : Nnf

-- one layer, each part beside its own binders
abbrev pub universals_step : Nnf-F (Nnf × List Universal) → List Universal
universals_step layer.True = []
universals_step layer.False = []
universals_step (layer.Atom positive f types terms) = []
universals_step (layer.Equation positive ty left right) = []
universals_step (layer.And parts) = joined (map (λ part. part.1) parts)
universals_step (layer.Or parts) = joined (map (λ part. part.1) parts)
universals_step (layer.ForAll ty body) = record { ty = ty; body = body.0 } ∷ body.1
universals_step (layer.Exists ty body) = body.1

-- the universal binders of a formula in reading order, each before those of its body
unfoldable pub universals_of : Nnf → List Universal
universals_of = para-Nnf (List Universal) universals_step

-- whether the variable of a universal binder is naked and of this type
abbrev pub is_naked_of : Signature → Ty → Universal → Bool
is_naked_of g ty binder = is_naked g binder.body && same_type ty binder.ty
