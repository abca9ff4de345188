-- How the variables of the universal binders of a formula stand.
use Rattle.std.specs.Prelude.{List, [], ◌∷◌, map}
use Rattle.tf_core.specs.declared.nnf.Nnf.{Nnf}
use Rattle.tf_core.specs.declared.nnf.Nnf.TheOpen.{Nnf-F}
use Rattle.tf_core.specs.declared.nnf.Nnf.TheOpen as layer
use Rattle.tf_core.specs.declared.nnf.Nnf.TheFolds.{para-Nnf}
use Rattle.tf_core.specs.declared.signature.Signature.{Signature}
use Rattle.tf_core.specs.Sorts.{joined}
use Rattle.tf_naked.specs.declared.binder.Binder.{Binder}
use Rattle.tf_naked.specs.Standing.{is_undercover, is_naked}

-- a universal binder round this formula: whether its variable is undercover, and whether it is
-- naked
abbrev pub binder_of : Signature → Nnf → Binder
binder_of g body = record { undercover = is_undercover g body; naked = is_naked g body }

-- one layer, each part beside its own binders
abbrev pub universal_binders_step : Signature → Nnf-F (Nnf × List Binder) → List Binder
universal_binders_step g layer.True = []
universal_binders_step g layer.False = []
universal_binders_step g (layer.Atom positive f types terms) = []
universal_binders_step g (layer.Equation positive ty left right) = []
universal_binders_step g (layer.And parts) = joined (map (λ part. part.1) parts)
universal_binders_step g (layer.Or parts) = joined (map (λ part. part.1) parts)
universal_binders_step g (layer.ForAll ty body) = binder_of g body.0 ∷ body.1
universal_binders_step g (layer.Exists ty body) = body.1

-- the universal binders of a formula in reading order, each before those of its body
unfoldable pub universal_binders : Signature → Nnf → List Binder
universal_binders g = para-Nnf (List Binder) (universal_binders_step g)
