-- Of which binders of a formula the variable is undercover. The binders, of both kinds, are counted
-- in reading order: each before those of its body.
use Rattle.std.specs.Prelude.{ℕ, ◌<◌, Bool, false, List, [], ◌∷◌, map, length, slice_get}
use Rattle.std.specs.Prelude.{slice_index_or, Option, Some, None}
use Rattle.tf_core.specs.declared.nnf.Nnf.{Nnf}
use Rattle.tf_core.specs.declared.nnf.Nnf.TheOpen.{Nnf-F}
use Rattle.tf_core.specs.declared.nnf.Nnf.TheOpen as layer
use Rattle.tf_core.specs.declared.nnf.Nnf.TheFolds.{para-Nnf}
use Rattle.tf_core.specs.declared.signature.Signature.{Signature}
use Rattle.tf_core.specs.declared.normal.NormalFormula.{NormalFormula}
use Rattle.tf_core.specs.declared.normal.Normal.{Normal}
use Rattle.tf_core.specs.Sorts.{joined}
use Rattle.tf_naked.specs.Standing.{is_undercover}

-- one layer, each part beside what is said of its own binders
abbrev pub undercover_binders_step : Signature → Nnf-F (Nnf × List Bool) → List Bool
undercover_binders_step g layer.True = []
undercover_binders_step g layer.False = []
undercover_binders_step g (layer.Atom positive f types terms) = []
undercover_binders_step g (layer.Equation positive ty left right) = []
undercover_binders_step g (layer.And parts) = joined (map (λ part. part.1) parts)
undercover_binders_step g (layer.Or parts) = joined (map (λ part. part.1) parts)
undercover_binders_step g (layer.ForAll ty body) = is_undercover g body.0 ∷ body.1
undercover_binders_step g (layer.Exists ty body) = false ∷ body.1

-- for each binder of a formula, whether it is universal and its variable undercover
unfoldable pub undercover_binders : Signature → Nnf → List Bool
undercover_binders g = para-Nnf (List Bool) (undercover_binders_step g)

-- the same of a formula that may not be there
abbrev pub undercover_in : Signature → Option NormalFormula → List Bool
undercover_in g None = []
undercover_in g (Some formula) = undercover_binders g formula.body

-- the same of the formula of a problem that has a number
abbrev pub undercover_at : Normal → ℕ → List Bool
undercover_at normal formula = undercover_in normal.signature (slice_get normal.formulas formula)

-- a problem has a formula of this number, and that a binder of this number
abbrev pub HasBinder : Normal → ℕ → ℕ → Type 0
HasBinder normal formula binder = binder < length (undercover_at normal formula)

-- whether a binder of a formula is universal and its variable undercover
abbrev pub is_undercover_at : Normal → ℕ → ℕ → Bool
is_undercover_at normal formula binder =
    slice_index_or (undercover_at normal formula) binder false
