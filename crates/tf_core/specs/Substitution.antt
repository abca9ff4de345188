-- Terms with their variables raised, and terms and formulas with their types replaced.
use Rattle.std.specs.Prelude.{Bool, ℕ, ◌+◌, List, map, cond, ltb}
use Rattle.std.specs.List.{list_all}
use Rattle.tf_core.specs.declared.ty.Ty.{Ty}
use Rattle.tf_core.specs.declared.term.Term.{Term}
use Rattle.tf_core.specs.declared.term.Term.TheVariants as term
use Rattle.tf_core.specs.declared.term.Term.TheOpen.{Term-F}
use Rattle.tf_core.specs.declared.term.Term.TheOpen as term_layer
use Rattle.tf_core.specs.declared.term.Term.TheFolds.{fold-Term}
use Rattle.tf_core.specs.declared.nnf.Nnf.{Nnf}
use Rattle.tf_core.specs.declared.nnf.Nnf.TheVariants as nnf
use Rattle.tf_core.specs.declared.nnf.Nnf.TheOpen.{Nnf-F}
use Rattle.tf_core.specs.declared.nnf.Nnf.TheOpen as layer
use Rattle.tf_core.specs.declared.nnf.Nnf.TheFolds.{fold-Nnf}
use Rattle.tf_core.specs.Types.{instantiate}

-- a variable raised where it stands at or above a bound
abbrev pub raised : ℕ → ℕ → ℕ → ℕ
raised by from i = cond (ltb i from) i (i + by)

-- one layer of the test that each variable is below a bound
abbrev pub variables_below_step : ℕ → Term-F Bool → Bool
variables_below_step bound (term_layer.Var i) = ltb i bound
variables_below_step bound (term_layer.Apply f types terms) = list_all (λ t. t) terms

-- whether each variable of a term is below a bound
unfoldable pub variables_below : ℕ → Term → Bool
variables_below bound = fold-Term Bool (variables_below_step bound)

-- one layer of a shifted term
abbrev pub shift_step : ℕ → ℕ → Term-F Term → Term
shift_step by from (term_layer.Var i) = term.Var (raised by from i)
shift_step by from (term_layer.Apply f types terms) = term.Apply f types terms

-- a term with each variable at or above a bound raised: what it is behind so many new binders
unfoldable pub shift : ℕ → ℕ → Term → Term
shift by from = fold-Term Term (shift_step by from)

-- one layer of a term with its types replaced
abbrev pub substitute_term_step : List Ty → Term-F Term → Term
substitute_term_step types (term_layer.Var i) = term.Var i
substitute_term_step types (term_layer.Apply f arguments terms) =
    term.Apply f (map (instantiate types) arguments) terms

-- a term with its type variables replaced
unfoldable pub substitute_term : List Ty → Term → Term
substitute_term types = fold-Term Term (substitute_term_step types)

-- one layer of a formula with its types replaced
abbrev pub substitute_types_step : List Ty → Nnf-F Nnf → Nnf
substitute_types_step types layer.True = nnf.True
substitute_types_step types layer.False = nnf.False
substitute_types_step types (layer.Atom positive f arguments terms) =
    nnf.Atom positive f (map (instantiate types) arguments) (map (substitute_term types) terms)
substitute_types_step types (layer.Equation positive ty left right) =
    nnf.Equation positive (instantiate types ty)
    (substitute_term types left) (substitute_term types right)
substitute_types_step types (layer.And parts) = nnf.And parts
substitute_types_step types (layer.Or parts) = nnf.Or parts
substitute_types_step types (layer.ForAll ty body) = nnf.ForAll (instantiate types ty) body
substitute_types_step types (layer.Exists ty body) = nnf.Exists (instantiate types ty) body

-- a formula with its type variables replaced throughout: at binders, equations and symbols
unfoldable pub substitute_types : List Ty → Nnf → Nnf
substitute_types types = fold-Nnf Nnf (substitute_types_step types)
