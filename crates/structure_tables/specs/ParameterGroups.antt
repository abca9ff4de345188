-- Groups of a symbol's parameters: those that stand in one argument type are of one group. So the
-- entries of a symbol can be counted group by group.
use Rattle.std.specs.Prelude.{ℕ, ◌≡◌, ◌<◌, Bool, List, [], ◌∷◌, map, length, cond, eqb, ltb, min, false, slice_index, flat_map}
use Rattle.std.specs.List.{All}
use Rattle.enc_base.specs.Tables.{tuple_count, total}
use Rattle.tf_core.specs.declared.ty.Ty.{Ty}
use Rattle.tf_core.specs.declared.ty.Ty.TheOpen.{Ty-F}
use Rattle.tf_core.specs.declared.ty.Ty.TheOpen as layer
use Rattle.tf_core.specs.declared.ty.Ty.TheFolds.{fold-Ty}
use Rattle.tf_core.specs.declared.signature.Symbol.{Symbol}
use Rattle.tf_core.specs.Structures.{Typed, member_count}
use Rattle.structure_tables.specs.ParameterSets.{bounds_of, uses_of}
use Rattle.structure_tables.specs.TypeWays.{sizes_of_type}

-- the variables of a type, from the left

abbrev pub variables_step : Ty-F (List ℕ) → List ℕ
variables_step (layer.Var i) = i ∷ []
variables_step (layer.Apply c variables) = flat_map (λ part. part) variables

unfoldable pub variables : Ty → List ℕ
variables = fold-Ty (List ℕ) variables_step

-- the group of variables, that of the first of them, or a number of its own where there are none
abbrev pub group_of : List ℕ → List ℕ → ℕ
group_of groups [] = length groups
group_of groups (variable ∷ others) = slice_index groups variable

-- the group of a type
abbrev pub group_of_type : List ℕ → Ty → ℕ
group_of_type groups ty = group_of groups (variables ty)

-- the variables are parameters
abbrev pub AreParameters : ℕ → List ℕ → Type 0
AreParameters parameters variables = All (λ variable. variable < parameters) variables

-- all variables are of one group
abbrev pub AreTogether : List ℕ → List ℕ → Type 0
AreTogether groups variables =
    All (λ variable. slice_index groups variable ≡ group_of groups variables) variables

-- what were together are together still
abbrev pub StayTogether : List ℕ → List ℕ → Type 0
StayTogether before after =
    (i j : ℕ) → i < length before → j < length before →
    slice_index before i ≡ slice_index before j → slice_index after i ≡ slice_index after j

-- the groups after variables were put together
pub record AreJoined (before variables after : List ℕ) : Type 0 where
  pub long : length after ≡ length before
  pub below : All (λ group. group < length after) after
  pub stay : StayTogether before after
  pub together : AreTogether after variables

-- Groups of a symbol's parameters and of its argument types: the parameters that stand in one
-- argument type are together.
pub record AreGroups (symbol : Symbol) (parameters arguments : List ℕ) : Type 0 where
  pub long : length parameters ≡ symbol.parameters
  pub below : All (λ group. group < length parameters) parameters
  pub together : All (λ ty. AreTogether parameters (variables ty)) symbol.arguments
  pub found : arguments ≡ map (group_of_type parameters) symbol.arguments

-- how often each parameter occurs in argument types, more often than twice being as twice
pub record AreUses (symbol : Symbol) (uses : List ℕ) : Type 0 where
  pub long : length uses ≡ symbol.parameters
  pub are : (i : ℕ) → i < symbol.parameters →
      slice_index uses i ≡ min (uses_of (flat_map variables symbol.arguments) i) 2

-- a parameter that occurs more than once is kept: it has one member at a time
abbrev pub is_kept : List ℕ → ℕ → Bool
is_kept uses i = ltb 1 (slice_index uses i)

-- a parameter that doesn't occur
abbrev pub is_unused : List ℕ → ℕ → Bool
is_unused uses i = eqb (slice_index uses i) 0

-- The groups inside a set have members for their kept parameters, and the sizes that their argument
-- types have together under these; outside it each parameter has the first member, and each argument
-- type the size 1.

abbrev pub kept_inside : (ℕ → Bool) → List ℕ → (ℕ → Bool) → ℕ → Bool
kept_inside kept groups inside i = cond (kept i) (inside (slice_index groups i)) false

abbrev pub sizes_inside : Typed → (ℕ → Bool) → List Ty → List ℕ → (ℕ → Bool) → List ℕ → List ℕ
sizes_inside s kept arguments groups inside members =
    map
    (λ ty. cond (inside (group_of_type groups ty)) (sizes_of_type s kept members ty) 1)
    arguments

-- the entries of a symbol, as far as the groups inside a set give them
abbrev pub count_inside : Typed → (ℕ → Bool) → Symbol → List ℕ → (ℕ → Bool) → ℕ
count_inside s kept symbol groups inside =
    total (bounds_of (member_count s) (kept_inside kept groups inside) symbol.parameters)
    (λ members. tuple_count (sizes_inside s kept symbol.arguments groups inside members))
