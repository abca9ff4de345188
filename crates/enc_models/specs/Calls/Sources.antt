-- Words of private contracts: which type arguments are kept, and which arguments of a symbol's
-- translation tell the members for its parameters.
use Rattle.std.specs.Prelude.{ℕ, ◌+◌, ◌≡◌, Bool, true, false, List, [], ◌∷◌, map, cond, count_by}
use Rattle.std.specs.Prelude.{slice_index, Option}
use Rattle.tf_core.specs.declared.signature.Symbol.{Symbol}
use Rattle.tf_naked.specs.Covers.{is_parameter, argument_parameters}
use Rattle.enc_marks.specs.declared.choices.TypeArguments.{TypeArguments}
use Rattle.enc_marks.specs.Choices.{Choices, kept_types}

-- all type arguments are kept, those without a cover, or none
abbrev pub AreKeptTypes : Choices → Type 0
AreKeptTypes c =
    (which : TypeArguments) × ((symbol : Symbol) → c.keeps symbol ≡ kept_types which symbol)

-- the place of the first argument whose type is this parameter; the places begin with this one
abbrev pub cover_from : ℕ → ℕ → List (Option ℕ) → ℕ
cover_from parameter at [] = 0
cover_from parameter at (place ∷ places) =
    cond (is_parameter parameter place) at (cover_from parameter (at + 1) places)

-- The sources of the parameters from this one on: of one that is kept the next type argument, and
-- of another the argument at its cover. The arguments begin at a place of their own.
abbrev pub sources_from : ℕ → ℕ → ℕ → List (Option ℕ) → List Bool → List ℕ
sources_from parameter next first places [] = []
sources_from parameter next first places (true ∷ keeps) =
    next ∷ sources_from (parameter + 1) (next + 1) first places keeps
sources_from parameter next first places (false ∷ keeps) =
    cover_from parameter first places ∷ sources_from (parameter + 1) next first places keeps

-- For each parameter of a symbol, of which these are kept, the place of the argument of the
-- symbol's translation that tells its member. The type arguments that are kept come first.
abbrev pub sources : List Bool → Symbol → List ℕ
sources keeps symbol =
    sources_from 0 0 (count_by (λ kept. kept) keeps) (argument_parameters symbol) keeps

-- the numbers at places
abbrev pub numbers_at : List ℕ → List ℕ → List ℕ
numbers_at values places = map (slice_index values) places
