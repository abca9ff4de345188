-- Flags of the parameters of a symbol, as they are set argument by argument.
use Rattle.std.specs.Prelude.{ℕ, Bool, true, false, not, List, [], ◌∷◌, get_or, set, Option, Some}
use Rattle.std.specs.Prelude.{None}

-- whether there is a parameter, and its flag isn't set
abbrev pub is_unseen : List Bool → Option ℕ → Bool
is_unseen seen None = false
is_unseen seen (Some parameter) = not (get_or seen parameter false)

-- the flags with that of a parameter set to a value
abbrev pub flagged : Bool → List Bool → Option ℕ → List Bool
flagged flag flags None = flags
flagged flag flags (Some parameter) = set flags parameter flag

-- for each place, whether its parameter's flag isn't set before
abbrev pub unseen_places : List Bool → List (Option ℕ) → List Bool
unseen_places seen [] = []
unseen_places seen (parameter ∷ parameters) =
    is_unseen seen parameter ∷ unseen_places (flagged true seen parameter) parameters

-- the flags with those of all these parameters set to a value
abbrev pub all_flagged : Bool → List Bool → List (Option ℕ) → List Bool
all_flagged flag flags [] = flags
all_flagged flag flags (parameter ∷ parameters) =
    all_flagged flag (flagged flag flags parameter) parameters
