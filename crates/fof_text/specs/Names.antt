-- Lists of names, and the names that are chosen for the symbols of a signature.
use Rattle.std.specs.Prelude.{ℕ, zero, suc, ◌+◌, ◌≤◌, Bool, false, not, ◌&&◌, ◌||◌, if◌then◌else◌}
use Rattle.std.specs.Prelude.{List, [], ◌∷◌, ◌++◌, map, length, codes}
use Rattle.std.specs.Fmt.{decimal}
use Rattle.fof_models.specs.declared.problem.FofSymbol.{FofSymbol}
use Rattle.tptp_words.specs.Words.{same}

-- ---- lists of names

-- the name at a place
abbrev pub name_at : List (List ℕ) → ℕ → List ℕ
name_at [] i = []
name_at (n ∷ ns) zero = n
name_at (n ∷ ns) (suc i) = name_at ns i

-- the first place of a name, or the length of the list where the name isn't there
abbrev pub place_of : List (List ℕ) → List ℕ → ℕ
place_of [] x = 0
place_of (n ∷ ns) x = if same x n then 0 else suc (place_of ns x)

-- whether the name is there
abbrev pub is_among : List (List ℕ) → List ℕ → Bool
is_among [] x = false
is_among (n ∷ ns) x = same x n || is_among ns x

-- no two are the same
abbrev pub AllDiffer : List (List ℕ) → Type 0
AllDiffer [] = Unit {0}
AllDiffer (n ∷ ns) = (length ns ≤ place_of ns n) × AllDiffer ns

-- ---- chosen names

-- the least number below n that passes the test, or n where none does
abbrev pub least_below : ℕ → (ℕ → Bool) → ℕ
least_below zero test = 0
least_below (suc n) test = if test 0 then 0 else suc (least_below n (λ k. test (suc k)))

-- the name followed by _ and a number
abbrev pub numbered : List ℕ → ℕ → List ℕ
numbered name k = name ++ (codes "_" ++ decimal k)

-- no earlier symbol has the name, and no symbol wants it
abbrev pub is_free : List (List ℕ) → List (List ℕ) → List ℕ → Bool
is_free wanted earlier name = not (is_among earlier name) && not (is_among wanted name)

-- The least number that makes the name free. Only as many names are taken as there are earlier
-- symbols and wanted names, so the number lies at or below their sum.
abbrev pub free_number : List (List ℕ) → List (List ℕ) → List ℕ → ℕ
free_number wanted earlier name =
    least_below (length earlier + length wanted) (λ k. is_free wanted earlier (numbered name k))

-- The name that a symbol gets, given the names of the earlier symbols: the name that it wants,
-- where no earlier symbol has it, else that name with the least number that makes it free.
abbrev pub choice : List (List ℕ) → List (List ℕ) → List ℕ → List ℕ
choice wanted earlier name =
    if is_among earlier name then numbered name (free_number wanted earlier name) else name

-- the choices of the symbols from some place on
abbrev pub choices : List (List ℕ) → List (List ℕ) → List (List ℕ) → List (List ℕ)
choices wanted earlier [] = []
choices wanted earlier (name ∷ names) =
    choice wanted earlier name ∷ choices wanted (choice wanted earlier name ∷ earlier) names

-- the names that the symbols want
abbrev pub wanted_names : List FofSymbol → List (List ℕ)
wanted_names signature = map (λ (symbol : FofSymbol). symbol.wanted) signature

-- the names that the symbols of a signature get, in order
abbrev pub chosen_names : List FofSymbol → List (List ℕ)
chosen_names signature = choices (wanted_names signature) [] (wanted_names signature)
