-- How ways are counted: what code keeps of them, and what it finds for tuples of them.
use Rattle.std.specs.Prelude.{ℕ, ◌≡◌, ◌<◌, ◌*◌, Bool, true, false, List, [], ◌∷◌, map, length, slice_index}
use Rattle.enc_base.specs.Tables.{total}
use Rattle.enc_base.specs.Counts.{in_64_bits}
use Rattle.structure_tables.specs.declared.ways.Ways.{Ways}
use Rattle.structure_tables.specs.declared.ways.Ways.TheVariants.{One, Many}
use Rattle.structure_tables.specs.TypeWays.{one_at}

-- it is about the members there are
abbrev pub AreWaysTo : ℕ → Ways → Type 0
AreWaysTo members (One member) = member < members
AreWaysTo members (Many counts) = length counts ≡ members

-- how many ways it has to a member
abbrev pub ways_to : Ways → ℕ → ℕ
ways_to (One member) other = one_at member other
ways_to (Many counts) member = slice_index counts member

-- the ways are these, as far as 64 bits count
pub record CountWays (members : ℕ) (ways : Ways) (are : ℕ → ℕ) : Type 0 where
  pub fit : AreWaysTo members ways
  pub counted : (member : ℕ) → member < members → ways_to ways member ≡ in_64_bits (are member)

abbrev pub is_one : Ways → Bool
is_one (One member) = true
is_one (Many counts) = false

-- The members that ways lead to are numbered: one alone, or all.

abbrev pub choices_of : ℕ → Ways → ℕ
choices_of members (One member) = 1
choices_of members (Many counts) = members

abbrev pub choice_at : Ways → ℕ → ℕ
choice_at (One member) number = member
choice_at (Many counts) number = number

abbrev pub count_at : Ways → ℕ → ℕ
count_at (One member) number = 1
count_at (Many counts) number = slice_index counts number

-- the members that choices are, and how many tuples give them

abbrev pub choices_at : List Ways → List ℕ → List ℕ
choices_at [] numbers = []
choices_at (part ∷ parts) [] = []
choices_at (part ∷ parts) (number ∷ numbers) = choice_at part number ∷ choices_at parts numbers

abbrev pub counts_at : List Ways → List ℕ → ℕ
counts_at [] numbers = 1
counts_at (part ∷ parts) [] = 1
counts_at (part ∷ parts) (number ∷ numbers) = count_at part number * counts_at parts numbers

-- how many tuples lead to a member by a function of parts
abbrev pub ways_by : (List ℕ → ℕ) → ℕ → List Ways → ℕ → ℕ
ways_by f members parts member =
    total (map (choices_of members) parts)
    (λ numbers. counts_at parts numbers * one_at (f (choices_at parts numbers)) member)

-- ways of parts, one after another
abbrev pub AreWays : ℕ → List Ways → List (ℕ → ℕ) → Type 0
AreWays members [] [] = Unit {0}
AreWays members [] (are ∷ ares) = ⊥
AreWays members (part ∷ parts) [] = ⊥
AreWays members (part ∷ parts) (are ∷ ares) = CountWays members part are × AreWays members parts ares
