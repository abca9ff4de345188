-- Worked rows: what the definitions give on small structures.
use Rattle.std.specs.Prelude.{◌≡◌, [], ◌∷◌}
use Rattle.std.proofs.Common.{refl}
use Rattle.enc_base.specs.Tables.{tuple_count, place}
use Rattle.fof_models.specs.declared.structure.Structure.{Structure}

-- the last of two times three tuples
pub second_of_two_by_third_of_three : place (2 ∷ 3 ∷ []) (1 ∷ 2 ∷ []) ≡ 5
second_of_two_by_third_of_three = refl

pub two_by_three : tuple_count (2 ∷ 3 ∷ []) ≡ 6
two_by_three = refl

-- two elements, and a predicate of the first alone
abbrev pub of_the_first : Structure
of_the_first = record { size = 2; tables = (1 ∷ 0 ∷ []) ∷ [] }
