-- What is found once of the argument places of a symbol, one place after another.
use Rattle.std.specs.Prelude.{slice_get, Some}
use Rattle.std.proofs.Common.{ℕ, zero, suc, ◌≡◌, ◌<◌, ◌+◌, Bool, false, List, [], ◌∷◌, ◌++◌, length, take, get_or, refl, ap, ◌∙◌, arith}
use Rattle.tf_core.specs.declared.ty.Ty.{Ty}
use Rattle.tf_core.specs.declared.normal.Normal.{Normal}
use Rattle.tf_core.proofs.Typed.{same_type-says}
use Rattle.tf_core.specs.Types.{instantiate}
use Rattle.enc_marks.specs.declared.choices.Marking.{Marking}
use Rattle.enc_marks.specs.declared.slot.Slot.{Slot}
use Rattle.enc_marks.specs.Choices.{Choices}
use Rattle.enc_marks.specs.Calls.Slots.{slot_in, slots_in, AreGround, IsGround}

module _ (c : Choices) (normal : Normal) where
  pub slots_in-at : (tests : List Bool) (types : List Ty) (i : ℕ) (d : Slot) (ty : Ty) →
      i < length tests → i < length types →
      get_or (slots_in c normal tests types) i d
      ≡ slot_in c normal (get_or tests i false) (get_or types i ty)
  slots_in-at [] types i d ty within also = absurd (omega arith)
  slots_in-at (test ∷ tests) [] i d ty within also = absurd (omega arith)
  slots_in-at (test ∷ tests) (first ∷ types) zero d ty within also = refl
  slots_in-at (test ∷ tests) (first ∷ types) (suc i) d ty within also =
      slots_in-at tests types i d ty (omega arith) (omega arith)

  slots_in-suc : (tests : List Bool) (types : List Ty) (i : ℕ) (ty : Ty) →
      i < length tests → i < length types →
      slots_in c normal tests (take (suc i) types)
      ≡ slots_in c normal tests (take i types)
      ++ slot_in c normal (get_or tests i false) (get_or types i ty) ∷ []
  slots_in-suc [] types i ty within also = absurd (omega arith)
  slots_in-suc (test ∷ tests) [] i ty within also = absurd (omega arith)
  slots_in-suc (test ∷ tests) (first ∷ types) zero ty within also =
      ap (λ rest. slot_in c normal test first ∷ rest) (none tests)
    where
      none : (others : List Bool) → slots_in c normal others [] ≡ []
      none [] = refl
      none (other ∷ others) = refl
  slots_in-suc (test ∷ tests) (first ∷ types) (suc i) ty within also =
      ap (λ rest. slot_in c normal test first ∷ rest)
      (slots_in-suc tests types i ty (omega arith) (omega arith))

  -- one more of them
  pub slots_in-more : (tests : List Bool) (types : List Ty) (i : ℕ) (ty : Ty) →
      i < length tests → i < length types →
      slots_in c normal tests (take (i + 1) types)
      ≡ slots_in c normal tests (take i types)
      ++ slot_in c normal (get_or tests i false) (get_or types i ty) ∷ []
  slots_in-more tests types i ty within also =
      let next : i + 1 ≡ suc i = omega arith in
      ap (λ n. slots_in c normal tests (take n types)) next ∙ slots_in-suc tests types i ty within also

  pub slots_in-none : (tests : List Bool) → slots_in c normal tests [] ≡ []
  slots_in-none [] = refl
  slots_in-none (test ∷ tests) = refl

-- a type of a list of ground ones
pub ground-at : (marking : Marking) (types : List Ty) (i : ℕ) (ty : Ty) → AreGround marking types →
    slice_get types i ≡ Some ty → IsGround marking ty
ground-at marking types i ty are at by_sort instances =
    same_type-says (instantiate instances ty) ty (are i ty at by_sort instances)
