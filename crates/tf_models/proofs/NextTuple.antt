-- The next tuple of numbers below bounds, in the first slots of many.
use Rattle.std.specs.Prelude.{ℕ, zero, suc, ◌≡◌, ◌<◌, ◌≤◌, ◌+◌, ◌-◌, List, [], ◌∷◌, length, take, get_or}
use Rattle.std.proofs.Common.{refl, sym, subst, ◌∙◌, arith}
use Rattle.std.proofs.Math.ListN.{set}
use Rattle.std.proofs.Math.Seq.{take-set-lt}
use Rattle.std.proofs.lemmas.List.{get_or_default}
use Rattle.enc_base.specs.Tuples.{IsNext}
use Rattle.enc_base.proofs.TupleOrder as order
use Rattle.enc_base.proofs.TupleOrder.{IsStepping}

get_or-take : (xs : List ℕ) (n i : ℕ) → i < n → get_or (take n xs) i 0 ≡ get_or xs i 0
get_or-take xs zero i within = absurd (omega arith)
get_or-take [] (suc n) i within = refl
get_or-take (x ∷ xs) (suc n) zero within = refl
get_or-take (x ∷ xs) (suc n) (suc i) within = get_or-take xs n i (omega arith)

-- a part, as code reads it when the parts behind it are done
module _ (bounds : List ℕ) (count done : ℕ) (before slots : List ℕ) (some : 0 < done)
    (inside : done ≤ count) (long : length bounds ≡ count) (room : count ≤ length slots)
    (stepping : IsStepping bounds before (take count slots) done)
    (value : ℕ) (is : value ≡ get_or slots (done - 1) value)
  where
    in_room : done - 1 < count
    in_room = omega arith

    in_bounds : done ≤ length bounds
    in_bounds = omega (arith, long)

    part : value ≡ get_or (take count slots) (done - 1) 0
    part =
        sym
        (get_or-take slots count (done - 1) in_room
        ∙ get_or_default slots (done - 1) 0 value (omega (arith, in_room)) ∙ sym is)

    abbrev bound : ℕ
    bound = get_or bounds (done - 1) 0

    pub part_below : value < bound
    part_below =
        order.part_below bounds before (take count slots) done some in_bounds stepping value bound
        part refl

    pub stepping_ends : value + 1 < bound →
        IsNext bounds before (take count (set slots (done - 1) (value + 1)))
    stepping_ends higher =
        subst (IsNext bounds before) (sym (take-set-lt count slots (done - 1) (value + 1) in_room))
        (order.stepping_ends bounds before (take count slots) done some in_bounds stepping value
        bound part refl higher)

    pub stepping_more : bound ≤ value + 1 →
        IsStepping bounds before (take count (set slots (done - 1) 0)) (done - 1)
    stepping_more full =
        subst (λ now. IsStepping bounds before now (done - 1))
        (sym (take-set-lt count slots (done - 1) 0 in_room))
        (order.stepping_more bounds before (take count slots) done some in_bounds stepping value
        bound part refl full)

-- two readings of one number
pub same_read : (numbers : List ℕ) (i a b : ℕ) → i < length numbers → a ≡ get_or numbers i a →
    b ≡ get_or numbers i b → a ≡ b
same_read numbers i a b within first second =
    first ∙ get_or_default numbers i a b within ∙ sym second
