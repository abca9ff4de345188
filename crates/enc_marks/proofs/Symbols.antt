-- An item that stands in a list.
use Rattle.std.proofs.Common.{ℕ, zero, suc, ◌≡◌, ◌<◌, List, [], ◌∷◌, length, get_or, refl, sym, ◌∙◌, arith}
use Rattle.std.specs.Prelude.{Some, slice_get}

-- what follows from the item
pub slice_get-within : {X : Type 0} {Goal : Type 0} (items : List X) (i : ℕ) → i < length items →
    ((item : X) → slice_get items i ≡ Some item → get_or items i item ≡ item → Goal) → Goal
slice_get-within [] i within follows = absurd (omega arith)
slice_get-within (item ∷ items) zero within follows = follows item refl refl
slice_get-within (first ∷ items) (suc i) within follows =
    slice_get-within items i (omega arith) follows

-- what stands at a place is one item
pub same_at : {X : Type 0} (items : List X) (i : ℕ) → i < length items → (one other : X) →
    get_or items i one ≡ one → other ≡ get_or items i other → one ≡ other
same_at [] i within one other is also = absurd (omega arith)
same_at (item ∷ items) zero within one other is also = sym is ∙ sym also
same_at (item ∷ items) (suc i) within one other is also =
    same_at items i (omega arith) one other is also
