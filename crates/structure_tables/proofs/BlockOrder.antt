-- Blocks one after another, by the numbers of their tuples.
use Rattle.std.specs.Prelude.{ℕ, zero, suc, ◌≡◌, ◌<◌, ◌+◌, ◌*◌, List, [], ◌∷◌, ◌++◌, length, replicate}
use Rattle.std.proofs.Common.{refl, sym, ap, ◌∙◌, arith, append_assoc}
use Rattle.enc_base.specs.Tables.{EachBelow, tuple_count, place, rows, blocks}
use Rattle.enc_base.specs.Tuples.{tuple_at, IsNext, IsLast}
use Rattle.enc_base.proofs.NumberedTuples.{place-tuple_at, tuple_at_below, tuple_at-place}
use Rattle.enc_base.proofs.TupleOrder.{place-zeros-over}
use Rattle.tf_core.specs.Structures.{Typed, member_count}

-- rows

rows-same : (bound : ℕ) (f g : ℕ → List ℕ) → ((n : ℕ) → n < bound → f n ≡ g n) →
    rows bound f ≡ rows bound g
rows-same zero f g same = refl
rows-same (suc bound) f g same =
    ap (λ xs. xs ++ f bound) (rows-same bound f g (λ n within. same n (omega arith)))
    ∙ ap (λ xs. rows bound g ++ xs) (same bound (omega arith))

append-none : (xs : List ℕ) → xs ++ [] ≡ xs
append-none [] = refl
append-none (x ∷ xs) = ap (λ ys. x ∷ ys) (append-none xs)

rows-add : (m n : ℕ) (row : ℕ → List ℕ) →
    rows (m + n) row ≡ rows m row ++ rows n (λ j. row (m + j))
rows-add m zero row =
    let same : m + 0 ≡ m = omega arith in
    ap (λ k. rows k row) same ∙ sym (append-none (rows m row))
rows-add m (suc n) row =
    let next : m + suc n ≡ suc (m + n) = omega arith in
    ap (λ k. rows k row) next
    ∙ ap (λ xs. xs ++ row (m + n)) (rows-add m n row)
    ∙ append_assoc (rows m row) (rows n (λ j. row (m + j))) (row (m + n))

rows-blocks : (count size : ℕ) (row : ℕ → List ℕ) →
    rows (count * size) row ≡ rows count (λ e. rows size (λ j. row (e * size + j)))
rows-blocks zero size row =
    let none : zero * size ≡ zero = omega arith in
    ap (λ k. rows k row) none
rows-blocks (suc count) size row =
    let next : suc count * size ≡ count * size + size = omega arith in
    ap (λ k. rows k row) next
    ∙ rows-add (count * size) size row
    ∙ ap (λ xs. xs ++ rows size (λ j. row (count * size + j))) (rows-blocks count size row)

-- the first tuple over one bound
pub first_below : (count bound : ℕ) → 0 < bound → EachBelow (replicate count bound) (replicate count 0)
first_below zero bound some = tt
first_below (suc count) bound some = (some, first_below count bound some)

-- the bounds of members, as code holds them
pub bounds_of_members : (s : Typed) (parameters : ℕ) (sizes items slice : List ℕ) → sizes ≡ s.sizes →
    items ≡ replicate parameters (length sizes) → slice ≡ items →
    slice ≡ replicate parameters (member_count s)
bounds_of_members s parameters sizes items slice same are lent =
    lent ∙ are ∙ ap (λ ss. replicate parameters (length ss)) same

-- the blocks of the tuples before one
abbrev pub blocks_before : ℕ → ℕ → (List ℕ → List ℕ) → List ℕ → List ℕ
blocks_before bound count block values =
    rows (place (replicate count bound) values) (λ n. block (tuple_at bound count n))

module _ (bound : ℕ) (positive : 0 < bound) where
  -- the tuple before which so many stand
  tuple_at-from : (count value number : ℕ) → value < bound →
      number < tuple_count (replicate count bound) →
      tuple_at bound (suc count) (value * tuple_count (replicate count bound) + number)
      ≡ value ∷ tuple_at bound count number
  tuple_at-from count value number below within =
      ap (λ n. tuple_at bound (suc count) (value * tuple_count (replicate count bound) + n))
      (sym (place-tuple_at bound positive count number within))
      ∙ tuple_at-place bound positive (suc count) (value ∷ tuple_at bound count number)
      (below, tuple_at_below bound positive count number within)

  blocks-numbered : (count : ℕ) (block : List ℕ → List ℕ) →
      blocks (replicate count bound) block
      ≡ rows (tuple_count (replicate count bound)) (λ n. block (tuple_at bound count n))
  blocks-numbered zero block = refl
  blocks-numbered (suc count) block =
      let rest : ℕ = tuple_count (replicate count bound) in
      rows-same bound
      (λ value. blocks (replicate count bound) (λ values. block (value ∷ values)))
      (λ value. rows rest (λ j. block (tuple_at bound (suc count) (value * rest + j))))
      (λ value below. blocks-numbered count (λ values. block (value ∷ values))
      ∙ rows-same rest
      (λ j. block (value ∷ tuple_at bound count j))
      (λ j. block (tuple_at bound (suc count) (value * rest + j)))
      (λ j within. ap block (sym (tuple_at-from count value j below within))))
      ∙ sym (rows-blocks bound rest (λ n. block (tuple_at bound (suc count) n)))

  pub blocks_first : (count : ℕ) (block : List ℕ → List ℕ) →
      [] ≡ blocks_before bound count block (replicate count 0)
  blocks_first count block =
      ap (λ n. rows n (λ k. block (tuple_at bound count k)))
      (sym (place-zeros-over count bound))

  -- a block more
  module _ (count : ℕ) (block : List ℕ → List ℕ) (values entries : List ℕ)
      (below : EachBelow (replicate count bound) values)
      (so_far : entries ≡ blocks_before bound count block values)
    where
      block_more : entries ++ block values
          ≡ rows (place (replicate count bound) values + 1) (λ n. block (tuple_at bound count n))
      block_more =
          let next : suc (place (replicate count bound) values) ≡ place (replicate count bound) values + 1 =
          omega arith in
          ap (λ xs. xs ++ block values) so_far
          ∙ ap (λ vs. blocks_before bound count block values ++ block vs)
          (sym (tuple_at-place bound positive count values below))
          ∙ ap (λ k. rows k (λ n. block (tuple_at bound count n))) next

      pub block_last : IsLast (replicate count bound) values →
          entries ++ block values ≡ blocks (replicate count bound) block
      block_last last =
          block_more
          ∙ ap (λ k. rows k (λ n. block (tuple_at bound count n))) last
          ∙ sym (blocks-numbered count block)

      pub block_next : (after : List ℕ) → IsNext (replicate count bound) values after →
          entries ++ block values ≡ blocks_before bound count block after
      block_next after next =
          block_more ∙ ap (λ k. rows k (λ n. block (tuple_at bound count n))) (sym next.place_is)
