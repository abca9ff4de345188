-- Tables that are made an entry, or a table, at a time.
use Rattle.std.specs.Prelude.{ℕ, zero, suc, ◌≡◌, ◌<◌, ◌≤◌, ◌+◌, List, [], ◌∷◌, ◌++◌, length, replicate, take, get_or, slice_index}
use Rattle.std.proofs.Common.{refl, sym, ap, ◌∙◌, arith, append_assoc}
use Rattle.std.proofs.lemmas.List.{take_more, take_all}
use Rattle.enc_base.specs.Tables.{EachBelow, place, table}
use Rattle.enc_base.specs.Tuples.{IsNext, IsLast}
use Rattle.enc_base.proofs.Tables.{place_within, length-table, table-at}
use Rattle.enc_base.proofs.TupleOrder.{place-zeros}

-- the first tuple

pub zeros_at : (count i : ℕ) → slice_index (replicate count 0) i ≡ 0
zeros_at zero i = refl
zeros_at (suc count) zero = refl
zeros_at (suc count) (suc i) = zeros_at count i

-- an entry more

module _ (bounds values before entries : List ℕ) (f : List ℕ → ℕ) (value : ℕ)
    (below : EachBelow bounds values) (is : value ≡ f values)
    (so_far : entries ≡ before ++ take (place bounds values) (table bounds f))
  where
    pub entry_more : entries ++ value ∷ [] ≡ before ++ take (place bounds values + 1) (table bounds f)
    entry_more =
        let within : place bounds values < length (table bounds f) =
        rw (length-table bounds f) (place_within bounds values below) in
        let entry : value ≡ get_or (table bounds f) (place bounds values) 0 =
        is ∙ sym (table-at bounds values f below) in
        ap (λ es. es ++ value ∷ []) so_far
        ∙ append_assoc before (take (place bounds values) (table bounds f)) (value ∷ [])
        ∙ ap (λ v. before ++ (take (place bounds values) (table bounds f) ++ v ∷ [])) entry
        ∙ ap (λ es. before ++ es)
        (sym (take_more (table bounds f) (place bounds values) 0 within))

    pub entry_last : IsLast bounds values → entries ++ value ∷ [] ≡ before ++ table bounds f
    entry_last last =
        entry_more
        ∙ ap (λ es. before ++ es) (take_all (place bounds values + 1) (table bounds f)
        (omega (arith, last, length-table bounds f)))

    pub entry_next : (after : List ℕ) → IsNext bounds values after →
        entries ++ value ∷ [] ≡ before ++ take (place bounds after) (table bounds f)
    entry_next after next =
        entry_more ∙ ap (λ n. before ++ take n (table bounds f)) (sym next.place_is)

pub entry_first : (bounds before : List ℕ) (f : List ℕ → ℕ) →
    before ≡ before ++ take (place bounds (replicate (length bounds) 0)) (table bounds f)
entry_first bounds before f =
    sym (append-none before)
    ∙ ap (λ n. before ++ take n (table bounds f)) (sym (place-zeros bounds))
  where
    append-none : (xs : List ℕ) → xs ++ [] ≡ xs
    append-none [] = refl
    append-none (x ∷ xs) = ap (λ ys. x ∷ ys) (append-none xs)

-- a table more, of tables that are numbered from some number on
module _ {A : Type 0} (one : A → ℕ → List ℕ) (all : List A → ℕ → List (List ℕ))
    (all-none : (first : ℕ) → all [] first ≡ [])
    (all-more : (item : A) (items : List A) (first : ℕ) →
    all (item ∷ items) first ≡ one item first ∷ all items (first + 1))
  where
    tables-append : (items : List A) (item : A) (first : ℕ) →
        all (items ++ item ∷ []) first ≡ all items first ++ one item (first + length items) ∷ []
    tables-append [] item first =
        let here : first ≡ first + 0 = omega arith in
        all-more item [] first
        ∙ ap (λ ts. one item first ∷ ts) (all-none (first + 1))
        ∙ ap (λ f. one item f ∷ []) here
        ∙ ap (λ ts. ts ++ one item (first + 0) ∷ []) (sym (all-none first))
    tables-append (other ∷ items) item first =
        let next : first + 1 + length items ≡ first + suc (length items) = omega arith in
        all-more other (items ++ item ∷ []) first
        ∙ ap (λ ts. one other first ∷ ts) (tables-append items item (first + 1))
        ∙ ap (λ f. one other first ∷ (all items (first + 1) ++ one item f ∷ [])) next
        ∙ ap (λ ts. ts ++ one item (first + suc (length items)) ∷ []) (sym (all-more other items first))

    pub tables-next : (items : List A) (i : ℕ) (item : A) (tables : List (List ℕ)) →
        i < length items → item ≡ get_or items i item → tables ≡ all (take i items) 0 →
        tables ++ one item i ∷ [] ≡ all (take (i + 1) items) 0
    tables-next items i item tables within is so_far =
        let count : 0 + length (take i items) ≡ i =
        omega (arith, length-take-within i items (omega arith)) in
        ap (λ ts. ts ++ one item i ∷ []) so_far
        ∙ ap (λ f. all (take i items) 0 ++ one item f ∷ []) (sym count)
        ∙ sym (tables-append (take i items) item 0)
        ∙ ap (λ x. all (take i items ++ x ∷ []) 0) is
        ∙ ap (λ xs. all xs 0) (sym (take_more items i item within))
      where
        length-take-within : (n : ℕ) (xs : List A) → n ≤ length xs → length (take n xs) ≡ n
        length-take-within zero xs le = refl
        length-take-within (suc n) [] le = absurd (omega arith)
        length-take-within (suc n) (x ∷ xs) le = ap suc (length-take-within n xs (omega arith))
