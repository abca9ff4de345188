-- The places of tuples, the beginnings of blocks, and what stands there.
use Rattle.std.specs.Prelude.{ℕ, zero, suc, ◌+◌, ◌*◌, ◌<◌, ◌≤◌, ◌≡◌, ◌-◌, List, [], ◌∷◌, ◌++◌, length, get_or, replicate}
use Rattle.std.proofs.Common.{refl, sym, ap, ◌∙◌, subst, arith, length-append, ⊎_elim}
use Rattle.std.proofs.lemmas.List.{get_or_append_left, get_or-append-add}
use Rattle.std.proofs.lemmas.Bool.{cases_eq, cases_lt}
use Rattle.enc_base.specs.Tables.{EachBelow, sum_below, tuple_count, place, total, begins, rows, blocks, table}

-- sums

pub sum_below-same : (bound : ℕ) (f g : ℕ → ℕ) → ((n : ℕ) → n < bound → f n ≡ g n) →
    sum_below bound f ≡ sum_below bound g
sum_below-same zero f g same = refl
sum_below-same (suc bound) f g same =
    omega (
      arith,
      same bound (omega arith),
      sum_below-same bound f g (λ n within. same n (omega arith)),
    )

pub sum_below-next : (n : ℕ) (f : ℕ → ℕ) → sum_below (n + 1) f ≡ sum_below n f + f n
sum_below-next n f =
    let next : n + 1 ≡ suc n = omega arith in
    ap (λ k. sum_below k f) next

pub sum_below-grows : (n m : ℕ) (f : ℕ → ℕ) → n ≤ m → sum_below n f ≤ sum_below m f
sum_below-grows n zero f le =
    let none : n ≡ 0 = omega arith in
    ap-le n 0 f none
  where
    ap-le : (a b : ℕ) (f : ℕ → ℕ) → a ≡ b → sum_below a f ≤ sum_below b f
    ap-le a b f same = subst (λ k. sum_below a f ≤ sum_below k f) same (omega arith)
sum_below-grows n (suc m) f le =
    ⊎_elim
    (λ same. subst (λ k. sum_below k f ≤ sum_below (suc m) f) (sym same) (omega arith))
    (λ differs.
    let other : n ≡ suc m → ⊥ = differs in
    omega (arith, sum_below-grows n m f (omega (arith, other))))
    (cases_eq n (suc m))

pub sum_below-part : (n m : ℕ) (f : ℕ → ℕ) → n < m → sum_below n f + f n ≤ sum_below m f
sum_below-part n m f within =
    omega (arith, sum_below-next n f, sum_below-grows (n + 1) m f (omega arith))

sum_below-const : (bound c : ℕ) → sum_below bound (λ _. c) ≡ bound * c
sum_below-const zero c = omega arith
sum_below-const (suc bound) c = omega (arith, sum_below-const bound c)

-- rows

length-rows : (bound : ℕ) (row : ℕ → List ℕ) →
    length (rows bound row) ≡ sum_below bound (λ n. length (row n))
length-rows zero row = refl
length-rows (suc bound) row =
    omega (arith, length-append (rows bound row) (row bound), length-rows bound row)

rows-at : (bound n i : ℕ) (row : ℕ → List ℕ) → n < bound → i < length (row n) →
    get_or (rows bound row) (sum_below n (λ w. length (row w)) + i) 0 ≡ get_or (row n) i 0
rows-at zero n i row within inside = absurd (omega arith)
rows-at (suc bound) n i row within inside =
    ⊎_elim
    (λ same. subst
    (λ w. get_or (rows bound row ++ row bound) (sum_below w (λ u. length (row u)) + i) 0
    ≡ get_or (row w) i 0)
    (sym same)
    (ap (λ k. get_or (rows bound row ++ row bound) (k + i) 0) (sym (length-rows bound row))
    ∙ get_or-append-add (rows bound row) (row bound) i 0))
    (λ differs.
    let other : n ≡ bound → ⊥ = differs in
    get_or_append_left (rows bound row) (row bound) 0
    (sum_below n (λ w. length (row w)) + i)
    (omega (
      arith,
      length-rows bound row,
      sum_below-part n bound (λ w. length (row w)) (omega arith),
    ))
    ∙ rows-at bound n i row (omega arith) inside)
    (cases_eq n bound)

-- blocks

pub length-blocks : (bounds : List ℕ) (block : List ℕ → List ℕ) →
    length (blocks bounds block) ≡ total bounds (λ values. length (block values))
length-blocks [] block = refl
length-blocks (bound ∷ bounds) block =
    length-rows bound (λ n. blocks bounds (λ values. block (n ∷ values)))
    ∙ sum_below-same bound
    (λ n. length (blocks bounds (λ values. block (n ∷ values))))
    (λ n. total bounds (λ values. length (block (n ∷ values))))
    (λ n _. length-blocks bounds (λ values. block (n ∷ values)))

-- a block lies within the table
pub begins_within : (bounds values : List ℕ) (lengths : List ℕ → ℕ) → EachBelow bounds values →
    begins bounds lengths values + lengths values ≤ total bounds lengths
begins_within [] [] lengths below = omega arith
begins_within [] (value ∷ values) lengths below = absurd below
begins_within (bound ∷ bounds) [] lengths below = absurd below
begins_within (bound ∷ bounds) (value ∷ values) lengths below =
    omega (
      arith,
      begins_within bounds values (λ others. lengths (value ∷ others)) below.1,
      sum_below-part value bound (λ w. total bounds (λ others. lengths (w ∷ others))) below.0,
    )

-- an entry of a block stands behind the block's beginning
pub blocks-at : (bounds values : List ℕ) (block : List ℕ → List ℕ) (i : ℕ) →
    EachBelow bounds values → i < length (block values) →
    get_or (blocks bounds block) (begins bounds (λ others. length (block others)) values + i) 0
    ≡ get_or (block values) i 0
blocks-at [] [] block i below inside = ap (λ k. get_or (block []) k 0) (omega arith)
blocks-at [] (value ∷ values) block i below inside = absurd below
blocks-at (bound ∷ bounds) [] block i below inside = absurd below
blocks-at (bound ∷ bounds) (value ∷ values) block i below inside =
    let row : ℕ → List ℕ = λ n. blocks bounds (λ others. block (n ∷ others)) in
    let inner : ℕ = begins bounds (λ others. length (block (value ∷ others))) values + i in
    let same : sum_below value (λ n. total bounds (λ others. length (block (n ∷ others))))
    ≡ sum_below value (λ n. length (row n)) =
    sum_below-same value
    (λ n. total bounds (λ others. length (block (n ∷ others)))) (λ n. length (row n))
    (λ n _. sym (length-blocks bounds (λ others. block (n ∷ others)))) in
    let at : sum_below value (λ n. total bounds (λ others. length (block (n ∷ others))))
    + begins bounds (λ others. length (block (value ∷ others))) values + i
    ≡ sum_below value (λ n. length (row n)) + inner = omega (arith, same) in
    let within : inner < length (row value) =
    omega (
      arith,
      length-blocks bounds (λ others. block (value ∷ others)),
      begins_within bounds values (λ others. length (block (value ∷ others))) below.1,
    ) in
    ap (λ k. get_or (rows bound row) k 0) at
    ∙ rows-at bound value inner row below.0 within
    ∙ blocks-at bounds values (λ others. block (value ∷ others)) i below.1 inside

-- tables

total-ones : (bounds : List ℕ) → total bounds (λ _. 1) ≡ tuple_count bounds
total-ones [] = refl
total-ones (bound ∷ bounds) =
    ap (λ c. sum_below bound (λ _. c)) (total-ones bounds)
    ∙ sum_below-const bound (tuple_count bounds)

begins-ones : (bounds values : List ℕ) → begins bounds (λ _. 1) values ≡ place bounds values
begins-ones [] values = refl
begins-ones (bound ∷ bounds) [] = refl
begins-ones (bound ∷ bounds) (value ∷ values) =
    let before : sum_below value (λ _. total bounds (λ _. 1)) ≡ value * tuple_count bounds =
    ap (λ c. sum_below value (λ _. c)) (total-ones bounds)
    ∙ sum_below-const value (tuple_count bounds) in
    omega (arith, before, begins-ones bounds values)

-- the place of a tuple is within the table
pub place_within : (bounds values : List ℕ) → EachBelow bounds values →
    place bounds values < tuple_count bounds
place_within bounds values below =
    omega (
      arith,
      begins_within bounds values (λ _. 1) below,
      total-ones bounds,
      begins-ones bounds values,
    )

pub length-table : (bounds : List ℕ) (f : List ℕ → ℕ) →
    length (table bounds f) ≡ tuple_count bounds
length-table bounds f = length-blocks bounds (λ values. f values ∷ []) ∙ total-ones bounds

-- the entry at the place of a tuple is the function's value
pub table-at : (bounds values : List ℕ) (f : List ℕ → ℕ) → EachBelow bounds values →
    get_or (table bounds f) (place bounds values) 0 ≡ f values
table-at bounds values f below =
    let at : place bounds values ≡ begins bounds (λ _. 1) values + 0 =
    omega (arith, begins-ones bounds values) in
    ap (λ k. get_or (table bounds f) k 0) at
    ∙ blocks-at bounds values (λ others. f others ∷ []) 0 below (omega arith)

-- what holds of each value of a function holds of each entry of its table

All-rows : (P : ℕ → Type 0) (bound : ℕ) (row : ℕ → List ℕ) →
    ((n : ℕ) → n < bound → (i : ℕ) → i < length (row n) → P (get_or (row n) i 0)) →
    (i : ℕ) → i < length (rows bound row) → P (get_or (rows bound row) i 0)
All-rows P zero row each i within = absurd (omega arith)
All-rows P (suc bound) row each i within =
    ⊎_elim
    (λ earlier.
    subst P (sym (get_or_append_left (rows bound row) (row bound) 0 i earlier))
    (All-rows P bound row (λ n below. each n (omega (arith, below))) i earlier))
    (λ later.
    let there : length (rows bound row) ≤ i = later in
    let at : i ≡ length (rows bound row) + (i - length (rows bound row)) = omega arith in
    subst P
    (sym (get_or-append-add (rows bound row) (row bound) (i - length (rows bound row)) 0)
    ∙ ap (λ k. get_or (rows bound row ++ row bound) k 0) (sym at))
    (each bound (omega arith) (i - length (rows bound row))
    (omega (arith, within, length-append (rows bound row) (row bound)))))
    (cases_lt i (length (rows bound row)))

pub table-each : (bounds : List ℕ) (f : List ℕ → ℕ) (P : ℕ → Type 0) →
    ((values : List ℕ) → EachBelow bounds values → P (f values)) →
    (i : ℕ) → i < length (table bounds f) → P (get_or (table bounds f) i 0)
table-each [] f P each zero within = each [] tt
table-each [] f P each (suc i) within = absurd (omega arith)
table-each (bound ∷ bounds) f P each i within =
    All-rows P bound (λ n. table bounds (λ values. f (n ∷ values)))
    (λ n below. table-each bounds (λ values. f (n ∷ values)) P
    (λ values inside. each (n ∷ values) (below, inside)))
    i within

-- a tuple is as long as its bounds
pub EachBelow-length : (count bound : ℕ) (values : List ℕ) →
    EachBelow (replicate count bound) values → count ≡ length values
EachBelow-length zero bound [] below = refl
EachBelow-length (suc count) bound [] below = absurd below
EachBelow-length zero bound (value ∷ values) below = absurd below
EachBelow-length (suc count) bound (value ∷ values) below =
    ap suc (EachBelow-length count bound values below.1)

-- tuples over one bound, a value longer

pub tuple_count-more : (count bound : ℕ) →
    tuple_count (replicate (suc count) bound) ≡ tuple_count (replicate count bound) * bound
tuple_count-more zero bound = omega arith
tuple_count-more (suc count) bound = omega (arith, ap (λ n. bound * n) (tuple_count-more count bound))

pub place-more : (bound value count : ℕ) (values : List ℕ) → count ≡ length values →
    place (replicate (suc count) bound) (values ++ value ∷ [])
    ≡ place (replicate count bound) values * bound + value
place-more bound value zero [] long = omega arith
place-more bound value (suc count) [] long = absurd (omega arith)
place-more bound value zero (first ∷ values) long = absurd (omega arith)
place-more bound value (suc count) (first ∷ values) long =
    omega (
      arith,
      place-more bound value count values (omega arith),
      ap (λ n. first * n) (tuple_count-more count bound),
    )

pub EachBelow-more : (bound value count : ℕ) (values : List ℕ) →
    EachBelow (replicate count bound) values → value < bound →
    EachBelow (replicate (suc count) bound) (values ++ value ∷ [])
EachBelow-more bound value zero [] below within = (within, tt)
EachBelow-more bound value (suc count) [] below within = absurd below
EachBelow-more bound value zero (first ∷ values) below within = absurd below
EachBelow-more bound value (suc count) (first ∷ values) below within =
    (below.0, EachBelow-more bound value count values below.1 within)

times_some : (bound a b : ℕ) → 0 < bound → a ≤ b → a ≤ b * bound
times_some bound a b some within = grind arith

pub tuple_count-grows : (bound count more : ℕ) → 0 < bound →
    tuple_count (replicate count bound) ≤ tuple_count (replicate (count + more) bound)
tuple_count-grows bound count zero some =
    let same : count ≡ count + 0 = omega arith in
    subst (λ n. tuple_count (replicate count bound) ≤ tuple_count (replicate n bound)) same (omega arith)
tuple_count-grows bound count (suc more) some =
    let next : suc (count + more) ≡ count + suc more = omega arith in
    subst (λ n. tuple_count (replicate count bound) ≤ tuple_count (replicate n bound)) next
    (rw (tuple_count-more (count + more) bound)
    (times_some bound (tuple_count (replicate count bound))
    (tuple_count (replicate (count + more) bound)) some
    (tuple_count-grows bound count more some)))

-- over one element there is one tuple
pub tuple_count-one : (count : ℕ) → tuple_count (replicate count 1) ≡ 1
tuple_count-one zero = refl
tuple_count-one (suc count) = omega (arith, tuple_count-one count)
