-- Where marked symbols stand: among all, and among those that occur.
use Rattle.std.specs.Prelude.{ℕ, zero, suc, ◌+◌, ◌≡◌, ◌≤◌, Bool, true, false, not, ◌||◌, List, [], ◌∷◌, ◌++◌, length, cond, slice_get, Some, IsTrue}
use Rattle.std.specs.List.{AllByRecursion, list_any, position_or_len}
use Rattle.std.proofs.Common.{refl, sym, ap, ◌∙◌, arith}
use Rattle.std.proofs.lemmas.Bool.{false≢true}
use Rattle.tf_core.specs.declared.ty.Ty.{Ty}
use Rattle.tf_core.specs.declared.signature.Symbol.{Symbol}
use Rattle.tf_core.specs.declared.signature.Constructor.{Constructor}
use Rattle.tf_core.specs.declared.normal.Normal.{Normal}
use Rattle.tf_core.specs.Types.{same_type}
use Rattle.tf_core.specs.Sorts.{sorts}
use Rattle.tf_core.proofs.Typed.{same_type-says}
use Rattle.tf_naked.specs.SortLaws.{IsSort}
use Rattle.enc_marks.specs.declared.choices.Marking.TheVariants.{ByType, BySort}
use Rattle.enc_marks.specs.declared.choices.Binding.{Binding}
use Rattle.enc_marks.specs.Choices.{Choices}
use Rattle.enc_marks.specs.Occurrence.{count_below, passing}
use Rattle.enc_marks.specs.Encoded.{MarkedSymbol, marked_symbol, marked_symbols, marked_constructor, marked_constructors, shared_mark, sort_mark, sort_marks, own_marks, all_marks}
use Rattle.enc_marks.proofs.Passing.{numbered, length-numbered, marked_symbols-numbered, marked_constructors-numbered}
use Rattle.enc_marks.proofs.Ranks.{count_below-more}

-- ---- places in lists

slice_get-front : {A : Type 0} (items others : List A) (i : ℕ) (item : A) →
    slice_get items i ≡ Some item → slice_get (items ++ others) i ≡ Some item
slice_get-front [] others i item at = cc
slice_get-front (x ∷ items) others zero item at = at
slice_get-front (x ∷ items) others (suc i) item at = slice_get-front items others i item at

slice_get-back : {A : Type 0} (items others : List A) (i : ℕ) →
    slice_get (items ++ others) (length items + i) ≡ slice_get others i
slice_get-back [] others i = let same : 0 + i ≡ i = omega arith in ap (slice_get others) same
slice_get-back (x ∷ items) others i =
    let next : suc (length items) + i ≡ suc (length items + i) = omega arith in
    ap (slice_get (x ∷ (items ++ others))) next ∙ slice_get-back items others i

slice_get-numbered : {A B : Type 0} (g : ℕ → A → B) (number : ℕ) (items : List A) (i : ℕ)
    (item : A) → slice_get items i ≡ Some item →
    slice_get (numbered g number items) i ≡ Some (g (number + i) item)
slice_get-numbered g number [] i item at = cc
slice_get-numbered g number (x ∷ items) zero item at =
    let here : number ≡ number + 0 = omega arith in
    let same : x ≡ item = cc in
    ap (λ n. Some (g n x)) here ∙ ap (λ y. Some (g (number + 0) y)) same
slice_get-numbered g number (x ∷ items) (suc i) item at =
    let next : number + 1 + i ≡ number + suc i = omega arith in
    slice_get-numbered g (number + 1) items i item at ∙ ap (λ n. Some (g n item)) next

-- an item that passes stands at this number
abbrev Found : {A : Type 0} → (A → Bool) → List A → ℕ → Type 0
Found {A} test items n = (item : A) × ((slice_get items n ≡ Some item) × IsTrue (test item))

-- the first item that passes stands at its position
slice_get-position : {A : Type 0} (test : A → Bool) (items : List A) →
    IsTrue (list_any test items) → Found test items (position_or_len test items)
slice_get-position test [] some = absurd (false≢true some)
slice_get-position test (x ∷ items) some = by (test x) refl some (slice_get-position test items)
  where
    by : (b : Bool) → test x ≡ b → IsTrue (b || list_any test items) →
        (IsTrue (list_any test items) → Found test items (position_or_len test items)) →
        Found test (x ∷ items) (cond (not b) (1 + position_or_len test items) 0)
    by true is any later = (x, (refl, is))
    by false is any later =
        let found = later any in
        let at = position_or_len test items in
        let next : suc at ≡ 1 + at = omega arith in
        (found.0, (ap (slice_get (x ∷ items)) (sym next) ∙ found.1.0, found.1.1))

-- ---- those that pass a test

count_below-between : (first more : ℕ) (test : ℕ → Bool) →
    count_below first test ≤ count_below (first + more) test
count_below-between first zero test =
    let same : first ≡ first + 0 = omega arith in
    omega (arith, ap (λ n. count_below n test) same)
count_below-between first (suc more) test =
    let next : first + suc more ≡ (first + more) + 1 = omega arith in
    omega (
      arith,
      ap (λ n. count_below n test) next,
      count_below-more (first + more) test,
      count_below-between first more test,
    )

-- an item that passes stands behind as many as pass before it
pub slice_get-passing : {A : Type 0} (test : ℕ → Bool) (first : ℕ) (items : List A) (i n : ℕ) →
    n + count_below first test ≡ count_below (first + i) test → test (first + i) ≡ true →
    slice_get (passing test first items) n ≡ slice_get items i
slice_get-passing test first [] i n rank is = refl
slice_get-passing test first (x ∷ items) zero n rank is =
    let same : first + 0 ≡ first = omega arith in
    let none : n ≡ 0 = omega (arith, rank, ap (λ m. count_below m test) same) in
    ap (λ b. slice_get (cond b (x ∷ passing test (first + 1) items) (passing test (first + 1) items))
    n) (sym (ap test same) ∙ is)
    ∙ ap (slice_get (x ∷ passing test (first + 1) items)) none
slice_get-passing test first (x ∷ items) (suc i) n rank is =
    let next : (first + 1) + i ≡ first + suc i = omega arith in
    by (test first) n (count_below-more first test)
    (rank ∙ sym (ap (λ m. count_below m test) next))
    (count_below-between (first + 1) i test)
    (λ k later. slice_get-passing test (first + 1) items i k later (ap test next ∙ is))
  where
    by : (b : Bool) (n : ℕ) →
        count_below (first + 1) test ≡ count_below first test + cond b 1 0 →
        n + count_below first test ≡ count_below ((first + 1) + i) test →
        count_below (first + 1) test ≤ count_below ((first + 1) + i) test →
        ((k : ℕ) → k + count_below (first + 1) test ≡ count_below ((first + 1) + i) test →
        slice_get (passing test (first + 1) items) k ≡ slice_get items i) →
        slice_get (cond b (x ∷ passing test (first + 1) items) (passing test (first + 1) items)) n
        ≡ slice_get items i
    by true zero step ranked more later = absurd (omega (arith, step, ranked, more))
    by true (suc n) step ranked more later = later n (omega (arith, step, ranked))
    by false n step ranked more later = later n (omega (arith, step, ranked))

pub length-passing : {A : Type 0} (test : ℕ → Bool) (first : ℕ) (items : List A) →
    length (passing test first items) ≤ length items
length-passing test first [] = omega arith
length-passing test first (x ∷ items) = by (test first) (length-passing test (first + 1) items)
  where
    by : (b : Bool) → length (passing test (first + 1) items) ≤ length items →
        length (cond b (x ∷ passing test (first + 1) items) (passing test (first + 1) items))
        ≤ suc (length items)
    by true few = omega (arith, few)
    by false few = omega (arith, few)

-- what holds of each holds of those that pass
pub all-passing : {A : Type 0} (P : A → Type 0) (test : ℕ → Bool) (first : ℕ) (items : List A) →
    AllByRecursion P items → AllByRecursion P (passing test first items)
all-passing P test first [] all = tt
all-passing P test first (x ∷ items) all =
    by (test first) (all-passing P test (first + 1) items all.1)
  where
    by : (b : Bool) → AllByRecursion P (passing test (first + 1) items) →
        AllByRecursion P
        (cond b (x ∷ passing test (first + 1) items) (passing test (first + 1) items))
    by true rest = (all.0, rest)
    by false rest = rest

-- ---- all marked symbols

pub sort_marks-numbered : (normal : Normal) (binding : Binding) (number : ℕ) (types : List Ty) →
    sort_marks normal binding number types ≡ numbered (sort_mark normal binding) number types
sort_marks-numbered normal binding number [] = refl
sort_marks-numbered normal binding number (ty ∷ types) =
    ap (λ marks. sort_mark normal binding number ty ∷ marks)
    (sort_marks-numbered normal binding (number + 1) types)

module _ (c : Choices) (normal : Normal) where
  abbrev symbols : List Symbol
  symbols = normal.signature.symbols

  abbrev constructors : List Constructor
  constructors = normal.signature.constructors

  pub length-marked_symbols : length (marked_symbols c 0 symbols) ≡ length symbols
  length-marked_symbols =
      ap (λ (list : List MarkedSymbol). length list) (marked_symbols-numbered c 0 symbols)
      ∙ length-numbered (marked_symbol c) 0 symbols

  pub length-marked_constructors :
      length (marked_constructors normal 0 constructors) ≡ length constructors
  length-marked_constructors =
      ap (λ (list : List MarkedSymbol). length list)
      (marked_constructors-numbered normal 0 constructors)
      ∙ length-numbered (marked_constructor normal) 0 constructors

  pub symbol-at : (f : ℕ) (symbol : Symbol) → slice_get symbols f ≡ Some symbol →
      slice_get (all_marks c normal) f ≡ Some (marked_symbol c f symbol)
  symbol-at f symbol at =
      let same : 0 + f ≡ f = omega arith in
      slice_get-front (marked_symbols c 0 symbols) _ f (marked_symbol c f symbol)
      (ap (λ (list : List MarkedSymbol). slice_get list f) (marked_symbols-numbered c 0 symbols)
      ∙ slice_get-numbered (marked_symbol c) 0 symbols f symbol at
      ∙ ap (λ n. Some (marked_symbol c n symbol)) same)

  -- what stands behind the symbols
  behind_symbols : (i : ℕ) →
      slice_get (all_marks c normal) (length symbols + i)
      ≡ slice_get (marked_constructors normal 0 constructors
      ++ own_marks normal c.binding c.marking) i
  behind_symbols i =
      ap (λ n. slice_get (all_marks c normal) (n + i)) (sym length-marked_symbols)
      ∙ slice_get-back (marked_symbols c 0 symbols) _ i

  pub constructor-at : (i : ℕ) (constructor : Constructor) →
      slice_get constructors i ≡ Some constructor →
      slice_get (all_marks c normal) (length symbols + i)
      ≡ Some (marked_constructor normal i constructor)
  constructor-at i constructor at =
      let same : 0 + i ≡ i = omega arith in
      behind_symbols i
      ∙ slice_get-front (marked_constructors normal 0 constructors) _ i
      (marked_constructor normal i constructor)
      (ap (λ (list : List MarkedSymbol). slice_get list i)
      (marked_constructors-numbered normal 0 constructors)
      ∙ slice_get-numbered (marked_constructor normal) 0 constructors i constructor at
      ∙ ap (λ n. Some (marked_constructor normal n constructor)) same)

  -- what stands behind the constructors
  behind_constructors : (i : ℕ) →
      slice_get (all_marks c normal) (length symbols + length constructors + i)
      ≡ slice_get (own_marks normal c.binding c.marking) i
  behind_constructors i =
      let apart : length symbols + length constructors + i
      ≡ length symbols + (length constructors + i) = omega arith in
      ap (slice_get (all_marks c normal)) apart
      ∙ behind_symbols (length constructors + i)
      ∙ ap (λ n. slice_get (marked_constructors normal 0 constructors
      ++ own_marks normal c.binding c.marking) (n + i)) (sym length-marked_constructors)
      ∙ slice_get-back (marked_constructors normal 0 constructors)
      (own_marks normal c.binding c.marking) i

  pub shared-at : c.marking ≡ ByType →
      slice_get (all_marks c normal) (length symbols + length constructors)
      ≡ Some (shared_mark c.binding)
  shared-at by_type =
      let first : length symbols + length constructors
      ≡ length symbols + length constructors + 0 = omega arith in
      ap (slice_get (all_marks c normal)) first
      ∙ behind_constructors 0
      ∙ ap (λ marking. slice_get (own_marks normal c.binding marking) 0) by_type

  -- the number of a sort among the sorts
  abbrev pub sort_number : Ty → ℕ
  sort_number ty = position_or_len (same_type ty) (sorts normal)

  pub sort-at : c.marking ≡ BySort → (ty : Ty) → IsSort normal ty →
      slice_get (all_marks c normal) (length symbols + length constructors + sort_number ty)
      ≡ Some (sort_mark normal c.binding (sort_number ty) ty)
  sort-at by_sort ty is =
      let s = sort_number ty in
      let same : 0 + s ≡ s = omega arith in
      let found = slice_get-position (same_type ty) (sorts normal) is in
      behind_constructors s
      ∙ ap (λ marking. slice_get (own_marks normal c.binding marking) s) by_sort
      ∙ ap (λ (list : List MarkedSymbol). slice_get list s)
      (sort_marks-numbered normal c.binding 0 (sorts normal))
      ∙ slice_get-numbered (sort_mark normal c.binding) 0 (sorts normal) s found.0 found.1.0
      ∙ ap (λ n. Some (sort_mark normal c.binding n found.0)) same
      ∙ ap (λ other. Some (sort_mark normal c.binding s other))
      (sym (same_type-says ty found.0 found.1.1))
