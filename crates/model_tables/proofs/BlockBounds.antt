-- The bounds of the entries of a symbol's table, block by block.
use Rattle.std.proofs.Common.{◌≡◌, ℕ, zero, suc, ◌+◌, ◌-◌, ◌^◌, ◌≤◌, ◌<◌, List, [], ◌∷◌, ◌++◌, length}
use Rattle.std.proofs.Common.{Bool, true, false, Option, Some, None, refl, sym, ap, ◌∙◌, subst, arith}
use Rattle.std.proofs.Common.{replicate, take, drop, get_or, ⊎_elim, length-drop, is_some}
use Rattle.std.specs.Prelude.{ltb, slice_index, if◌then◌else◌}
use Rattle.std.proofs.lemmas.List.{get_or-replicate, length-replicate, take-append-drop, length-take-le, drop-drop}
use Rattle.std.proofs.Math.ListN.{drop_of_length-le}
use Rattle.std.proofs.lemmas.Bool.{cases_lt}
use Rattle.enc_base.specs.Tables.{EachBelow, sum_below, tuple_count, place, total, begins, blocks}
use Rattle.enc_base.specs.Tuples.{tuple_at}
use Rattle.enc_base.proofs.Tables.{sum_below-same, blocks-at, sum_below-next, sum_below-part}
use Rattle.enc_base.proofs.NumberedTuples.{total-numbered, begins-numbered, place-tuple_at}
use Rattle.tf_core.specs.declared.signature.Symbol.{Symbol}
use Rattle.tf_core.specs.declared.signature.Signature.{Signature}
use Rattle.tf_core.specs.TypedTables.{block_length}
use Rattle.tf_core.specs.Typing.{IsSymbol}
use Rattle.tf_models.specs.declared.structure.TypedStructure.{TypedStructure}
use Rattle.tf_models.specs.Reading.{tables}
use Rattle.tf_models.specs.Fit.{ConstructorsFit, block_count, length_at, bound_at, parameters_at}
use Rattle.tf_models.specs.Evaluation.{IsBlock}
use Rattle.tf_models.proofs.SymbolBlocks.{some_member, parameters_below, block_positive, blocks_fit}
use Rattle.model_tables.specs.Faults.{first_over}
use Rattle.model_tables.specs.Typed.{symbol_entries, symbol_bounds}

-- ---- the first entry over its bound

-- the entries of a front are below their bounds: the first is in what follows
pub first_over-behind : (bound : ℕ → ℕ) (i : ℕ) (front entries : List ℕ)
    → first_over bound i front ≡ None
    → first_over bound i (front ++ entries) ≡ first_over bound (i + length front) entries
first_over-behind bound i [] entries none =
    let same : i ≡ i + 0 = omega arith in
    ap (λ j. first_over bound j entries) same
first_over-behind bound i (e ∷ front) entries none =
    by (ltb e (bound i)) none (first_over-behind bound (suc i) front entries)
  where
    by : (b : Bool) → (if b then first_over bound (suc i) front else Some e) ≡ None
        → (first_over bound (suc i) front ≡ None
        → first_over bound (suc i) (front ++ entries)
        ≡ first_over bound (suc i + length front) entries)
        → (if b then first_over bound (suc i) (front ++ entries) else Some e)
        ≡ first_over bound (i + length (e ∷ front)) entries
    by true is next =
        let same : suc i + length front ≡ i + length (e ∷ front) = omega arith in
        next is ∙ ap (λ j. first_over bound j entries) same
    by false is next = cc

-- the first one of a front is the first of all
pub first_over-front : (bound : ℕ → ℕ) (i v : ℕ) (front entries : List ℕ)
    → first_over bound i front ≡ Some v → first_over bound i (front ++ entries) ≡ Some v
first_over-front bound i v [] entries is = cc
first_over-front bound i v (e ∷ front) entries is =
    by (ltb e (bound i)) is (first_over-front bound (suc i) v front entries)
  where
    by : (b : Bool) → (if b then first_over bound (suc i) front else Some e) ≡ Some v
        → (first_over bound (suc i) front ≡ Some v
        → first_over bound (suc i) (front ++ entries) ≡ Some v)
        → (if b then first_over bound (suc i) (front ++ entries) else Some e) ≡ Some v
    by true same next = next same
    by false same next = same

-- bounds that are one number over a front
pub first_over-constant : (bound : ℕ → ℕ) (i c : ℕ) (entries : List ℕ)
    → ((j : ℕ) → j < length entries → bound (i + j) ≡ c)
    → first_over bound i entries ≡ first_over (λ _. c) i entries
first_over-constant bound i c [] each = refl
first_over-constant bound i c (e ∷ entries) each =
    let here : i + 0 ≡ i = omega arith in
    let first : bound i ≡ c = ap bound (sym here) ∙ each 0 (omega arith) in
    let others = first_over-constant bound (suc i) c entries (λ j within.
    let there : suc i + j ≡ i + suc j = omega arith in
    ap bound there ∙ each (suc j) (omega arith)) in
    ap (λ n. if ltb e n then first_over bound (suc i) entries else Some e) first
    ∙ ap (λ o. if ltb e c then o else Some e) others

-- ---- blocks

-- the table has the entries of its blocks
pub symbol_entries-numbered : (s : TypedStructure) (symbol : Symbol) → 0 < length s.sizes
    → symbol_entries (tables s) symbol
    ≡ sum_below (block_count (tables s) symbol) (length_at (tables s) symbol)
symbol_entries-numbered s symbol some =
    total-numbered (length s.sizes) some symbol.parameters (block_length (tables s) symbol)

module _ (g : Signature) (s : TypedStructure) (symbol : Symbol) (number : ℕ)
    (block : IsBlock g s symbol number)
  where
    abbrev bound_in : ℕ
    bound_in = bound_at (tables s) symbol.result (parameters_at (tables s) symbol number)

    abbrev block_of : List ℕ → List ℕ
    block_of members =
        replicate (block_length (tables s) symbol members) (bound_at (tables s) symbol.result members)

    -- where a block begins
    begins_at : begins (replicate symbol.parameters (length s.sizes))
        (λ members. length (block_of members)) (parameters_at (tables s) symbol number)
        ≡ sum_below number (length_at (tables s) symbol)
    begins_at =
        begins-numbered (length s.sizes) (some_member g s symbol number block) symbol.parameters
        (λ members. length (block_of members)) (parameters_at (tables s) symbol number)
        (parameters_below g s symbol number block)
        ∙ ap (λ n. sum_below n (λ m. length (block_of (parameters_at (tables s) symbol m))))
        (place-tuple_at (length s.sizes) (some_member g s symbol number block) symbol.parameters
        number block.within)
        ∙ sum_below-same number (λ m. length (block_of (parameters_at (tables s) symbol m)))
        (length_at (tables s) symbol) (λ m within.
        length-replicate (length_at (tables s) symbol m)
        (bound_at (tables s) symbol.result (parameters_at (tables s) symbol m)))

    -- the bound of an entry of a block
    pub bound-in_block : (start j : ℕ) → start ≡ sum_below number (length_at (tables s) symbol)
        → j < length_at (tables s) symbol number
        → slice_index (symbol_bounds (tables s) symbol) (start + j) ≡ bound_in
    bound-in_block start j is within =
        let members = parameters_at (tables s) symbol number in
        let inside : j < length (block_of members) =
        subst (λ n. j < n) (sym (length-replicate (length_at (tables s) symbol number) bound_in))
        within in
        ap (λ n. get_or (symbol_bounds (tables s) symbol) (n + j) 0) (is ∙ sym begins_at)
        ∙ blocks-at (replicate symbol.parameters (length s.sizes)) members block_of j
        (parameters_below g s symbol number block) inside
        ∙ get_or-replicate (length_at (tables s) symbol number) j bound_in 0 within

-- ---- the walk

module _ (g : Signature) (s : TypedStructure) (symbol : Symbol) (typed : IsSymbol g symbol)
    (fit : ConstructorsFit g (tables s)) (few : length s.sizes < 4294967296) (entries : List ℕ)
    (long : length entries ≡ symbol_entries (tables s) symbol) (start number : ℕ)
    (start_is : start ≡ sum_below number (length_at (tables s) symbol))
    (known : number ≤ block_count (tables s) symbol) (more : start < length entries)
  where
    abbrev lengths : ℕ → ℕ
    lengths = length_at (tables s) symbol

    whole : length entries ≡ sum_below (block_count (tables s) symbol) lengths
    whole = long ∙ symbol_entries-numbered s symbol fit.inhabited.some

    -- there is a block more
    pub one_more : number < block_count (tables s) symbol
    one_more =
        ⊎_elim (λ within. within) (λ last.
        let all : block_count (tables s) symbol ≤ number = last in
        let same : number ≡ block_count (tables s) symbol = omega arith in
        absurd (omega (arith, whole, start_is, ap (λ n. sum_below n lengths) same)))
        (cases_lt number (block_count (tables s) symbol))

    pub this_block : IsBlock g s symbol number
    this_block = record { constructors = fit; few = few; typed = typed; within = one_more }

    pub some_entries : 1 ≤ lengths number
    some_entries = block_positive g s symbol number this_block

    pub block_inside : start + lengths number ≤ length entries
    block_inside =
        omega (
          arith,
          whole,
          start_is,
          sum_below-part number (block_count (tables s) symbol) lengths one_more,
        )

    pub next_start : start + lengths number ≡ sum_below (number + 1) lengths
    next_start = omega (arith, start_is, sum_below-next number lengths)

    abbrev bounds : ℕ → ℕ
    bounds i = slice_index (symbol_bounds (tables s) symbol) i

    abbrev block_entries : List ℕ
    block_entries = take (lengths number) (drop start entries)

    long_block : length block_entries ≡ lengths number
    long_block =
        length-take-le (lengths number) (drop start entries)
        (omega (arith, block_inside, length-drop start entries))

    -- in the block each entry has the same bound
    pub in_block : first_over bounds start block_entries
        ≡ first_over (λ _. bound_at (tables s) symbol.result (parameters_at (tables s) symbol number))
        start block_entries
    in_block =
        first_over-constant bounds start
        (bound_at (tables s) symbol.result (parameters_at (tables s) symbol number)) block_entries
        (λ j within.
        bound-in_block g s symbol number this_block start j start_is (omega (arith, within, long_block)))

    split : drop start entries ≡ block_entries ++ drop (start + lengths number) entries
    split =
        sym (take-append-drop (lengths number) (drop start entries))
        ∙ ap (λ z. block_entries ++ z) (drop-drop (lengths number) start entries)

    pub block_clean : first_over bounds start block_entries ≡ None
        → first_over bounds start (drop start entries)
        ≡ first_over bounds (start + lengths number) (drop (start + lengths number) entries)
    block_clean none =
        ap (first_over bounds start) split
        ∙ first_over-behind bounds start block_entries (drop (start + lengths number) entries) none
        ∙ ap (λ n. first_over bounds (start + n) (drop (start + lengths number) entries)) long_block

    pub block_faulty : (v : ℕ) → first_over bounds start block_entries ≡ Some v
        → first_over bounds start (drop start entries) ≡ Some v
    block_faulty v some =
        ap (first_over bounds start) split
        ∙ first_over-front bounds start v block_entries (drop (start + lengths number) entries) some

    -- the entries that the loop looks at are those of the block
    module _ (n bound : ℕ) (o : Option ℕ) (same : n ≡ lengths number)
        (bound_is : bound ≡ bound_at (tables s) symbol.result (parameters_at (tables s) symbol number))
        (looks : o ≡ first_over (λ _. bound) start (take n (drop start entries)))
      where
        looked : first_over bounds start block_entries ≡ o
        looked =
            in_block
            ∙ ap (λ b. first_over (λ _. b) start block_entries) (sym bound_is)
            ∙ ap (λ m. first_over (λ _. bound) start (take m (drop start entries))) (sym same)
            ∙ sym looks

        pub walks_on : is_some o ≡ false
            → first_over bounds start (drop start entries)
            ≡ first_over bounds (start + lengths number) (drop (start + lengths number) entries)
        walks_on none = by o looked none
          where
            by : (p : Option ℕ) → first_over bounds start block_entries ≡ p → is_some p ≡ false
                → first_over bounds start (drop start entries)
                ≡ first_over bounds (start + lengths number)
                (drop (start + lengths number) entries)
            by None is clean = block_clean is
            by (Some v) is clean = cc

        pub walk_stops : is_some o ≡ true → o ≡ first_over bounds start (drop start entries)
        walk_stops some = by o looked some
          where
            by : (p : Option ℕ) → first_over bounds start block_entries ≡ p → is_some p ≡ true
                → p ≡ first_over bounds start (drop start entries)
            by None is faulty = cc
            by (Some v) is faulty = sym (block_faulty v is)

    -- there are no more blocks than entries
    pub number_small : number ≤ start
    number_small =
        omega (
          arith,
          start_is,
          blocks_fit number lengths (λ n within.
              block_positive g s symbol n
              (record { constructors = fit; few = few; typed = typed; within = omega (arith, within, known) })),
        )

-- behind the last entry
pub none_behind : (bounds : ℕ → ℕ) (start : ℕ) (entries : List ℕ) → length entries ≤ start
    → first_over bounds start (drop start entries) ≡ None
none_behind bounds start entries whole =
    ap (first_over bounds start) (drop_of_length-le entries whole)
