-- Where the blocks of a symbol are equally long.
use Rattle.std.specs.Prelude.{ℕ, zero, suc, ◌≡◌, ◌<◌, ◌+◌, ◌*◌, ◌^◌, ◌/◌, ◌%◌, false, ◌||◌, List, [], ◌∷◌, map, length, get_or, slice_index, Option, Some, None}
use Rattle.std.proofs.Common.{refl, sym, ap, subst, ◌∙◌, arith}
use Rattle.std.proofs.Math.Nat.{div-lt_iff_lt-mul, mod-lt, mul_comm}
use Rattle.std.proofs.lemmas.Nat.{div-add-mod'}
use Rattle.std.proofs.lemmas.Bool.{false≢true}
use Rattle.std.proofs.lemmas.Simd.{map-map}
use Rattle.enc_base.specs.Tables.{sum_below, tuple_count}
use Rattle.enc_base.specs.Counts.{in_64_bits}
use Rattle.enc_base.proofs.NumberedTuples.{some_tuples}
use Rattle.enc_base.proofs.Tables.{sum_below-part}
use Rattle.tf_core.specs.declared.ty.Ty.{Ty}
use Rattle.tf_core.specs.declared.signature.Symbol.{Symbol}
use Rattle.tf_core.specs.declared.signature.Signature.{Signature}
use Rattle.tf_core.specs.Types.{type_value}
use Rattle.tf_core.specs.TypedTables.{constructor_entry, block_bounds}
use Rattle.tf_core.specs.Typing.{IsSymbol}
use Rattle.tf_core.specs.Occurrences.{occurs_in_types, AgreeWhere}
use Rattle.tf_core.proofs.Occurrences.{type_values-agree}
use Rattle.tf_models.specs.declared.structure.TypedStructure.{TypedStructure}
use Rattle.tf_models.specs.Reading.{tables}
use Rattle.tf_models.specs.Fit.{ConstructorsFit, IsSymbolTable, block_count, length_at, bound_at, parameters_at}
use Rattle.tf_models.specs.Evaluation.{IsBlock, IsClosedResult, HasEvenBlocks}
use Rattle.tf_models.proofs.SymbolBlocks.{in_64_bits-times}

sum_below-even : (count : ℕ) (f : ℕ → ℕ) (value : ℕ) → ((n : ℕ) → f n ≡ value) →
    sum_below count f ≡ count * value
sum_below-even zero f value even = omega arith
sum_below-even (suc count) f value even =
    omega (arith, sum_below-even count f value even, even count)

-- a product with a length that is kept in 64 bits
pub even_product : (number length held : ℕ) → held ≡ in_64_bits length →
    number * length < 2 ^ 64 → number * held ≡ number * length
even_product zero length held is fits = omega arith
even_product (suc number) length held is fits =
    let few : length < 2 ^ 64 = at_most (suc number) length (omega arith) fits in
    let same : held ≡ length = omega (arith, is, few) in
    ap (λ n. suc number * n) same
  where
    at_most : (a b : ℕ) → 0 < a → a * b < 2 ^ 64 → b < 2 ^ 64
    at_most a b some inside = grind arith

-- the blocks of a symbol of whose arguments no type has a variable
module _ (s : TypedStructure) (symbol : Symbol)
    (closed : (i : ℕ) → occurs_in_types i symbol.arguments ≡ false)
  where
    agree : (members others : List ℕ) →
        AgreeWhere (λ i. occurs_in_types i symbol.arguments) members others
    agree members others i is = absurd (false≢true (sym (closed i) ∙ is))

    abbrev bounds_with : List ℕ → List ℕ
    bounds_with members = block_bounds (tables s) symbol members

    same_bounds : (members others : List ℕ) → bounds_with members ≡ bounds_with others
    same_bounds members others =
        sym (map-map (λ n. slice_index s.sizes n)
        (type_value (constructor_entry (tables s)) members) symbol.arguments)
        ∙ ap (map (λ n. slice_index s.sizes n))
        (type_values-agree members others (constructor_entry (tables s)) symbol.arguments
        (agree members others))
        ∙ map-map (λ n. slice_index s.sizes n)
        (type_value (constructor_entry (tables s)) others) symbol.arguments

    pub same_length : (number other : ℕ) →
        length_at (tables s) symbol number ≡ length_at (tables s) symbol other
    same_length number other =
        ap tuple_count (same_bounds (parameters_at (tables s) symbol number)
        (parameters_at (tables s) symbol other))

    -- where a block begins
    pub even_start : (number other : ℕ) →
        sum_below number (length_at (tables s) symbol)
        ≡ number * length_at (tables s) symbol other
    even_start number other =
        sum_below-even number (length_at (tables s) symbol) (length_at (tables s) symbol other)
        (λ n. same_length n other)

-- the whole table of a symbol of whose types none has a variable
module _ (g : Signature) (s : TypedStructure) (symbol : Symbol) (even : HasEvenBlocks symbol)
    (entries : List ℕ)
  where
    same_bound : (number other : ℕ) →
        bound_at (tables s) symbol.result (parameters_at (tables s) symbol number)
        ≡ bound_at (tables s) symbol.result (parameters_at (tables s) symbol other)
    same_bound number other =
        go symbol.result even.result (parameters_at (tables s) symbol number)
        (parameters_at (tables s) symbol other)
      where
        go : (result : Option Ty) → IsClosedResult result → (members others : List ℕ) →
            bound_at (tables s) result members ≡ bound_at (tables s) result others
        go None none members others = refl
        go (Some ty) none members others =
            ap (λ n. slice_index s.sizes n)
            (ap (λ ms. get_or ms 0 0)
            (type_values-agree members others (constructor_entry (tables s)) (ty ∷ [])
            (λ i is. absurd (false≢true (sym (ap (λ b. b || false) (none i)) ∙ is)))))

    abbrev each : ℕ
    each = length_at (tables s) symbol 0

    abbrev blocks : ℕ
    blocks = block_count (tables s) symbol

    abbrev bound : ℕ
    bound = bound_at (tables s) symbol.result (parameters_at (tables s) symbol 0)

    start_is : (number : ℕ) → sum_below number (length_at (tables s) symbol) ≡ number * each
    start_is number = even_start s symbol even.arguments number 0

    pub even_table : blocks * each ≡ length entries →
        ((i : ℕ) → i < length entries → slice_index entries i < bound) →
        IsSymbolTable (tables s) symbol entries
    even_table long below = record {
      count = omega (arith, long, start_is blocks);
      below = λ number i within inside.
          subst
          (λ n. slice_index entries (sum_below number (length_at (tables s) symbol) + i) < n)
          (same_bound 0 number)
          (below (sum_below number (length_at (tables s) symbol) + i)
          (omega (
            arith,
            long,
            start_is blocks,
            inside,
            sum_below-part number blocks (length_at (tables s) symbol) within,
          )));
    }

    module _ (table : IsSymbolTable (tables s) symbol entries) where
      pub even_long : blocks * each ≡ length entries
      even_long = omega (arith, table.count, start_is blocks)

      pub even_below : 0 < each → (i : ℕ) → i < length entries → slice_index entries i < bound
      even_below some i inside =
          let whole : i / each * each + i % each ≡ i = div-add-mod' i each in
          let number : i / each < blocks =
          (div-lt_iff_lt-mul some).1 (subst (λ n. i < n) (sym even_long) inside) in
          let rest : i % each < each = mod-lt i some in
          let at : sum_below (i / each) (length_at (tables s) symbol) + i % each ≡ i =
          ap (λ n. n + i % each) (start_is (i / each)) ∙ whole in
          subst (λ n. slice_index entries n < bound) at
          (subst
          (λ n. slice_index entries
          (sum_below (i / each) (length_at (tables s) symbol) + i % each) < n)
          (same_bound (i / each) 0)
          (table.below (i / each) (i % each) number
          (subst (λ n. i % each < n) (same_length s symbol even.arguments 0 (i / each)) rest)))

-- the length of all blocks, as it is kept in 64 bits
pub whole_is : (blocks each held product : ℕ) → held ≡ in_64_bits each →
    product ≡ in_64_bits (held * blocks) → 0 < blocks → product ≡ in_64_bits (blocks * each)
whole_is blocks each held product is made some =
    made
    ∙ ap (λ n. in_64_bits (n * blocks)) is
    ∙ in_64_bits-times each blocks some
    ∙ ap in_64_bits (mul_comm each blocks)

-- the first block
pub first_block : (g : Signature) (s : TypedStructure) (symbol : Symbol) → length s.sizes < 2 ^ 32 →
    IsSymbol g symbol → ConstructorsFit g (tables s) → IsBlock g s symbol 0
first_block g s symbol few typed constructors = record {
  constructors = constructors;
  few = few;
  typed = typed;
  within =
      omega (arith, some_tuples symbol.parameters (length s.sizes) constructors.inhabited.some);
}
