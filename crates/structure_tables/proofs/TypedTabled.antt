-- The tables of a structure of functions: they have the right lengths, and read as the structure.
use Rattle.std.specs.Prelude.{ℕ, zero, suc, ◌+◌, ◌<◌, ◌≡◌, List, [], ◌∷◌, length, get_or, replicate, slice_index, slice_get, Some}
use Rattle.std.proofs.Common.{refl, sym, ap, ◌∙◌, arith}
use Rattle.enc_base.specs.Tables.{EachBelow, sum_below, tuple_count, place, total, begins}
use Rattle.enc_base.proofs.Tables.{length-blocks, blocks-at, place_within, length-table, table-at, EachBelow-length}
use Rattle.tf_core.specs.declared.signature.Constructor.{Constructor}
use Rattle.tf_core.specs.declared.signature.Symbol.{Symbol}
use Rattle.tf_core.specs.declared.signature.Signature.{Signature}
use Rattle.tf_core.specs.Structures.{Typed, member_count, argument_sizes, AreArguments, IsStructure}
use Rattle.tf_core.specs.TypedTables.{constructor_entry, block_bounds, block_length, symbol_entry, symbol_place, reading, AreTables, IsWellFormed}
use Rattle.tf_core.specs.Typing.{IsSymbol, IsSignature}
use Rattle.tf_models.proofs.Values.{symbol_typed}
use Rattle.structure_tables.specs.TypedTabled.{constructor_table, symbol_block, symbol_table, constructor_tables, symbol_tables, tabled}
use Rattle.structure_tables.proofs.TypedAgreement.{type_sizes-agree, Agrees, IsStructure-agrees}

-- sums of lengths that are the same for tuples in range

sum_below-same : (bound : ℕ) (f g : ℕ → ℕ) → ((n : ℕ) → n < bound → f n ≡ g n) →
    sum_below bound f ≡ sum_below bound g
sum_below-same zero f g same = refl
sum_below-same (suc bound) f g same =
    omega (
      arith,
      same bound (omega arith),
      sum_below-same bound f g (λ n within. same n (omega arith)),
    )

total-same : (bounds : List ℕ) (f g : List ℕ → ℕ) →
    ((values : List ℕ) → EachBelow bounds values → f values ≡ g values) →
    total bounds f ≡ total bounds g
total-same [] f g same = same [] tt
total-same (bound ∷ bounds) f g same =
    sum_below-same bound
    (λ value. total bounds (λ values. f (value ∷ values)))
    (λ value. total bounds (λ values. g (value ∷ values)))
    (λ value within.
    total-same bounds (λ values. f (value ∷ values)) (λ values. g (value ∷ values))
    (λ values below. same (value ∷ values) (within, below)))

begins-same : (bounds : List ℕ) (f g : List ℕ → ℕ) (values : List ℕ) → EachBelow bounds values →
    ((others : List ℕ) → EachBelow bounds others → f others ≡ g others) →
    begins bounds f values ≡ begins bounds g values
begins-same [] f g values below same = refl
begins-same (bound ∷ bounds) f g [] below same = refl
begins-same (bound ∷ bounds) f g (value ∷ values) below same =
    omega (
      arith,
      sum_below-same value
          (λ earlier. total bounds (λ others. f (earlier ∷ others)))
          (λ earlier. total bounds (λ others. g (earlier ∷ others)))
          (λ earlier before.
          total-same bounds (λ others. f (earlier ∷ others)) (λ others. g (earlier ∷ others))
          (λ others inside. same (earlier ∷ others) (omega (arith, before, below.0), inside))),
      begins-same bounds (λ others. f (value ∷ others)) (λ others. g (value ∷ others))
          values below.1
          (λ others inside. same (value ∷ others) (below.0, inside)),
    )

-- the table of each constructor and each symbol

length-constructor_tables : (s : Typed) (constructors : List Constructor) (first : ℕ) →
    length (constructor_tables s constructors first) ≡ length constructors
length-constructor_tables s [] first = refl
length-constructor_tables s (constructor ∷ constructors) first =
    ap suc (length-constructor_tables s constructors (first + 1))

length-symbol_tables : (s : Typed) (symbols : List Symbol) (first : ℕ) →
    length (symbol_tables s symbols first) ≡ length symbols
length-symbol_tables s [] first = refl
length-symbol_tables s (symbol ∷ symbols) first =
    ap suc (length-symbol_tables s symbols (first + 1))

constructor_tables-at : (s : Typed) (constructors : List Constructor) (first c : ℕ)
    (constructor : Constructor) → slice_get constructors c ≡ Some constructor →
    get_or (constructor_tables s constructors first) c []
    ≡ constructor_table s constructor (first + c)
constructor_tables-at s [] first c constructor at = cc
constructor_tables-at s (other ∷ constructors) first zero constructor at =
    let same : other ≡ constructor = cc in
    let here : first ≡ first + 0 = omega arith in
    ap (λ x. constructor_table s x first) same ∙ ap (constructor_table s constructor) here
constructor_tables-at s (other ∷ constructors) first (suc c) constructor at =
    let next : first + 1 + c ≡ first + suc c = omega arith in
    constructor_tables-at s constructors (first + 1) c constructor at
    ∙ ap (constructor_table s constructor) next

symbol_tables-at : (s : Typed) (symbols : List Symbol) (first f : ℕ) (symbol : Symbol) →
    slice_get symbols f ≡ Some symbol →
    get_or (symbol_tables s symbols first) f [] ≡ symbol_table s symbol (first + f)
symbol_tables-at s [] first f symbol at = cc
symbol_tables-at s (other ∷ symbols) first zero symbol at =
    let same : other ≡ symbol = cc in
    let here : first ≡ first + 0 = omega arith in
    ap (λ x. symbol_table s x first) same ∙ ap (symbol_table s symbol) here
symbol_tables-at s (other ∷ symbols) first (suc f) symbol at =
    let next : first + 1 + f ≡ first + suc f = omega arith in
    symbol_tables-at s symbols (first + 1) f symbol at ∙ ap (symbol_table s symbol) next

module _ (g : Signature) (s : Typed) where
  constructor_table_is : (c : ℕ) (constructor : Constructor) →
      slice_get g.constructors c ≡ Some constructor →
      get_or ((tabled g s).constructors) c [] ≡ constructor_table s constructor c
  constructor_table_is c constructor at =
      let same : 0 + c ≡ c = omega arith in
      constructor_tables-at s g.constructors 0 c constructor at
      ∙ ap (constructor_table s constructor) same

  symbol_table_is : (f : ℕ) (symbol : Symbol) → slice_get g.symbols f ≡ Some symbol →
      get_or ((tabled g s).symbols) f [] ≡ symbol_table s symbol f
  symbol_table_is f symbol at =
      let same : 0 + f ≡ f = omega arith in
      symbol_tables-at s g.symbols 0 f symbol at ∙ ap (symbol_table s symbol) same

  pub constructor_at-tabled : (c : ℕ) (constructor : Constructor) (members : List ℕ) →
      slice_get g.constructors c ≡ Some constructor →
      EachBelow (replicate constructor.arity (member_count s)) members →
      constructor_entry (tabled g s) c members ≡ s.constructor_at c members
  constructor_at-tabled c constructor members at below =
      let count : length members ≡ constructor.arity =
      sym (EachBelow-length constructor.arity (member_count s) members below) in
      ap (λ (entries : List ℕ).
      slice_index entries (place (replicate (length members) (member_count s)) members))
      (constructor_table_is c constructor at)
      ∙ ap (λ n. slice_index (constructor_table s constructor c)
      (place (replicate n (member_count s)) members)) count
      ∙ table-at (replicate constructor.arity (member_count s)) members (s.constructor_at c) below

module _ (g : Signature) (s : Typed) (typed : IsSignature g) (structure : IsStructure g s) where
  -- the blocks of a symbol are bounded by the sizes of its argument types' members
  block_bounds-tabled : (symbol : Symbol) (members : List ℕ) → IsSymbol g symbol →
      EachBelow (replicate symbol.parameters (member_count s)) members →
      block_bounds (tabled g s) symbol members ≡ argument_sizes s symbol members
  block_bounds-tabled symbol members is below =
      type_sizes-agree g s.constructor_at (constructor_entry (tabled g s)) (member_count s)
      structure.constructors (constructor_at-tabled g s) symbol.parameters members below
      s.sizes symbol.arguments is.arguments

  block_length-tabled : (f : ℕ) (symbol : Symbol) (members : List ℕ) → IsSymbol g symbol →
      EachBelow (replicate symbol.parameters (member_count s)) members →
      block_length (tabled g s) symbol members ≡ length (symbol_block s symbol f members)
  block_length-tabled f symbol members is below =
      ap tuple_count (block_bounds-tabled symbol members is below)
      ∙ sym (length-table (argument_sizes s symbol members) (s.symbol_at f members))

  symbol_place-tabled : (f : ℕ) (symbol : Symbol) (members elements : List ℕ) → IsSymbol g symbol →
      EachBelow (replicate symbol.parameters (member_count s)) members →
      symbol_place (tabled g s) symbol members elements
      ≡ begins (replicate symbol.parameters (member_count s))
      (λ others. length (symbol_block s symbol f others)) members
      + place (argument_sizes s symbol members) elements
  symbol_place-tabled f symbol members elements is below =
      ap (λ (bounds : List ℕ).
      begins (replicate symbol.parameters (member_count s))
      (block_length (tabled g s) symbol) members
      + place bounds elements) (block_bounds-tabled symbol members is below)
      ∙ ap (λ n. n + place (argument_sizes s symbol members) elements)
      (begins-same (replicate symbol.parameters (member_count s)) (block_length (tabled g s) symbol)
      (λ others. length (symbol_block s symbol f others)) members below
      (λ others inside. block_length-tabled f symbol others is inside))

  pub symbol_at-tabled : (f : ℕ) (symbol : Symbol) (members elements : List ℕ) →
      slice_get g.symbols f ≡ Some symbol → AreArguments s symbol members elements →
      (reading g (tabled g s)).symbol_at f members elements ≡ s.symbol_at f members elements
  symbol_at-tabled f symbol members elements at are =
      let is : IsSymbol g symbol = symbol_typed g g.symbols f symbol at typed in
      let inside : place (argument_sizes s symbol members) elements
      < length (symbol_block s symbol f members) =
      omega (
        arith,
        place_within (argument_sizes s symbol members) elements are.for_arguments,
        length-table (argument_sizes s symbol members) (s.symbol_at f members),
      ) in
      ap (λ o. symbol_entry (tabled g s) o f members elements) at
      ∙ ap (λ (entries : List ℕ).
      slice_index entries (symbol_place (tabled g s) symbol members elements))
      (symbol_table_is g s f symbol at)
      ∙ ap (slice_index (symbol_table s symbol f))
      (symbol_place-tabled f symbol members elements is are.for_parameters)
      ∙ blocks-at (replicate symbol.parameters (member_count s)) members (symbol_block s symbol f)
      (place (argument_sizes s symbol members) elements) are.for_parameters inside
      ∙ table-at (argument_sizes s symbol members) elements (s.symbol_at f members)
      are.for_arguments

  pub Agrees-tabled : Agrees g s (reading g (tabled g s))
  Agrees-tabled = record {
    sizes = refl;
    constructors = constructor_at-tabled g s;
    symbols = symbol_at-tabled;
  }

  pub AreTables-tabled : AreTables g (tabled g s)
  AreTables-tabled = record {
    constructor_count = length-constructor_tables s g.constructors 0;
    symbol_count = length-symbol_tables s g.symbols 0;
    constructors = λ c constructor at.
        ap (λ (entries : List ℕ). length entries) (constructor_table_is g s c constructor at)
        ∙ length-table (replicate constructor.arity (member_count s)) (s.constructor_at c);
    symbols = λ f symbol at.
        let is : IsSymbol g symbol = symbol_typed g g.symbols f symbol at typed in
        ap (λ (entries : List ℕ). length entries) (symbol_table_is g s f symbol at)
        ∙ length-blocks (replicate symbol.parameters (member_count s)) (symbol_block s symbol f)
        ∙ sym (total-same (replicate symbol.parameters (member_count s))
        (block_length (tabled g s) symbol) (λ others. length (symbol_block s symbol f others))
        (λ others inside. block_length-tabled f symbol others is inside));
  }

  pub IsWellFormed-tabled : IsWellFormed g (tabled g s)
  IsWellFormed-tabled = record {
    tables = AreTables-tabled;
    structure = IsStructure-agrees g s (reading g (tabled g s)) typed structure Agrees-tabled;
  }
