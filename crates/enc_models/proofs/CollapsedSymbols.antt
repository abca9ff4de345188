-- What a symbol or a constructor of the collapsed structure gives, from the table of the typed one.
use Rattle.std.specs.Prelude.{ℕ, ◌≡◌, ◌<◌, ◌≤◌, ◌+◌, List, [], map, length, replicate, take, drop, get_or, slice_index, Some}
use Rattle.std.proofs.Common.{refl, sym, ap, subst, ◌∙◌, arith}
use Rattle.std.proofs.lemmas.List.{length-replicate, length-map, length-take-le, get_or_default}
use Rattle.std.proofs.lemmas.Simd.{map-map}
use Rattle.std.proofs.lemmas.Option.{slice_get_within, slice_get-get_or, get_or_from_slice_get}
use Rattle.enc_base.specs.Tables.{EachBelow, tuple_count, place}
use Rattle.enc_base.specs.Tuples.{tuple_at, IsPlaced}
use Rattle.enc_base.proofs.Placing.{EachBelow-same_length, placed_within}
use Rattle.enc_base.proofs.NumberedTuples.{tuple_at-place}
use Rattle.tf_core.specs.declared.signature.Symbol.{Symbol}
use Rattle.tf_core.specs.Structures.{member_of}
use Rattle.tf_core.specs.TypedTables.{constructor_entry, symbol_entry}
use Rattle.tf_models.specs.Fit.{bounds_at, parameters_at, block_count}
use Rattle.tf_models.specs.Evaluation as evaluation
use Rattle.tf_models.specs.Evaluation.{IsBlock}
use Rattle.tf_models.proofs.SymbolBlocks.{parameters_below}
use Rattle.tf_models.proofs.TypeMembers as type_members
use Rattle.tf_models.proofs.TypeMembers.{constructor_long}
use Rattle.tf_models.proofs.Entries.{constructors_fit, symbol_block, block_count-fits}
use Rattle.enc_marks.specs.declared.mark.Mark.TheVariants as mark
use Rattle.enc_laws.specs.CollapsedStructure.{members_collapsed, elements_collapsed, collapsed_symbol, collapsed_at}
use Rattle.enc_laws.proofs.MergedFormed.{EachBelow-back}
use Rattle.enc_models.specs.declared.blocks.Block.{Block}
use Rattle.enc_models.specs.Calls.Blocks.{IsKept, AreBlocks}
use Rattle.enc_models.specs.Calls.Collapsing.{Parts, signature_in, tables_in, typed_in, size_in, collapsed_in, IsCollapsing, AreNumbers, StandsForSymbol, IsSymbolFor, IsConstructorFor}
use Rattle.enc_models.proofs.BlockEntries.{block_fits, entry_within, entry_is}
use Rattle.enc_models.proofs.CollapsedNumbers.{members_below}

-- a marked symbol as code reads it, and the numbers for its type arguments and arguments
pub record IsGiven (m : Parts) (at f : ℕ) (symbol : Symbol) (values : List ℕ) : Type 0 where
  pub marked : StandsForSymbol m at f symbol
  pub below : AreNumbers m (symbol.parameters + length symbol.arguments) values

pub symbol_read : (m : Parts) (at f : ℕ) (values : List ℕ) → IsSymbolFor m at f values →
    (symbols : List Symbol) (symbol : Symbol) → symbols ≡ (signature_in m).symbols →
    symbol ≡ get_or symbols f symbol → IsGiven m at f symbol values
symbol_read m at f values given symbols symbol same is =
    let read : given.symbol ≡ symbol =
    sym (is ∙ ap (λ xs. get_or xs f symbol) same
    ∙ get_or_from_slice_get (signature_in m).symbols f given.symbol symbol
    given.marked.symbol_at) in
    subst (λ x. IsGiven m at f x values) read
    (record { marked = given.marked; below = given.below })

module _ (m : Parts) (ready : IsCollapsing m) (at f : ℕ) (symbol : Symbol) (values : List ℕ)
    (given : IsGiven m at f symbol values)
  where
    abbrev sizes : List ℕ
    sizes = m.model.sizes

    abbrev kept : List ℕ
    kept = take symbol.parameters values

    abbrev own : List ℕ
    own = drop symbol.parameters values

    values_count : length values ≡ symbol.parameters + length symbol.arguments
    values_count =
        sym (EachBelow-same_length
        (replicate (symbol.parameters + length symbol.arguments) (size_in m)) values given.below)
        ∙ length-replicate (symbol.parameters + length symbol.arguments) (size_in m)

    pub parameters_within : symbol.parameters ≤ length values
    parameters_within = omega (arith, values_count)

    kept_long : length kept ≡ symbol.parameters
    kept_long = length-take-le symbol.parameters values (omega (arith, values_count))

    own_below : AreNumbers m (length symbol.arguments) own
    own_below =
        EachBelow-back (size_in m) symbol.parameters (length symbol.arguments) values given.below

    own_long : length own ≡ length symbol.arguments
    own_long =
        sym (EachBelow-same_length (replicate (length symbol.arguments) (size_in m)) own own_below)
        ∙ length-replicate (length symbol.arguments) (size_in m)

    pub table_within : f < length m.model.symbols
    table_within =
        omega (
          arith,
          slice_get_within (signature_in m).symbols f symbol given.marked.symbol_at,
          ready.ready.well_formed.tables.symbol_count,
        )

    pub parameters_fit : tuple_count (replicate (length kept) (length sizes))
        ≤ length (get_or m.model.symbols f [])
    parameters_fit =
        subst
        (λ n. tuple_count (replicate n (length sizes)) ≤ length (get_or m.model.symbols f []))
        (sym kept_long)
        (block_count-fits (signature_in m) m.model ready.ready f symbol given.marked.symbol_at)

    pub mark_within : at < length m.blocks
    mark_within =
        omega (
          arith,
          ready.blocks.count,
          slice_get_within m.encoded.marks at (mark.Symbol f) given.marked.mark_at,
        )

    -- the blocks of the symbol's table, as code reads them
    module _ (blocks other : List Block) (is : blocks ≡ get_or m.blocks at other) where
      pub are_blocks : AreBlocks m.model symbol blocks
      are_blocks =
          subst (AreBlocks m.model symbol)
          (sym (is ∙ get_or_default m.blocks at other [] mark_within))
          (ready.blocks.each at (mark.Symbol f) given.marked.mark_at f symbol refl
          given.marked.symbol_at)

      pub block_read : (number : ℕ) → number < block_count (tables_in m) symbol →
          (block : Block) → block ≡ get_or blocks number block → IsKept m.model symbol number block
      block_read number within block same =
          are_blocks.each number block
          (slice_get-get_or blocks number block (omega (arith, within, are_blocks.count))
          ∙ ap Some (sym same))

    module _ (number : ℕ)
        (placed : IsPlaced (replicate (length kept) (length sizes))
        (members_collapsed (typed_in m) kept) number)
      where
        pub number_within : number < block_count (tables_in m) symbol
        number_within =
            subst (λ n. number < tuple_count (replicate n (length sizes))) kept_long
            (placed_within (replicate (length kept) (length sizes))
            (members_collapsed (typed_in m) kept) number placed)

        given_block : IsBlock (signature_in m) m.model symbol number
        given_block =
            symbol_block (signature_in m) m.model ready.ready f symbol
            given.marked.symbol_at number number_within

        members_are : parameters_at (tables_in m) symbol number ≡ members_collapsed (typed_in m) kept
        members_are =
            let number_is : number
            ≡ place (replicate symbol.parameters (length sizes))
            (members_collapsed (typed_in m) kept) =
            placed.place_is
            ∙ ap (λ n. place (replicate n (length sizes)) (members_collapsed (typed_in m) kept))
            kept_long in
            ap (tuple_at (length sizes) symbol.parameters) number_is
            ∙ tuple_at-place (length sizes) ready.ready.well_formed.structure.some
            symbol.parameters (members_collapsed (typed_in m) kept)
            (subst (λ n. EachBelow (replicate n (length sizes)) (members_collapsed (typed_in m) kept))
            kept_long (members_below (typed_in m) ready.ready.well_formed.structure.some kept))

        abbrev members : List ℕ
        members = parameters_at (tables_in m) symbol number

        abbrev types_are : List ℕ
        types_are = map (evaluation.member_in m.model members) symbol.arguments

        -- the block that is kept
        module _ (block : Block) (is : IsKept m.model symbol number block) where
          as_many : length block.arguments ≡ length symbol.arguments
          as_many = ap length is.arguments_are ∙ length-map _ _

          pub arguments_below :
              EachBelow (replicate (length block.arguments) (length sizes)) block.arguments
          arguments_below =
              subst (λ ms. EachBelow (replicate (length ms) (length sizes)) ms)
              (sym is.arguments_are)
              (subst (λ n. EachBelow (replicate n (length sizes)) types_are)
              (sym (length-map _ _))
              (type_members.members_below (signature_in m) m.model given_block.constructors
              symbol.parameters members symbol.arguments given_block.typed.arguments
              (parameters_below (signature_in m) m.model symbol number given_block)))

          pub own_numbers : length (drop symbol.parameters values) ≡ length block.arguments
          own_numbers = own_long ∙ sym as_many

          bounds_are : map (slice_index sizes) block.arguments ≡ bounds_at (tables_in m) symbol number
          bounds_are =
              ap (map (slice_index sizes)) is.arguments_are
              ∙ map-map (slice_index sizes) (evaluation.member_in m.model members) symbol.arguments

          pub arguments_fit : tuple_count (map (slice_index sizes) block.arguments)
              ≤ length (get_or m.model.symbols f [])
          arguments_fit =
              omega (
                arith,
                ap tuple_count bounds_are,
                block_fits (signature_in m) m.model ready.ready f symbol given.marked.symbol_at
                    number given_block,
              )

          abbrev elements : List ℕ
          elements = elements_collapsed (typed_in m) (size_in m) types_are own

          module _ (at_place : ℕ)
              (stands : IsPlaced (map (slice_index sizes) block.arguments)
              (elements_collapsed (typed_in m) (size_in m) block.arguments own) at_place)
            where
              stands_in_block : IsPlaced (bounds_at (tables_in m) symbol number) elements at_place
              stands_in_block =
                  subst (λ bounds. IsPlaced bounds elements at_place) bounds_are
                  (subst
                  (λ ms. IsPlaced (map (slice_index sizes) block.arguments)
                  (elements_collapsed (typed_in m) (size_in m) ms own) at_place) is.arguments_are
                  stands)

              pub entry_inside : block.start + at_place < length (get_or m.model.symbols f [])
              entry_inside =
                  omega (
                    arith,
                    is.start_is,
                    entry_within (signature_in m) m.model ready.ready f symbol
                        given.marked.symbol_at number given_block elements at_place
                        stands_in_block,
                  )

              entry_at : slice_index (get_or m.model.symbols f []) (block.start + at_place)
                  ≡ (typed_in m).symbol_at f members elements
              entry_at =
                  ap (λ n. slice_index (get_or m.model.symbols f []) (n + at_place)) is.start_is
                  ∙ entry_is (signature_in m) m.model ready.ready f symbol
                  given.marked.symbol_at number given_block elements at_place stands_in_block
                  ∙ ap (λ found. symbol_entry (tables_in m) found f members elements)
                  (sym given.marked.symbol_at)

              collapsed_is : (collapsed_in m).symbol_at f values
                  ≡ (typed_in m).symbol_at f members elements
              collapsed_is =
                  ap (λ found. collapsed_at m.choices m.normal (typed_in m) f found values)
                  given.marked.symbol_at
                  ∙ ap (λ n. collapsed_symbol (typed_in m) (size_in m) f symbol (take n values)
                  (drop n values)) (ready.kept f symbol given.marked.symbol_at)
                  ∙ ap (λ (ms : List ℕ). (typed_in m).symbol_at f ms
                  (elements_collapsed (typed_in m) (size_in m)
                  (map (member_of (typed_in m) ms) symbol.arguments) own)) (sym members_are)

              pub value_is : slice_index (get_or m.model.symbols f []) (block.start + at_place)
                  ≡ (collapsed_in m).symbol_at f values
              value_is = entry_at ∙ sym collapsed_is

-- constructors

module _ (m : Parts) (ready : IsCollapsing m) (c : ℕ) (values : List ℕ)
    (given : IsConstructorFor m c values)
  where
    values_arity : length values ≡ given.constructor.arity
    values_arity =
        sym (EachBelow-same_length (replicate given.constructor.arity (size_in m)) values given.below)
        ∙ length-replicate given.constructor.arity (size_in m)

    pub constructor_within : c < length m.model.constructors
    constructor_within =
        omega (
          arith,
          slice_get_within (signature_in m).constructors c given.constructor given.at,
          ready.ready.well_formed.tables.constructor_count,
        )

    pub constructor_fits : tuple_count (replicate (length values) (length m.model.sizes))
        ≡ length (get_or m.model.constructors c [])
    constructor_fits =
        sym (constructor_long (signature_in m) m.model
        (constructors_fit (signature_in m) m.model ready.ready.well_formed) c (length values)
        given.constructor given.at values_arity)

    pub constructor_is : (number : ℕ) →
        IsPlaced (replicate (length values) (length m.model.sizes))
        (members_collapsed (typed_in m) values) number →
        slice_index (get_or m.model.constructors c []) number
        ≡ constructor_entry (tables_in m) c (members_collapsed (typed_in m) values)
    constructor_is number placed =
        ap (slice_index (get_or m.model.constructors c []))
        (placed.place_is
        ∙ ap (λ n. place (replicate n (length m.model.sizes)) (members_collapsed (typed_in m) values))
        (sym (length-map _ _)))

    -- the table as code reads it
    pub constructor_table : (all : List (List ℕ)) (table found : List ℕ) →
        all ≡ m.model.constructors → found ≡ get_or all c found → table ≡ found →
        table ≡ get_or m.model.constructors c []
    constructor_table all table found same is read =
        read ∙ is
        ∙ ap (λ xs. get_or xs c found) same
        ∙ get_or_default m.model.constructors c found [] constructor_within
