-- What a symbol of the merged structure gives, from the table of the typed one.
use Rattle.std.specs.Prelude.{ℕ, ◌≡◌, ◌<◌, ◌≤◌, ◌+◌, ◌-◌, Bool, List, [], map, length, replicate, take, drop, get_or, option_map, slice_index, Option, Some, None}
use Rattle.std.proofs.Common.{refl, sym, ap, subst, ◌∙◌, arith}
use Rattle.std.proofs.lemmas.List.{length-replicate, length-map, length-take-le, get_or_default, get_or-drop, get_or-take}
use Rattle.std.proofs.lemmas.Simd.{map-map}
use Rattle.std.proofs.lemmas.Option.{slice_get-map, slice_get_within, get_or_from_slice_get}
use Rattle.enc_base.specs.Tables.{EachBelow, tuple_count, place}
use Rattle.tf_core.specs.declared.ty.Ty.{Ty}
use Rattle.tf_core.specs.declared.signature.Symbol.{Symbol}
use Rattle.tf_core.specs.Structures.{AreArguments}
use Rattle.tf_naked.specs.Covers.{parameter_of, argument_parameters}
use Rattle.tf_core.specs.TypedTables.{constructor_entry, symbol_entry}
use Rattle.tf_models.specs.Fit.{bounds_at, parameters_at, block_count}
use Rattle.enc_base.specs.Tuples.{tuple_at, IsPlaced}
use Rattle.tf_models.specs.Evaluation as evaluation
use Rattle.tf_models.specs.Evaluation.{IsBlock}
use Rattle.enc_base.proofs.Placing.{EachBelow-same_length, placed_within}
use Rattle.enc_base.proofs.NumberedTuples.{tuple_at-place}
use Rattle.tf_models.proofs.SymbolBlocks.{parameters_below}
use Rattle.tf_models.proofs.TypeMembers as type_members
use Rattle.tf_models.proofs.TypeMembers.{constructor_long, member_below}
use Rattle.tf_models.proofs.Entries.{constructors_fit, symbol_block, block_count-fits}
use Rattle.tf_stamp.specs.Merged.{merged_size, stamp}
use Rattle.enc_laws.specs.MergedStructure.{elements_read, kept_count, members_read, value_at, merged_value, merged_at}
use Rattle.enc_laws.proofs.MergedFormed.{EachBelow-back}
use Rattle.enc_laws.proofs.CoversRead.{AreCovered}
use Rattle.enc_laws.proofs.Selected.{result_formed}
use Rattle.enc_models.specs.declared.blocks.Block.{Block}
use Rattle.enc_models.specs.Calls.Blocks.{IsKept}
use Rattle.enc_models.specs.Calls.Sources.{sources, numbers_at}
use Rattle.enc_models.specs.Calls.Merging.{Parts, signature_in, tables_in, typed_in, merged_in, members_in, IsMerging, AreNumbers, StandsForSymbol, IsSymbolFor, IsConstructorFor}
use Rattle.enc_models.proofs.BlockEntries.{block_fits, entry_within, entry_is}
use Rattle.enc_models.proofs.Numbers.{members_below, numbers_at-below}
use Rattle.enc_models.proofs.ParameterSources.{all_covered, length-sources_from, sources_from-read, sources_from-below}

-- a marked symbol as code reads it, and the numbers for its arguments and for its type arguments
-- that are kept
pub record IsGiven (m : Parts) (at f : ℕ) (symbol : Symbol) (values : List ℕ) : Type 0 where
  pub marked : StandsForSymbol m at f symbol
  pub below : AreNumbers m (kept_count m.choices symbol + length symbol.arguments) values

pub symbol_read : (m : Parts) (at f : ℕ) (values : List ℕ) → IsSymbolFor m at f values →
    (symbols : List Symbol) (symbol : Symbol) → symbols ≡ (signature_in m).symbols →
    symbol ≡ get_or symbols f symbol → IsGiven m at f symbol values
symbol_read m at f values given symbols symbol same is =
    let read : given.symbol ≡ symbol =
    sym (is ∙ ap (λ xs. get_or xs f symbol) same
    ∙ get_or_from_slice_get (signature_in m).symbols f given.symbol symbol
    given.marked.symbol_at) in
    subst (λ x. IsGiven m at f x values) read
    (record { marked = given.marked; below = given.below })

module _ (m : Parts) (ready : IsMerging m) (at f : ℕ) (symbol : Symbol) (values : List ℕ)
    (given : IsGiven m at f symbol values)
  where
    abbrev sizes : List ℕ
    sizes = m.model.sizes

    abbrev keeps : List Bool
    keeps = m.choices.keeps symbol

    abbrev count : ℕ
    count = kept_count m.choices symbol

    abbrev kept : List ℕ
    kept = take count values

    abbrev own : List ℕ
    own = drop count values

    -- the numbers that tell the members for the parameters
    abbrev told : List ℕ
    told = numbers_at values (sources (m.choices.keeps symbol) symbol)

    values_count : length values ≡ count + length symbol.arguments
    values_count =
        sym (EachBelow-same_length (replicate (count + length symbol.arguments) (merged_size sizes))
        values given.below)
        ∙ length-replicate (count + length symbol.arguments) (merged_size sizes)

    -- the arguments stand behind the type arguments that are kept
    module _ (arguments : List Ty) (are : arguments ≡ symbol.arguments) where
      pub arguments_within : length arguments ≤ length values
      arguments_within = omega (arith, values_count, ap (λ (types : List Ty). length types) are)

      pub own_behind : drop (length values - length arguments) values
          ≡ drop (kept_count m.choices symbol) values
      own_behind =
          let e : length values - length arguments ≡ count =
          omega (arith, values_count, ap (λ (types : List Ty). length types) are) in
          ap (λ n. drop n values) e

    own_below : AreNumbers m (length symbol.arguments) own
    own_below =
        EachBelow-back (merged_size sizes) count (length symbol.arguments) values given.below

    kept_long : length kept ≡ count
    kept_long = length-take-le count values (omega (arith, values_count))

    own_long : length own ≡ length symbol.arguments
    own_long =
        sym (EachBelow-same_length (replicate (length symbol.arguments) (merged_size sizes)) own
        own_below)
        ∙ length-replicate (length symbol.arguments) (merged_size sizes)

    pub all_numbers : AreNumbers m (length values) values
    all_numbers = subst (λ n. AreNumbers m n values) (sym values_count) given.below

    -- the sources of the symbol

    covered : AreCovered (argument_parameters symbol) keeps 0
    covered = all_covered m.choices ready.kept symbol

    places_long : length (argument_parameters symbol) ≤ length own
    places_long = omega (arith, own_long, length-map symbol.arguments parameter_of)

    behind : (k : ℕ) → get_or values (count + k) 0 ≡ get_or own k 0
    behind k = sym (get_or-drop count values k 0)

    ahead : (i : ℕ) → i < length kept → get_or values (0 + i) 0 ≡ get_or kept i 0
    ahead i within =
        let e : 0 + i ≡ i = omega arith in
        ap (λ n. get_or values n 0) e
        ∙ sym (get_or-take count values i 0 (omega (arith, within, kept_long)))

    sources_long : length (sources keeps symbol) ≡ symbol.parameters
    sources_long =
        length-sources_from 0 0 count (argument_parameters symbol) keeps ∙ ready.each_kept symbol

    pub sources_below :
        EachBelow (replicate (length (sources (m.choices.keeps symbol) symbol)) (length values))
        (sources (m.choices.keeps symbol) symbol)
    sources_below =
        subst (λ n. EachBelow (replicate n (length values)) (sources keeps symbol))
        (sym (length-sources_from 0 0 count (argument_parameters symbol) keeps))
        (sources_from-below sizes own values count (argument_parameters symbol) places_long behind
        (length values) 0 0 keeps covered (omega arith) (omega (arith, values_count, own_long)))

    told_below : AreNumbers m symbol.parameters told
    told_below =
        subst (λ n. AreNumbers m n told) sources_long
        (numbers_at-below (merged_size sizes) values (sources keeps symbol) all_numbers
        sources_below)

    told_read : members_in m told
        ≡ members_read sizes keeps 0 (argument_parameters symbol) kept own
    told_read =
        sources_from-read sizes own values count (argument_parameters symbol) places_long behind
        0 0 keeps kept covered (sym kept_long) ahead

    pub sources_within : f < length m.sources
    sources_within =
        omega (
          arith,
          slice_get_within (signature_in m).symbols f symbol given.marked.symbol_at,
          ap (λ (all : List (List ℕ)). length all) ready.sources_are,
          length-map (signature_in m).symbols (λ one. sources (m.choices.keeps one) one),
        )

    -- the sources as code reads them
    pub sources_read : (found other : List ℕ) → found ≡ get_or m.sources f other →
        found ≡ sources (m.choices.keeps symbol) symbol
    sources_read found other is =
        is
        ∙ ap (λ (all : List (List ℕ)). get_or all f other) ready.sources_are
        ∙ get_or_from_slice_get
        (map (λ one. sources (m.choices.keeps one) one) (signature_in m).symbols) f
        (sources keeps symbol) other
        (slice_get-map (λ one. sources (m.choices.keeps one) one) (signature_in m).symbols f
        ∙ ap (option_map (λ one. sources (m.choices.keeps one) one)) given.marked.symbol_at)

    pub table_within : f < length m.model.symbols
    table_within =
        omega (
          arith,
          slice_get_within (signature_in m).symbols f symbol given.marked.symbol_at,
          ready.ready.well_formed.tables.symbol_count,
        )

    pub parameters_fit :
        tuple_count (replicate (length (sources (m.choices.keeps symbol) symbol)) (length sizes))
        ≤ length (get_or m.model.symbols f [])
    parameters_fit =
        subst
        (λ n. tuple_count (replicate n (length sizes)) ≤ length (get_or m.model.symbols f []))
        (sym sources_long)
        (block_count-fits (signature_in m) m.model ready.ready f symbol
        given.marked.symbol_at)

    module _ (number : ℕ)
        (placed : IsPlaced
        (replicate (length (sources (m.choices.keeps symbol) symbol)) (length sizes))
        (members_in m told) number)
      where
        pub number_within : number < block_count (tables_in m) symbol
        number_within =
            subst (λ n. number < tuple_count (replicate n (length sizes))) sources_long
            (placed_within (replicate (length (sources keeps symbol)) (length sizes))
            (members_in m told) number placed)

        given_block : IsBlock (signature_in m) m.model symbol number
        given_block =
            symbol_block (signature_in m) m.model ready.ready f symbol
            given.marked.symbol_at number number_within

        members_are : parameters_at (tables_in m) symbol number ≡ members_in m told
        members_are =
            let number_is : number
            ≡ place (replicate symbol.parameters (length sizes)) (members_in m told) =
            placed.place_is
            ∙ ap (λ n. place (replicate n (length sizes)) (members_in m told)) sources_long in
            ap (tuple_at (length sizes) symbol.parameters) number_is
            ∙ tuple_at-place (length sizes) ready.ready.well_formed.structure.some
            symbol.parameters (members_in m told)
            (members_below sizes symbol.parameters told told_below)

        abbrev members : List ℕ
        members = parameters_at (tables_in m) symbol number

        abbrev types_are : List ℕ
        types_are = map (evaluation.member_in m.model members) symbol.arguments

        -- the block that is kept
        module _ (block : Block) (is : IsKept m.model symbol number block) where
          as_many : length block.arguments ≡ length symbol.arguments
          as_many = ap length is.arguments_are ∙ length-map _ _

          pub arguments_below :
              EachBelow (replicate (length block.arguments) (length sizes)) block.arguments
          arguments_below =
              subst (λ ms. EachBelow (replicate (length ms) (length sizes)) ms)
              (sym is.arguments_are)
              (subst (λ n. EachBelow (replicate n (length sizes)) types_are)
              (sym (length-map _ _))
              (type_members.members_below (signature_in m) m.model given_block.constructors
              symbol.parameters members symbol.arguments given_block.typed.arguments
              (parameters_below (signature_in m) m.model symbol number given_block)))

          pub own_numbers : AreNumbers m (length block.arguments) own
          own_numbers = subst (λ n. AreNumbers m n own) (sym as_many) own_below

          bounds_are : map (slice_index sizes) block.arguments ≡ bounds_at (tables_in m) symbol number
          bounds_are =
              ap (map (slice_index sizes)) is.arguments_are
              ∙ map-map (slice_index sizes) (evaluation.member_in m.model members) symbol.arguments

          pub arguments_fit : tuple_count (map (slice_index sizes) block.arguments)
              ≤ length (get_or m.model.symbols f [])
          arguments_fit =
              omega (
                arith,
                ap tuple_count bounds_are,
                block_fits (signature_in m) m.model ready.ready f symbol given.marked.symbol_at
                    number given_block,
              )

          abbrev elements : List ℕ
          elements = elements_read sizes types_are own

          module _ (at_place : ℕ)
              (stands : IsPlaced (map (slice_index sizes) block.arguments)
              (elements_read sizes block.arguments own) at_place)
            where
              stands_in_block : IsPlaced (bounds_at (tables_in m) symbol number) elements at_place
              stands_in_block =
                  subst (λ bounds. IsPlaced bounds elements at_place) bounds_are
                  (subst
                  (λ ms. IsPlaced (map (slice_index sizes) block.arguments)
                  (elements_read sizes ms own) at_place) is.arguments_are stands)

              pub entry_inside : block.start + at_place < length (get_or m.model.symbols f [])
              entry_inside =
                  omega (
                    arith,
                    is.start_is,
                    entry_within (signature_in m) m.model ready.ready f symbol
                        given.marked.symbol_at number given_block elements at_place
                        stands_in_block,
                  )

              are_arguments : AreArguments (typed_in m) symbol members elements
              are_arguments = record {
                for_parameters =
                    parameters_below (signature_in m) m.model symbol number given_block;
                for_arguments = stands_in_block.below;
              }

              module _ (entry : ℕ)
                  (read : entry ≡ slice_index (get_or m.model.symbols f []) (block.start + at_place))
                where
                  entry_at : entry ≡ (typed_in m).symbol_at f members elements
                  entry_at =
                      read
                      ∙ ap (λ n. slice_index (get_or m.model.symbols f []) (n + at_place)) is.start_is
                      ∙ entry_is (signature_in m) m.model ready.ready f symbol
                      given.marked.symbol_at number given_block elements at_place stands_in_block
                      ∙ ap (λ found. symbol_entry (tables_in m) found f members elements)
                      (sym given.marked.symbol_at)

                  merged_is : (merged_in m).symbol_at f values
                      ≡ merged_value (typed_in m) members symbol.result entry
                  merged_is =
                      ap (λ found. merged_at m.choices (signature_in m) (typed_in m) f found values)
                      given.marked.symbol_at
                      ∙ ap (λ ms. merged_value (typed_in m) ms symbol.result
                      (value_at (typed_in m) f symbol ms own)) (sym told_read ∙ sym members_are)
                      ∙ ap (merged_value (typed_in m) members symbol.result) (sym entry_at)

                  pub predicate_is : block.value ≡ None → entry ≡ (merged_in m).symbol_at f values
                  predicate_is none =
                      sym (merged_is
                      ∙ ap (λ result. merged_value (typed_in m) members result entry)
                      (no_value symbol.result (sym is.value_is ∙ none)))
                    where
                      no_value : (result : Option Ty) →
                          option_map (evaluation.member_in m.model members) result ≡ None →
                          result ≡ None
                      no_value None gives = refl
                      no_value (Some ty) gives = cc

                  -- a function's value is an element of its member
                  module _ (member : ℕ) (some : block.value ≡ Some member) where
                    value_type : (result : Option Ty) →
                        option_map (evaluation.member_in m.model members) result ≡ Some member →
                        (ty : Ty) × (result ≡ Some ty)
                        × (evaluation.member_in m.model members ty ≡ member)
                    value_type None gives = cc
                    value_type (Some ty) gives =
                        let same : evaluation.member_in m.model members ty ≡ member = cc in
                        (ty, refl, same)

                    found : (ty : Ty) × (symbol.result ≡ Some ty)
                        × (evaluation.member_in m.model members ty ≡ member)
                    found = value_type symbol.result (sym is.value_is ∙ some)

                    pub member_within : member < length sizes
                    member_within =
                        subst (λ n. n < length sizes) found.2
                        (member_below (signature_in m) m.model given_block.constructors
                        symbol.parameters members found.0
                        (result_formed (signature_in m) f symbol found.0 ready.ready.typed
                        given.marked.symbol_at found.1)
                        (parameters_below (signature_in m) m.model symbol number given_block))

                    pub entry_below : entry < slice_index sizes member
                    entry_below =
                        subst (λ n. entry < slice_index sizes n) found.2
                        (subst
                        (λ n. n < slice_index sizes (evaluation.member_in m.model members found.0))
                        (sym entry_at)
                        (ready.ready.well_formed.structure.functions f symbol found.0 members
                        elements given.marked.symbol_at found.1 are_arguments))

                    pub function_is : stamp sizes member entry ≡ (merged_in m).symbol_at f values
                    function_is =
                        sym (merged_is
                        ∙ ap (λ result. merged_value (typed_in m) members result entry) found.1
                        ∙ ap (λ n. stamp sizes n entry) found.2)

-- constructors

module _ (m : Parts) (ready : IsMerging m) (c : ℕ) (values : List ℕ)
    (given : IsConstructorFor m c values)
  where
    values_arity : length values ≡ given.constructor.arity
    values_arity =
        sym (EachBelow-same_length
        (replicate given.constructor.arity (merged_size m.model.sizes)) values given.below)
        ∙ length-replicate given.constructor.arity (merged_size m.model.sizes)

    pub constructor_numbers : AreNumbers m (length values) values
    constructor_numbers = subst (λ n. AreNumbers m n values) (sym values_arity) given.below

    pub constructor_within : c < length m.model.constructors
    constructor_within =
        omega (
          arith,
          slice_get_within (signature_in m).constructors c given.constructor given.at,
          ready.ready.well_formed.tables.constructor_count,
        )

    pub constructor_fits : tuple_count (replicate (length values) (length m.model.sizes))
        ≡ length (get_or m.model.constructors c [])
    constructor_fits =
        sym (constructor_long (signature_in m) m.model
        (constructors_fit (signature_in m) m.model ready.ready.well_formed) c (length values)
        given.constructor given.at values_arity)

    pub constructor_is : (number : ℕ) →
        IsPlaced (replicate (length values) (length m.model.sizes)) (members_in m values)
        number →
        slice_index (get_or m.model.constructors c []) number
        ≡ constructor_entry (tables_in m) c (members_in m values)
    constructor_is number placed =
        ap (slice_index (get_or m.model.constructors c []))
        (placed.place_is
        ∙ ap (λ n. place (replicate n (length m.model.sizes)) (members_in m values))
        (sym (length-map _ _)))

    -- the table as code reads it
    pub constructor_table : (all : List (List ℕ)) (table found : List ℕ) →
        all ≡ m.model.constructors → found ≡ get_or all c found → table ≡ found →
        table ≡ get_or m.model.constructors c []
    constructor_table all table found same is read =
        read ∙ is
        ∙ ap (λ xs. get_or xs c found) same
        ∙ get_or_default m.model.constructors c found [] constructor_within
