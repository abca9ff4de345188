-- The block of a symbol instance, found by the number of its tuple of members.
use Rattle.std.specs.Prelude.{ℕ, ◌≡◌, ◌<◌, ◌≤◌, ◌+◌, List, [], length, take, drop, replicate, get_or, slice_get, Some}
use Rattle.std.proofs.Common.{sym, ap, ◌∙◌, subst, arith}
use Rattle.std.proofs.lemmas.List.{length-take-le, length-drop}
use Rattle.std.proofs.lemmas.Option.{get_or_from_slice_get, slice_get_within, same_Some}
use Rattle.enc_base.specs.Tables.{EachBelow, tuple_count, place, sum_below}
use Rattle.enc_base.specs.Tuples.{tuple_at}
use Rattle.enc_base.proofs.Tables.{sum_below-part, place_within}
use Rattle.enc_base.proofs.NumberedTuples.{tuple_at-place, begins-numbered}
use Rattle.tf_core.specs.declared.signature.Symbol.{Symbol}
use Rattle.tf_core.specs.declared.signature.Signature.{Signature}
use Rattle.tf_core.specs.TypedTables.{block_length}
use Rattle.tf_models.specs.declared.structure.TypedStructure.{TypedStructure}
use Rattle.tf_models.specs.Reading.{tables}
use Rattle.tf_models.specs.Fit.{block_count, parameters_at, length_at}
use Rattle.tf_models.specs.Evaluation.{IsReady, IsBlock}
use Rattle.tf_models.proofs.Entries.{table_total, symbol_block, block_count-fits}
use Rattle.enc_mono.specs.declared.instances.Origin.{Origin}
use Rattle.enc_mono.specs.Origins.{IsOriginOf}
use Rattle.enc_mono.specs.Restricted.{origin_members, block_of, origin_block}
use Rattle.enc_mono.specs.Blocks.{IsNumberOf}

-- the symbol of an instance, as code reads it
pub symbol_read : (g : Signature) (origin : Origin) (of : IsOriginOf g 0 origin)
    (symbols : List Symbol) (symbol : Symbol) → symbols ≡ g.symbols →
    symbol ≡ get_or symbols origin.symbol symbol → slice_get g.symbols origin.symbol ≡ Some symbol
symbol_read g origin of symbols symbol same is =
    of.at
    ∙ ap Some (sym (is ∙ ap (λ xs. get_or xs origin.symbol symbol) same
    ∙ get_or_from_slice_get g.symbols origin.symbol of.declared symbol of.at))

module _ (g : Signature) (s : TypedStructure) (ready : IsReady g s) (origin : Origin)
    (of : IsOriginOf g 0 origin)
  where
    pub symbol_within : origin.symbol < length g.symbols
    symbol_within = slice_get_within g.symbols origin.symbol of.declared of.at

    pub table_within : origin.symbol < length s.symbols
    table_within = omega (arith, symbol_within, ready.well_formed.tables.symbol_count)

    -- the table has an entry for each tuple of members at least
    pub numbers_fit : tuple_count (replicate (length origin.types) (length s.sizes))
        ≤ length (get_or s.symbols origin.symbol [])
    numbers_fit =
        subst (λ n. tuple_count (replicate n (length s.sizes))
        ≤ length (get_or s.symbols origin.symbol [])) (sym of.count)
        (block_count-fits g s ready origin.symbol of.declared of.at)

    module _ (number : ℕ) (is : IsNumberOf (tables s) origin number) (symbol : Symbol)
        (at : slice_get g.symbols origin.symbol ≡ Some symbol)
      where
        declared_is : of.declared ≡ symbol
        declared_is = same_Some of.declared symbol (sym of.at ∙ at)

        count : length origin.types ≡ symbol.parameters
        count = of.count ∙ ap (λ (f : Symbol). f.parameters) declared_is

        below : EachBelow (replicate symbol.parameters (length s.sizes))
            (origin_members (tables s) origin)
        below =
            subst (λ n. EachBelow (replicate n (length s.sizes)) (origin_members (tables s) origin))
            count is.below

        number_is : number
            ≡ place (replicate symbol.parameters (length s.sizes)) (origin_members
            (tables s) origin)
        number_is =
            is.place_is
            ∙ ap (λ n. place (replicate n (length s.sizes)) (origin_members
            (tables s) origin)) count

        pub number_within : number < block_count (tables s) symbol
        number_within =
            let inside = place_within (replicate symbol.parameters (length s.sizes))
            (origin_members (tables s) origin) below in
            omega (arith, number_is, inside)

        pub is_block : IsBlock g s symbol number
        is_block = symbol_block g s ready origin.symbol symbol at number number_within

        members_are : parameters_at (tables s) symbol number ≡ origin_members (tables s) origin
        members_are =
            ap (tuple_at (length s.sizes) symbol.parameters) number_is
            ∙ tuple_at-place (length s.sizes) ready.well_formed.structure.some symbol.parameters
            (origin_members (tables s) origin) below

        abbrev table : List ℕ
        table = get_or s.symbols origin.symbol []

        abbrev start : ℕ
        start = sum_below number (length_at (tables s) symbol)

        -- the block is the part of this length that begins behind the blocks of earlier tuples
        pub origin_block-is : origin_block g (tables s) origin
            ≡ take (length_at (tables s) symbol number) (drop start table)
        origin_block-is =
            ap (λ d. block_of (tables s) d table (origin_members (tables s) origin)) at
            ∙ ap (λ n. take (block_length (tables s) symbol (origin_members (tables s) origin))
            (drop n table))
            (begins-numbered (length s.sizes) ready.well_formed.structure.some symbol.parameters
            (block_length (tables s) symbol) (origin_members (tables s) origin) below
            ∙ ap (λ n. sum_below n (length_at (tables s) symbol)) (sym number_is))
            ∙ ap (λ members. take (block_length (tables s) symbol members) (drop start table))
            (sym members_are)

        pub block_within : start + length_at (tables s) symbol number ≤ length table
        block_within =
            let part = sum_below-part number (block_count (tables s) symbol)
            (length_at (tables s) symbol) number_within in
            let whole = table_total g s origin.symbol symbol ready.well_formed at in
            omega (arith, part, whole)

        pub length-origin_block : length (origin_block g (tables s) origin)
            ≡ length_at (tables s) symbol number
        length-origin_block =
            ap length origin_block-is
            ∙ length-take-le (length_at (tables s) symbol number) (drop start table)
            (let rest = length-drop start table in omega (arith, rest, block_within))
