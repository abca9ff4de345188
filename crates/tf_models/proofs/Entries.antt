-- The entry of a symbol's table for the values of types and terms.
use Rattle.std.specs.Prelude.{ℕ, ◌≡◌, ◌<◌, ◌≤◌, ◌+◌, List, [], map, length, replicate, reverse, get_or, slice_get, slice_index, Some}
use Rattle.std.proofs.Common.{sym, ap, subst, ◌∙◌, arith}
use Rattle.std.proofs.lemmas.Option.{slice_get_within, get_or_from_slice_get}
use Rattle.enc_base.specs.Tables.{EachBelow, sum_below, tuple_count, place, begins}
use Rattle.enc_base.specs.Tuples.{tuple_at, IsPlaced}
use Rattle.enc_base.proofs.Placing.{placed_within}
use Rattle.enc_base.proofs.NumberedTuples.{length-tuple_at, place-tuple_at, tuple_at_below, tuple_at-place, total-numbered, begins-numbered}
use Rattle.enc_base.proofs.Tables.{sum_below-grows, sum_below-part}
use Rattle.tf_core.specs.declared.ty.Ty.{Ty}
use Rattle.tf_core.specs.declared.term.Term.{Term}
use Rattle.tf_core.specs.declared.signature.Symbol.{Symbol}
use Rattle.tf_core.specs.declared.signature.Constructor.{Constructor}
use Rattle.tf_core.specs.declared.signature.Signature.{Signature}
use Rattle.tf_core.specs.Types.{instantiate}
use Rattle.tf_core.specs.Typing.{IsSymbol}
use Rattle.tf_core.specs.TypedTables.{symbol_entry, reading, block_bounds, block_length, IsWellFormed}
use Rattle.tf_models.specs.declared.structure.TypedStructure.{TypedStructure}
use Rattle.tf_models.specs.Assignment.{Assignment}
use Rattle.tf_models.specs.Reading.{tables}
use Rattle.tf_models.specs.Fit.{bounds_at, ConstructorsFit, parameters_at, length_at, block_count}
use Rattle.tf_models.specs.Evaluation.{member_in, size_in, value_in, entry_in, IsReady, IsBlock, IsElement, AreTerms, IsApplication, IsApplied}
use Rattle.tf_models.proofs.SymbolBlocks.{block_positive, blocks_fit}
use Rattle.tf_models.proofs.Values.{symbol_typed, sizes-instantiate, value_below, values_below}

-- the constructors' tables of a well-formed structure
pub constructors_fit : (g : Signature) (s : TypedStructure) → IsWellFormed g (tables s) →
    ConstructorsFit g (tables s)
constructors_fit g s well_formed = record {
  inhabited = record { some = well_formed.structure.some; each = well_formed.structure.inhabited };
  count = well_formed.tables.constructor_count;
  tables = λ c constructor at. record {
    count = well_formed.tables.constructors c constructor at;
    below = entry_below c constructor at;
  };
}
  where
    entry_below : (c : ℕ) (constructor : Constructor) → slice_get g.constructors c
        ≡ Some constructor → (i : ℕ) →
        i < length (get_or s.constructors c []) → slice_index (get_or s.constructors c []) i
        < length s.sizes
    entry_below c constructor at i within =
        let some = well_formed.structure.some in
        let inside : i < tuple_count (replicate constructor.arity (length s.sizes)) =
        omega (arith, well_formed.tables.constructors c constructor at) in
        let members : List ℕ = tuple_at (length s.sizes) constructor.arity i in
        let here : place (replicate (length members) (length s.sizes)) members ≡ i =
        ap (λ n. place (replicate n (length s.sizes)) members)
        (length-tuple_at (length s.sizes) some constructor.arity i)
        ∙ place-tuple_at (length s.sizes) some constructor.arity i inside in
        subst (λ n. slice_index (get_or s.constructors c []) n < length s.sizes) here
        (well_formed.structure.constructors c constructor members at
        (tuple_at_below (length s.sizes) some constructor.arity i inside))

-- a symbol's table is its blocks, one after another
pub table_total : (g : Signature) (s : TypedStructure) (f : ℕ) (symbol : Symbol) →
    IsWellFormed g (tables s) →
    slice_get g.symbols f ≡ Some symbol →
    length (get_or s.symbols f []) ≡ sum_below (block_count (tables s) symbol)
    (length_at (tables s) symbol)
table_total g s f symbol well_formed at =
    well_formed.tables.symbols f symbol at
    ∙ total-numbered (length s.sizes) well_formed.structure.some symbol.parameters
    (block_length (tables s) symbol)

-- the symbol of an application, as code reads it
pub application_read : (g : Signature) (s : TypedStructure) (env : Assignment) (f : ℕ)
    (types : List Ty) (terms : List Term) (symbols : List Symbol) (symbol : Symbol) →
    IsApplied g s env f types terms →
    symbols ≡ g.symbols → symbol ≡ get_or symbols f symbol → IsApplication g s env f symbol types
    terms
application_read g s env f types terms symbols symbol applied same is =
    let read : applied.0 ≡ symbol =
    sym (is ∙ ap (λ xs. get_or xs f symbol) same
    ∙ get_or_from_slice_get g.symbols f applied.0 symbol applied.1.at) in
    subst (λ x. IsApplication g s env f x types terms) read applied.1

module _ (g : Signature) (s : TypedStructure) (ready : IsReady g s) where
  pub symbol_block : (f : ℕ) (symbol : Symbol) → slice_get g.symbols f ≡ Some symbol →
      (number : ℕ) →
      number < block_count (tables s) symbol → IsBlock g s symbol number
  symbol_block f symbol at number within = record {
    constructors = constructors_fit g s ready.well_formed;
    few = ready.few;
    typed = symbol_typed g g.symbols f symbol at ready.typed;
    within = within;
  }

  pub block_count-fits : (f : ℕ) (symbol : Symbol) → slice_get g.symbols f ≡ Some symbol →
      block_count (tables s) symbol ≤ length (get_or s.symbols f [])
  block_count-fits f symbol at =
      omega (
        arith,
        table_total g s f symbol ready.well_formed at,
        blocks_fit (block_count (tables s) symbol) (length_at (tables s) symbol)
            (λ n within. block_positive g s symbol n (symbol_block f symbol at n within)),
      )

  -- the value of a term is an element of its type's member
  pub element_is : (env : Assignment) (t : Term) (held : ℕ) → held ≡ value_in g s env t →
      IsElement g s env t held
  element_is env t held is context ty assigned typed =
      subst (λ n. n < size_in s env.members ty) (sym is)
      (value_below g (reading g (tables s)) ready.typed ready.well_formed.structure
      (length env.members) env.members assigned.members context (reverse env.elements)
      assigned.elements t ty typed)

  module _ (env : Assignment) (f : ℕ) (symbol : Symbol) (types : List Ty) (terms : List Term)
      (a : IsApplication g s env f symbol types terms)
    where
      pub signature_within : f < length g.symbols
      signature_within = slice_get_within g.symbols f symbol a.at

      pub tables_within : f < length s.symbols
      tables_within = omega (arith, signature_within, ready.well_formed.tables.symbol_count)

      pub parameters_fit : tuple_count (replicate (length types) (length s.sizes))
          ≤ length (get_or s.symbols f [])
      parameters_fit =
          subst (λ n. tuple_count (replicate n (length s.sizes)) ≤ length (get_or s.symbols f []))
          (sym a.count) (block_count-fits f symbol a.at)

      pub applied_terms : AreTerms g s env terms
      applied_terms = record {
        context = a.context;
        types = map (instantiate types) symbol.arguments;
        typed = a.arguments;
        assigned = a.assigned;
      }

      module _ (number : ℕ)
          (placed : IsPlaced (replicate (length types) (length s.sizes))
          (map (member_in s env.members) types) number)
        where
          number_within : number < block_count (tables s) symbol
          number_within =
              subst (λ n. number < tuple_count (replicate n (length s.sizes))) a.count
              (placed_within (replicate (length types) (length s.sizes))
              (map (member_in s env.members) types) number placed)

          pub applied_block : IsBlock g s symbol number
          applied_block = symbol_block f symbol a.at number number_within

          applied_below : EachBelow (replicate symbol.parameters (length s.sizes))
              (map (member_in s env.members) types)
          applied_below =
              subst (λ n. EachBelow (replicate n (length s.sizes))
              (map (member_in s env.members) types)) a.count placed.below

          applied_number : place (replicate symbol.parameters (length s.sizes))
              (map (member_in s env.members) types) ≡ number
          applied_number =
              ap (λ n. place (replicate n (length s.sizes)) (map (member_in s env.members) types))
              (sym a.count)
              ∙ sym placed.place_is

          pub applied_parameters : parameters_at (tables s) symbol number
              ≡ map (member_in s env.members) types
          applied_parameters =
              ap (tuple_at (length s.sizes) symbol.parameters) (sym applied_number)
              ∙ tuple_at-place (length s.sizes) ready.well_formed.structure.some symbol.parameters
              (map (member_in s env.members) types) applied_below

          pub start_fits : sum_below number (length_at (tables s) symbol)
              ≤ length (get_or s.symbols f [])
          start_fits =
              omega (
                arith,
                table_total g s f symbol ready.well_formed a.at,
                sum_below-grows number (block_count (tables s) symbol) (length_at (tables s) symbol)
                    (omega (arith, number_within)),
              )

          pub block_fits : sum_below number (length_at (tables s) symbol) + length_at (tables s)
              symbol number ≤ length (get_or s.symbols f [])
          block_fits =
              omega (
                arith,
                table_total g s f symbol ready.well_formed a.at,
                sum_below-part number (block_count (tables s) symbol) (length_at (tables s) symbol)
                    number_within,
              )

          -- the values of the terms are elements of the members of the block's argument types
          pub applied_values : EachBelow (bounds_at (tables s) symbol number)
              (map (value_in g s env) terms)
          applied_values =
              let fits : IsSymbol g symbol = symbol_typed g g.symbols f symbol a.at ready.typed in
              subst (λ members. EachBelow (block_bounds (tables s) symbol members)
              (map (value_in g s env) terms)) (sym applied_parameters)
              (subst (λ sizes. EachBelow sizes (map (value_in g s env) terms))
              (sizes-instantiate g (reading g (tables s)) ready.typed ready.well_formed.structure
              (length env.members) env.members a.assigned.members symbol types a.count fits
              symbol.arguments fits.arguments) (values_below g (reading g (tables s)) ready.typed
              ready.well_formed.structure (length env.members) env.members a.assigned.members
              a.context (reverse env.elements) a.assigned.elements terms
              (map (instantiate types) symbol.arguments) a.arguments))

          module _ (at : ℕ)
              (inner : IsPlaced (bounds_at (tables s) symbol number)
              (map (value_in g s env) terms) at)
            where
              pub entry_within : sum_below number (length_at (tables s) symbol) + at
                  < length (get_or s.symbols f [])
              entry_within =
                  omega (
                    arith,
                    block_fits,
                    placed_within (bounds_at (tables s) symbol number)
                        (map (value_in g s env) terms) at inner,
                  )

              pub entry_is : (table : List ℕ) → table ≡ get_or s.symbols f [] →
                  slice_index table (sum_below number (length_at (tables s) symbol) + at)
                  ≡ entry_in g s env f types terms
              entry_is table same =
                  let members : List ℕ = map (member_in s env.members) types in
                  let start : sum_below number (length_at (tables s) symbol)
                  ≡ begins (replicate symbol.parameters (length s.sizes))
                  (block_length (tables s) symbol) members =
                  ap (λ n. sum_below n (length_at (tables s) symbol)) (sym applied_number)
                  ∙ sym (begins-numbered (length s.sizes) ready.well_formed.structure.some
                  symbol.parameters (block_length (tables s) symbol) members applied_below) in
                  let inside : at ≡ place (block_bounds (tables s) symbol members)
                  (map (value_in g s env) terms) =
                  inner.place_is
                  ∙ ap (λ ms. place (block_bounds (tables s) symbol ms)
                  (map (value_in g s env) terms)) applied_parameters in
                  ap (λ entries. slice_index entries
                  (sum_below number (length_at (tables s) symbol) + at)) same
                  ∙ ap (λ n. slice_index (get_or s.symbols f []) (n + at)) start
                  ∙ ap (λ n. slice_index (get_or s.symbols f [])
                  (begins (replicate symbol.parameters (length s.sizes))
                  (block_length (tables s) symbol) members + n)) inside
                  ∙ ap (λ found. symbol_entry (tables s) found f members
                  (map (value_in g s env) terms)) (sym a.at)
