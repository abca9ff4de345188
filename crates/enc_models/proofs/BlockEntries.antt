-- The entries of a block of a symbol's table, by the number of the block.
use Rattle.std.specs.Prelude.{ℕ, ◌≡◌, ◌<◌, ◌≤◌, ◌+◌, List, [], length, replicate, get_or, slice_get, slice_index, Some}
use Rattle.std.proofs.Common.{sym, ap, ◌∙◌, arith}
use Rattle.enc_base.specs.Tables.{sum_below, begins}
use Rattle.tf_core.specs.declared.signature.Symbol.{Symbol}
use Rattle.tf_core.specs.declared.signature.Signature.{Signature}
use Rattle.tf_core.specs.TypedTables.{symbol_entry, block_length}
use Rattle.tf_models.specs.declared.structure.TypedStructure.{TypedStructure}
use Rattle.tf_models.specs.Reading.{tables}
use Rattle.tf_models.specs.Fit.{bounds_at, parameters_at, length_at, block_count}
use Rattle.enc_base.specs.Tuples.{IsPlaced}
use Rattle.tf_models.specs.Evaluation.{IsReady, IsBlock}
use Rattle.enc_base.proofs.Placing.{placed_within}
use Rattle.enc_base.proofs.NumberedTuples.{place-tuple_at, begins-numbered}
use Rattle.enc_base.proofs.Tables.{sum_below-part}
use Rattle.tf_models.proofs.SymbolBlocks.{parameters_below}
use Rattle.tf_models.proofs.Entries.{table_total}

module _ (g : Signature) (model : TypedStructure) (ready : IsReady g model) (f : ℕ)
    (symbol : Symbol) (found : slice_get g.symbols f ≡ Some symbol) (number : ℕ)
    (block : IsBlock g model symbol number)
  where
    abbrev start : ℕ
    start = sum_below number (length_at (tables model) symbol)

    pub block_fits : start + length_at (tables model) symbol number
        ≤ length (get_or model.symbols f [])
    block_fits =
        omega (
          arith,
          table_total g model f symbol ready.well_formed found,
          sum_below-part number (block_count (tables model) symbol)
              (length_at (tables model) symbol) block.within,
        )

    -- where the block begins
    start_is : start
        ≡ begins (replicate symbol.parameters (length model.sizes))
        (block_length (tables model) symbol) (parameters_at (tables model) symbol number)
    start_is =
        let some = ready.well_formed.structure.some in
        ap (λ n. sum_below n (length_at (tables model) symbol))
        (sym (place-tuple_at (length model.sizes) some symbol.parameters number block.within))
        ∙ sym (begins-numbered (length model.sizes) some symbol.parameters
        (block_length (tables model) symbol) (parameters_at (tables model) symbol number)
        (parameters_below g model symbol number block))

    module _ (elements : List ℕ) (at : ℕ)
        (placed : IsPlaced (bounds_at (tables model) symbol number) elements at)
      where
        pub entry_within : start + at < length (get_or model.symbols f [])
        entry_within =
            omega (
              arith,
              block_fits,
              placed_within (bounds_at (tables model) symbol number) elements at placed,
            )

        pub entry_is : slice_index (get_or model.symbols f []) (start + at)
            ≡ symbol_entry (tables model) (Some symbol) f
            (parameters_at (tables model) symbol number) elements
        entry_is =
            ap (λ n. slice_index (get_or model.symbols f []) (n + at)) start_is
            ∙ ap (λ n. slice_index (get_or model.symbols f [])
            (begins (replicate symbol.parameters (length model.sizes))
            (block_length (tables model) symbol) (parameters_at (tables model) symbol number) + n))
            placed.place_is
