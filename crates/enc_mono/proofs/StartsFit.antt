-- The blocks of a symbol fit its table.
use Rattle.std.specs.Prelude.{ℕ, ◌≡◌, ◌<◌, ◌≤◌, ◌+◌, List, [], length, get_or, slice_get, Some}
use Rattle.std.proofs.Common.{ap, arith, subst}
use Rattle.std.proofs.lemmas.Option.{get_or_from_slice_get}
use Rattle.enc_base.specs.Tables.{sum_below}
use Rattle.enc_base.proofs.Tables.{sum_below-part}
use Rattle.tf_core.specs.declared.signature.Symbol.{Symbol}
use Rattle.tf_core.specs.declared.signature.Signature.{Signature}
use Rattle.tf_models.specs.declared.structure.TypedStructure.{TypedStructure}
use Rattle.tf_models.specs.Reading.{tables}
use Rattle.tf_models.specs.Fit.{block_count, length_at}
use Rattle.tf_models.specs.Evaluation.{IsReady, IsBlock}
use Rattle.tf_models.proofs.Entries.{symbol_block, block_count-fits, table_total}

module _ (g : Signature) (s : TypedStructure) (ready : IsReady g s) (f : ℕ) (symbol : Symbol)
    (table : List ℕ) (at : slice_get g.symbols f ≡ Some symbol)
    (table_at : slice_get s.symbols f ≡ Some table)
  where
    table_is : get_or s.symbols f [] ≡ table
    table_is = get_or_from_slice_get s.symbols f table [] table_at

    pub blocks_fit : block_count (tables s) symbol ≤ length table
    blocks_fit =
        subst (λ t. block_count (tables s) symbol ≤ length t) table_is
        (block_count-fits g s ready f symbol at)

    module _ (number : ℕ) (within : number < block_count (tables s) symbol) where
      pub block_at : IsBlock g s symbol number
      block_at = symbol_block g s ready f symbol at number within

      pub start_fits : sum_below number (length_at (tables s) symbol)
          + length_at (tables s) symbol number ≤ length table
      start_fits =
          let part = sum_below-part number (block_count (tables s) symbol)
          (length_at (tables s) symbol) within in
          let whole = table_total g s f symbol ready.well_formed at in
          let same = ap length table_is in
          omega (arith, part, whole, same)

      pub next_fits : (start : ℕ) → start ≡ sum_below number (length_at (tables s) symbol) →
          start + length_at (tables s) symbol number ≤ length table
      next_fits start is = omega (arith, start_fits, is)
