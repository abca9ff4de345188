-- A block that code reads of a table, from its start among all starts.
use Rattle.std.specs.Prelude.{ℕ, ◌≡◌, ◌<◌, ◌≤◌, ◌+◌, List, [], length, get_or, slice_get, Some, take, drop}
use Rattle.std.proofs.Common.{ap, sym, ◌∙◌, arith, subst}
use Rattle.enc_base.specs.Tables.{sum_below}
use Rattle.tf_core.specs.declared.signature.Symbol.{Symbol}
use Rattle.tf_core.specs.declared.signature.Signature.{Signature}
use Rattle.tf_models.specs.declared.structure.TypedStructure.{TypedStructure}
use Rattle.tf_models.specs.Reading.{tables}
use Rattle.tf_models.specs.Fit.{length_at}
use Rattle.tf_models.specs.Evaluation.{IsReady}
use Rattle.enc_mono.specs.declared.instances.Origin.{Origin}
use Rattle.enc_mono.specs.Origins.{IsOriginOf}
use Rattle.enc_mono.specs.Restricted.{origin_block}
use Rattle.enc_mono.specs.Blocks.{IsNumberOf, AreStarts, AreAllStarts}
use Rattle.enc_mono.proofs.OriginBlocks.{symbol_read, origin_block-is, block_within, number_within}
use Rattle.enc_mono.proofs.Starts.{starts_read}

module _ (g : Signature) (s : TypedStructure) (ready : IsReady g s) (origin : Origin)
    (of : IsOriginOf g 0 origin) (number : ℕ) (is : IsNumberOf (tables s) origin number)
    (symbols : List Symbol) (symbol : Symbol) (same : symbols ≡ g.symbols)
    (symbol_is : symbol ≡ get_or symbols origin.symbol symbol)
    (starts : List (List ℕ)) (are : AreAllStarts (tables s) g.symbols starts)
    (held slice : List ℕ) (held_is : held ≡ get_or starts origin.symbol held)
    (slice_is : slice ≡ held)
  where
    at : slice_get g.symbols origin.symbol ≡ Some symbol
    at = symbol_read g origin of symbols symbol same symbol_is

    are_starts : AreStarts (tables s) symbol slice
    are_starts =
        subst (AreStarts (tables s) symbol) (sym slice_is)
        (starts_read (tables s) g.symbols starts are origin.symbol symbol at held held_is)

    pub start_within : number < length slice
    start_within =
        let inside = number_within g s ready origin of number is symbol at in
        omega (arith, inside, are_starts.count)

    start_is : get_or slice number 0 ≡ sum_below number (length_at (tables s) symbol)
    start_is = are_starts.at number start_within

    pub part_within : get_or slice number 0 + length_at (tables s) symbol number
        ≤ length (get_or s.symbols origin.symbol [])
    part_within =
        let inside = block_within g s ready origin of number is symbol at in
        omega (arith, inside, start_is)

    pub part_is : (count : ℕ) (table : List ℕ) → count ≡ length_at (tables s) symbol number →
        table ≡ get_or s.symbols origin.symbol [] →
        take count (drop (get_or slice number 0) table) ≡ origin_block g (tables s) origin
    part_is count table count_is table_is =
        ap (λ n. take n (drop (get_or slice number 0) table)) count_is
        ∙ ap (λ n. take (length_at (tables s) symbol number) (drop n table)) start_is
        ∙ ap (λ t. take (length_at (tables s) symbol number)
        (drop (sum_below number (length_at (tables s) symbol)) t)) table_is
        ∙ sym (origin_block-is g s ready origin of number is symbol at)
