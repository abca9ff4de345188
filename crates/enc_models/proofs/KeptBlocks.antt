-- The blocks of symbols' tables, listed one after another.
use Rattle.std.specs.Prelude.{ℕ, zero, suc, ◌≡◌, ◌<◌, ◌≤◌, ◌+◌, List, [], ◌∷◌, ◌++◌, length, get_or, slice_get, Some}
use Rattle.std.proofs.Common.{refl, sym, ap, subst, ◌∙◌, arith, ⊎_elim}
use Rattle.std.proofs.lemmas.Bool.{cases_lt}
use Rattle.std.proofs.lemmas.List.{get_or_push, get_or_append_left, get_or_default}
use Rattle.std.proofs.lemmas.Option.{slice_get_within, slice_get-get_or, get_or_from_slice_get}
use Rattle.enc_base.specs.Tables.{sum_below}
use Rattle.tf_core.specs.declared.signature.Symbol.{Symbol}
use Rattle.tf_core.specs.declared.signature.Signature.{Signature}
use Rattle.tf_models.specs.declared.structure.TypedStructure.{TypedStructure}
use Rattle.tf_models.specs.Reading.{tables}
use Rattle.tf_models.specs.Fit.{length_at, block_count}
use Rattle.tf_models.specs.Evaluation.{IsReady, IsBlock}
use Rattle.enc_base.proofs.Tables.{sum_below-next, sum_below-grows, sum_below-part}
use Rattle.tf_models.proofs.SymbolBlocks.{block_positive}
use Rattle.tf_models.proofs.Entries.{table_total, symbol_block}
use Rattle.enc_marks.specs.declared.mark.Mark.{Mark}
use Rattle.enc_marks.specs.declared.mark.Mark.TheVariants as mark
use Rattle.enc_models.specs.declared.blocks.Block.{Block}
use Rattle.enc_models.specs.Calls.Blocks.{IsKept, AreBlocks, AreBlocksAt}
use Rattle.enc_models.specs.Calls.Merging.{Parts, IsMerging, StandsForSymbol}

pub length-pushed : {A : Type 0} (items : List A) (item : A) →
    length (items ++ item ∷ []) ≡ length items + 1
length-pushed [] item = omega arith
length-pushed (first ∷ items) item = omega (arith, length-pushed items item)

-- what holds of each item holds with one item more
pub each-pushed : {A : Type 0} (P : ℕ → A → Type 0) (items : List A) (item : A) →
    ((n : ℕ) (x : A) → slice_get items n ≡ Some x → P n x) → P (length items) item →
    (n : ℕ) (x : A) → slice_get (items ++ item ∷ []) n ≡ Some x → P n x
each-pushed P [] item before here zero x at = let same : item ≡ x = cc in subst (P 0) same here
each-pushed P [] item before here (suc n) x at = cc
each-pushed P (first ∷ items) item before here zero x at = before zero x at
each-pushed P (first ∷ items) item before here (suc n) x at =
    each-pushed (λ m. P (suc m)) items item (λ m y found. before (suc m) y found) here n x at

-- the blocks of a symbol's table, from the first one on
module _ (g : Signature) (model : TypedStructure) (ready : IsReady g model) (f : ℕ)
    (symbol : Symbol) (found : slice_get g.symbols f ≡ Some symbol) (table : List ℕ)
    (is : table ≡ get_or model.symbols f []) (blocks : List Block) (start : ℕ)
    (within : length blocks ≤ block_count (tables model) symbol)
    (start_is : start ≡ sum_below (length blocks) (length_at (tables model) symbol))
  where
    abbrev lengths : ℕ → ℕ
    lengths = length_at (tables model) symbol

    whole : length table ≡ sum_below (block_count (tables model) symbol) lengths
    whole = ap length is ∙ table_total g model f symbol ready.well_formed found

    module _ (more : start < length table) where
      number_within : length blocks < block_count (tables model) symbol
      number_within =
          ⊎_elim (λ less. less)
          (λ past. absurd (omega (
            arith,
            more,
            start_is,
            whole,
            sum_below-grows (block_count (tables model) symbol) (length blocks) lengths past,
          )))
          (cases_lt (length blocks) (block_count (tables model) symbol))

      pub next_block : IsBlock g model symbol (length blocks)
      next_block = symbol_block g model ready f symbol found (length blocks) number_within

      pub next_fits : start + lengths (length blocks) ≤ length table
      next_fits =
          omega (
            arith,
            start_is,
            whole,
            sum_below-part (length blocks) (block_count (tables model) symbol) lengths
                number_within,
          )

      pub next_positive : 1 ≤ lengths (length blocks)
      next_positive = block_positive g model symbol (length blocks) next_block

      pub next_within : (block : Block) →
          length (blocks ++ block ∷ []) ≤ block_count (tables model) symbol
      next_within block = omega (arith, length-pushed blocks block, number_within)

      pub next_start : (block : Block) → start + lengths (length blocks)
          ≡ sum_below (length (blocks ++ block ∷ [])) lengths
      next_start block =
          ap (λ n. n + lengths (length blocks)) start_is
          ∙ sym (sum_below-next (length blocks) lengths)
          ∙ ap (λ n. sum_below n lengths) (sym (length-pushed blocks block))

    pub all_blocks : ((number : ℕ) (block : Block) → slice_get blocks number ≡ Some block →
        IsKept model symbol number block) →
        length table ≤ start → AreBlocks model symbol blocks
    all_blocks each done = record {
      count =
          ⊎_elim
          (λ less. absurd (omega (
            arith,
            done,
            start_is,
            whole,
            sum_below-part (length blocks) (block_count (tables model) symbol) lengths less,
            block_positive g model symbol (length blocks)
                (symbol_block g model ready f symbol found (length blocks) less),
          )))
          (λ past. omega (arith, past, within))
          (cases_lt (length blocks) (block_count (tables model) symbol));
      each = each;
    }

-- one mark more
pub marks_more : (g : Signature) (model : TypedStructure) (marks : List Mark)
    (blocks : List (List Block)) (i : ℕ) (marked : Mark) (new : List Block) → length blocks ≡ i →
    ((at : ℕ) (other : Mark) → at < i → slice_get marks at ≡ Some other →
    AreBlocksAt g model other (get_or blocks at [])) →
    marked ≡ get_or marks i marked → AreBlocksAt g model marked new →
    (at : ℕ) (other : Mark) → at < i + 1 → slice_get marks at ≡ Some other →
    AreBlocksAt g model other (get_or (blocks ++ new ∷ []) at [])
marks_more g model marks blocks i marked new long before is here at other inside there =
    ⊎_elim
    (λ less.
    subst (AreBlocksAt g model other)
    (sym (get_or_append_left blocks (new ∷ []) [] at (omega (arith, less, long))))
    (before at other less there))
    (λ past.
    let last : i ≡ at = omega (arith, past, inside) in
    let same : marked ≡ other =
    is ∙ ap (λ n. get_or marks n marked) last ∙ get_or_from_slice_get marks at other marked there in
    subst (AreBlocksAt g model other) (sym (get_or_push blocks new [] at (long ∙ last)))
    (subst (λ x. AreBlocksAt g model x new) same here))
    (cases_lt at i)

pub mark_within : (m : Parts) → IsMerging m → (at f : ℕ) (symbol : Symbol) →
    StandsForSymbol m at f symbol → at < length m.blocks
mark_within m ready at f symbol marked =
    omega (
      arith,
      ready.blocks.count,
      slice_get_within m.encoded.marks at (mark.Symbol f) marked.mark_at,
    )

-- the blocks of a marked symbol's table, as code reads them
module _ (m : Parts) (ready : IsMerging m) (at f : ℕ) (symbol : Symbol)
    (marked : StandsForSymbol m at f symbol) (blocks other : List Block)
    (is : blocks ≡ get_or m.blocks at other)
  where
    pub are_blocks : AreBlocks m.model symbol blocks
    are_blocks =
        subst (AreBlocks m.model symbol)
        (sym (is
        ∙ get_or_default m.blocks at other [] (mark_within m ready at f symbol marked)))
        (ready.blocks.each at (mark.Symbol f) marked.mark_at f symbol refl marked.symbol_at)

    pub block_read : (number : ℕ) → number < block_count (tables m.model) symbol →
        (block : Block) → block ≡ get_or blocks number block → IsKept m.model symbol number block
    block_read number within block same =
        are_blocks.each number block
        (slice_get-get_or blocks number block (omega (arith, within, are_blocks.count))
        ∙ ap Some (sym same))
