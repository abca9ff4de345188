-- Tables against a signature, taken from the left.
use Rattle.std.specs.Prelude.{ℕ, ◌≡◌, ◌<◌, ◌≤◌, ◌+◌, ◌-◌, List, [], length, take, drop, get_or, slice_get, slice_index, Some}
use Rattle.std.proofs.Common.{sym, ap, ◌∙◌, subst, arith, ⊎_elim, length-drop}
use Rattle.std.proofs.lemmas.Bool.{cases_eq}
use Rattle.std.proofs.lemmas.List.{get_or_default, get_or-drop, take_all}
use Rattle.std.proofs.lemmas.Option.{slice_get_within, slice_get-get_or}
use Rattle.enc_base.specs.Tables.{sum_below}
use Rattle.enc_base.proofs.Tables.{sum_below-part}
use Rattle.tf_core.specs.declared.signature.Symbol.{Symbol}
use Rattle.tf_core.specs.declared.signature.Signature.{Signature}
use Rattle.tf_models.specs.declared.structure.TypedStructure.{TypedStructure}
use Rattle.tf_models.specs.Reading.{tables}
use Rattle.tf_models.specs.Fit.{IsSymbolTable, block_count, length_at, bound_at, parameters_at}
use Rattle.tf_models.specs.Evaluation.{IsBlock, IsBlockOf}
use Rattle.tf_models.proofs.SymbolBlocks.{block_positive, blocks_fit}

-- the list at an index of a list of lists, as code reads it
pub list_read : (all lent : List (List ℕ)) (i : ℕ) (entries slice : List ℕ) → lent ≡ all →
    i < length all → entries ≡ get_or lent i entries → slice ≡ entries → slice ≡ get_or all i []
list_read all lent i entries slice same within is lend =
    lend ∙ is ∙ ap (λ xs. get_or xs i entries) same ∙ get_or_default all i entries [] within

-- a table for each item, each as its item asks
module _ {A : Type 0} (P : A → List ℕ → Type 0) (items : List A) (tables : List (List ℕ)) (i : ℕ)
    (item : A) (entries : List ℕ) (within : i < length items) (is : item ≡ get_or items i item)
    (read : entries ≡ get_or tables i [])
  where
    item_at : slice_get items i ≡ Some item
    item_at = slice_get-get_or items i item within ∙ ap (λ x. Some x) (sym is)

    pub fits_more : P item entries →
        ((j : ℕ) (x : A) → j < i → slice_get items j ≡ Some x → P x (get_or tables j [])) →
        (j : ℕ) (x : A) → j < i + 1 → slice_get items j ≡ Some x → P x (get_or tables j [])
    fits_more fits earlier j x below at =
        ⊎_elim
        (λ same.
        let found : item ≡ x =
        let both : Some item ≡ Some x = sym item_at ∙ ap (slice_get items) (sym same) ∙ at in cc in
        subst (λ n. P x (get_or tables n [])) (sym same)
        (subst (λ y. P y (get_or tables i [])) found (subst (P item) read fits)))
        (λ differs. let other : j ≡ i → ⊥ = differs in earlier j x (omega arith) at)
        (cases_eq j i)

    pub fits_needed : ((j : ℕ) (x : A) → slice_get items j ≡ Some x → P x (get_or tables j [])) →
        P item entries
    fits_needed all = subst (P item) (sym read) (all i item item_at)

pub fits_all : {A : Type 0} (P : A → List ℕ → Type 0) (items : List A) (tables : List (List ℕ))
    (count : ℕ) →
    length items ≤ count →
    ((j : ℕ) (x : A) → j < count → slice_get items j ≡ Some x → P x (get_or tables j [])) →
    (j : ℕ) (x : A) → slice_get items j ≡ Some x → P x (get_or tables j [])
fits_all P items tables count whole each j x at =
    each j x (omega (arith, slice_get_within items j x at)) at

-- blocks

module _ (g : Signature) (s : TypedStructure) (symbol : Symbol) (entries : List ℕ)
    (block : (number : ℕ) → number < block_count (tables s) symbol → IsBlock g s symbol number)
  where
    -- a symbol's table has at least an entry for each of its blocks
    pub few_blocks : IsSymbolTable (tables s) symbol entries → block_count (tables s) symbol
        ≤ length entries
    few_blocks table =
        omega (
          arith,
          table.count,
          blocks_fit (block_count (tables s) symbol) (length_at (tables s) symbol)
              (λ n within. block_positive g s symbol n (block n within)),
        )

    pub block_needed : (number start : ℕ) → number < block_count (tables s) symbol →
        start ≡ sum_below number (length_at (tables s) symbol) →
        IsSymbolTable (tables s) symbol entries →
        IsBlockOf s symbol number (take (length entries - start) (drop start entries))
    block_needed number start within at table =
        subst (IsBlockOf s symbol number)
        (sym (take_all (length entries - start) (drop start entries)
        (omega (arith, length-drop start entries)))) (record {
          long =
              omega (
                arith,
                at,
                table.count,
                length-drop start entries,
                sum_below-part number (block_count (tables s) symbol) (length_at (tables s) symbol)
                    within,
              );
          below = λ i inside.
              rw (get_or-drop start entries i 0)
              (subst
              (λ n. slice_index entries (n + i) < bound_at (tables s) symbol.result
              (parameters_at (tables s) symbol number)) (sym at)
              (table.below number i within inside));
        })
