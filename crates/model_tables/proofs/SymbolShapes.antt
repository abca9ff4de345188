-- Tables of constructors and of symbols have the shapes that are asked of them.
use Rattle.std.proofs.Common.{◌≡◌, ℕ, zero, suc, ◌+◌, ◌-◌, ◌≤◌, ◌<◌, List, length, replicate}
use Rattle.std.proofs.Common.{Some, sym, ap, ◌∙◌, subst, arith, ⊎_elim, slice_index}
use Rattle.std.proofs.lemmas.Bool.{cases_lt}
use Rattle.std.proofs.lemmas.List.{get_or-replicate, length-replicate}
use Rattle.enc_base.specs.Tables.{sum_below, begins}
use Rattle.enc_base.proofs.Tables.{sum_below-same, blocks-at, sum_below-part}
use Rattle.enc_base.proofs.NumberedTuples.{place-tuple_at, tuple_at_below, total-numbered, begins-numbered}
use Rattle.tf_core.specs.declared.signature.Constructor.{Constructor}
use Rattle.tf_core.specs.declared.signature.Symbol.{Symbol}
use Rattle.tf_core.specs.TypedTables.{TypedTables, block_length}
use Rattle.tf_models.specs.Fit.{IsTable, IsSymbolTable, parameters_at, length_at, bound_at}
use Rattle.tf_models.specs.Fit.{block_count}
use Rattle.model_tables.specs.Typed.{constructor_shape, symbol_shape, symbol_bounds}
use Rattle.model_tables.proofs.Faultless.{HasShape}

-- ---- constructors

pub constructor_fits : (members : ℕ) (c : Constructor) (entries : List ℕ)
    → HasShape (constructor_shape members (Some c)) entries → IsTable members c.arity entries
constructor_fits members c entries shape = record { count = shape.count; below = shape.below }

pub constructor_shaped : (members : ℕ) (c : Constructor) (entries : List ℕ)
    → IsTable members c.arity entries → HasShape (constructor_shape members (Some c)) entries
constructor_shaped members c entries table = record { count = table.count; below = table.below }

-- ---- symbols

-- a place in rows is one in a row
record IsInRow (n : ℕ) (lengths : ℕ → ℕ) (k : ℕ) : Type 0 where
  row : ℕ
  at : ℕ
  within : row < n
  inside : at < lengths row
  is : k ≡ sum_below row lengths + at

in_row : (n : ℕ) (lengths : ℕ → ℕ) (k : ℕ) → k < sum_below n lengths → IsInRow n lengths k
in_row zero lengths k less = absurd (omega arith)
in_row (suc n) lengths k less =
    ⊎_elim
    (λ earlier.
    let found = in_row n lengths k earlier in
    record {
      row = found.row;
      at = found.at;
      within = omega (arith, found.within);
      inside = found.inside;
      is = found.is;
    })
    (λ later.
    let there : sum_below n lengths ≤ k = later in
    record {
      row = n;
      at = k - sum_below n lengths;
      within = omega arith;
      inside = omega (arith, less, there);
      is = omega (arith, there);
    })
    (cases_lt k (sum_below n lengths))

module _ (t : TypedTables) (some : 0 < length t.sizes) (f : Symbol) where
  -- the bounds of a block
  abbrev block : List ℕ → List ℕ
  block members = replicate (block_length t f members) (bound_at t f.result members)

  -- an entry's bound is that of its block
  bound_in_block : (number i : ℕ) → number < block_count t f → i < length_at t f number
      → slice_index (symbol_bounds t f) (sum_below number (length_at t f) + i)
      ≡ bound_at t f.result (parameters_at t f number)
  bound_in_block number i within inside =
      let sizes : List ℕ = replicate f.parameters (length t.sizes) in
      let members : List ℕ = parameters_at t f number in
      let below = tuple_at_below (length t.sizes) some f.parameters number within in
      let long : length (block members) ≡ length_at t f number =
      length-replicate (block_length t f members) (bound_at t f.result members) in
      let start : begins sizes (λ others. length (block others)) members
      ≡ sum_below number (length_at t f) =
      begins-numbered (length t.sizes) some f.parameters (λ others. length (block others)) members
      below
      ∙ ap (λ n. sum_below n (λ k. length (block (parameters_at t f k))))
      (place-tuple_at (length t.sizes) some f.parameters number within)
      ∙ sum_below-same number (λ k. length (block (parameters_at t f k))) (λ k. length_at t f k)
      (λ k less. length-replicate (length_at t f k) (bound_at t f.result (parameters_at t f k))) in
      ap (λ n. slice_index (symbol_bounds t f) (n + i)) (sym start)
      ∙ blocks-at sizes members block i below (omega (arith, inside, long))
      ∙ get_or-replicate (block_length t f members) i (bound_at t f.result members) 0 inside

  pub symbol_fits : (entries : List ℕ) → HasShape (symbol_shape t (Some f)) entries
      → IsSymbolTable t f entries
  symbol_fits entries shape =
      let count : length entries ≡ sum_below (block_count t f) (length_at t f) =
      shape.count ∙ total-numbered (length t.sizes) some f.parameters (block_length t f) in
      record {
        count = count;
        below = λ number i within inside.
            subst (λ z. slice_index entries (sum_below number (length_at t f) + i) < z)
            (bound_in_block number i within inside)
            (shape.below (sum_below number (length_at t f) + i)
            (omega (
              arith,
              inside,
              count,
              sum_below-part number (block_count t f) (length_at t f) within,
            )));
      }

  pub symbol_shaped : (entries : List ℕ) → IsSymbolTable t f entries
      → HasShape (symbol_shape t (Some f)) entries
  symbol_shaped entries table = record {
    count = table.count
        ∙ sym (total-numbered (length t.sizes) some f.parameters (block_length t f));
    below = λ k less. below k less;
  }
    where
      below : (k : ℕ) → k < length entries
          → slice_index entries k < slice_index (symbol_bounds t f) k
      below k less =
          let found = in_row (block_count t f) (length_at t f) k
          (subst (λ z. k < z) table.count less) in
          subst (λ z. slice_index entries z < slice_index (symbol_bounds t f) z) (sym found.is)
          (subst (λ z. slice_index entries (sum_below found.row (length_at t f) + found.at) < z)
          (sym (bound_in_block found.row found.at found.within found.inside))
          (table.below found.row found.at found.within found.inside))
