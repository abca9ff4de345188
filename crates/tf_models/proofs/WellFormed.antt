-- Tables that fit a signature are a well-formed structure.
use Rattle.std.specs.Prelude.{ℕ, zero, suc, ◌≡◌, ◌<◌, ◌+◌, ◌*◌, ◌/◌, ◌%◌, List, [], ◌∷◌, length, replicate, get_or, slice_get, slice_index, Option, Some, None}
use Rattle.std.proofs.Common.{refl, sym, ap, subst, ◌∙◌, arith}
use Rattle.std.proofs.Math.Nat.{div-lt_iff_lt-mul, mod-lt}
use Rattle.std.proofs.lemmas.Nat.{div-add-mod'}
use Rattle.enc_base.specs.Tables.{EachBelow, sum_below, tuple_count, place}
use Rattle.enc_base.proofs.Tables.{place_within}
use Rattle.enc_base.proofs.NumberedTuples.{place-tuple_at, tuple_at_below, tuple_at-place, total-numbered, begins-numbered}
use Rattle.tf_core.specs.declared.ty.Ty.{Ty}
use Rattle.tf_core.specs.declared.signature.Symbol.{Symbol}
use Rattle.tf_core.specs.declared.signature.Signature.{Signature}
use Rattle.tf_core.specs.Structures.{AreArguments}
use Rattle.tf_core.specs.TypedTables.{reading, symbol_entry, block_bounds, block_length, IsWellFormed}
use Rattle.tf_models.specs.declared.structure.TypedStructure.{TypedStructure}
use Rattle.tf_models.specs.Reading.{tables}
use Rattle.tf_models.specs.Fit.{TablesFit, parameters_at, length_at, bound_at, block_count}
use Rattle.tf_models.proofs.TypeMembers.{constructors_give}
use Rattle.tf_models.proofs.Entries.{constructors_fit, table_total}

-- the tuple at a place

factor_positive : (a b n : ℕ) → n < a * b → 0 < b
factor_positive a zero n within = absurd (omega (arith, within))
factor_positive a (suc b) n within = omega arith

pub tuple_placed : (bounds : List ℕ) (n : ℕ) → n < tuple_count bounds →
    (values : List ℕ) × EachBelow bounds values × (place bounds values ≡ n)
tuple_placed [] n within = ([], tt, omega (arith, within))
tuple_placed (bound ∷ bounds) n within =
    let some = factor_positive bound (tuple_count bounds) n within in
    let inner = tuple_placed bounds (n % tuple_count bounds) (mod-lt n some) in (
      n / tuple_count bounds ∷ inner.0,
      ((div-lt_iff_lt-mul some).1 within, inner.1),
      ap (λ rest. n / tuple_count bounds * tuple_count bounds + rest) inner.2
          ∙ div-add-mod' n (tuple_count bounds),
    )

-- where an entry stands
module _ (g : Signature) (s : TypedStructure) (some : 0 < length s.sizes) (f : ℕ) (symbol : Symbol)
    (at : slice_get g.symbols f ≡ Some symbol) (members elements : List ℕ)
    (below : EachBelow (replicate symbol.parameters (length s.sizes)) members)
  where
    entry_at : (reading g (tables s)).symbol_at f members elements
        ≡ slice_index (get_or s.symbols f [])
        (sum_below (place (replicate symbol.parameters (length s.sizes)) members)
        (length_at (tables s) symbol) + place (block_bounds (tables s) symbol members) elements)
    entry_at =
        ap (λ found. symbol_entry (tables s) found f members elements) at
        ∙ ap (λ n. slice_index (get_or s.symbols f [])
        (n + place (block_bounds (tables s) symbol members) elements))
        (begins-numbered (length s.sizes) some symbol.parameters (block_length (tables s) symbol)
        members below)

module _ (g : Signature) (s : TypedStructure) where
  -- a well-formed structure's entries
  in_range : IsWellFormed g (tables s) → (f : ℕ) (symbol : Symbol) → slice_get g.symbols f
      ≡ Some symbol →
      (members elements : List ℕ) → AreArguments (reading g (tables s)) symbol members elements →
      (result : Option Ty) → symbol.result ≡ result →
      (reading g (tables s)).symbol_at f members elements < bound_at (tables s) result members
  in_range well_formed f symbol at members elements arguments None gives =
      well_formed.structure.predicates f symbol members elements at gives arguments
  in_range well_formed f symbol at members elements arguments (Some result) gives =
      well_formed.structure.functions f symbol result members elements at gives arguments

  pub well_formed_fits : IsWellFormed g (tables s) → TablesFit g (tables s)
  well_formed_fits well_formed = record {
    constructors = constructors_fit g s well_formed;
    count = well_formed.tables.symbol_count;
    symbols = λ f symbol at. record {
      count = table_total g s f symbol well_formed at;
      below = below f symbol at;
    };
  }
    where
      below : (f : ℕ) (symbol : Symbol) → slice_get g.symbols f ≡ Some symbol → (number i : ℕ) →
          number < block_count (tables s) symbol → i < length_at (tables s) symbol number →
          slice_index (get_or s.symbols f []) (sum_below number (length_at (tables s) symbol) + i)
          < bound_at (tables s) symbol.result (parameters_at (tables s) symbol number)
      below f symbol at number i within inside =
          let some = well_formed.structure.some in
          let members : List ℕ = parameters_at (tables s) symbol number in
          let members_below = tuple_at_below (length s.sizes) some symbol.parameters number
          within in
          let there = tuple_placed (block_bounds (tables s) symbol members) i inside in
          let here : sum_below (place (replicate symbol.parameters (length s.sizes)) members)
          (length_at (tables s) symbol) + place (block_bounds (tables s) symbol members) there.0
          ≡ sum_below number (length_at (tables s) symbol) + i =
          ap (λ n. sum_below n (length_at (tables s) symbol)
          + place (block_bounds (tables s) symbol members) there.0)
          (place-tuple_at (length s.sizes) some symbol.parameters number within)
          ∙ ap (λ n. sum_below number (length_at (tables s) symbol) + n) there.2 in
          subst (λ n. n < bound_at (tables s) symbol.result members)
          (entry_at g s some f symbol at members there.0 members_below
          ∙ ap (slice_index (get_or s.symbols f [])) here)
          (in_range well_formed f symbol at members there.0
          (record { for_parameters = members_below; for_arguments = there.1 }) symbol.result refl)

  -- entries of tables that fit
  fits_below : TablesFit g (tables s) → (f : ℕ) (symbol : Symbol) → slice_get g.symbols f
      ≡ Some symbol →
      (members elements : List ℕ) → AreArguments (reading g (tables s)) symbol members elements →
      (reading g (tables s)).symbol_at f members elements < bound_at (tables s) symbol.result
      members
  fits_below fit f symbol at members elements arguments =
      let some = fit.constructors.inhabited.some in
      let number : ℕ = place (replicate symbol.parameters (length s.sizes)) members in
      let same : parameters_at (tables s) symbol number ≡ members =
      tuple_at-place (length s.sizes) some symbol.parameters members arguments.for_parameters in
      let inside : place (block_bounds (tables s) symbol members) elements < length_at (tables s)
      symbol number =
      subst (λ ms. place (block_bounds (tables s) symbol members) elements
      < block_length (tables s) symbol ms) (sym same)
      (place_within (block_bounds (tables s) symbol members) elements arguments.for_arguments) in
      subst (λ n. n < bound_at (tables s) symbol.result members)
      (sym (entry_at g s some f symbol at members elements arguments.for_parameters))
      (subst
      (λ ms. slice_index (get_or s.symbols f [])
      (sum_below number (length_at (tables s) symbol)
      + place (block_bounds (tables s) symbol members) elements) < bound_at (tables s)
      symbol.result ms) same
      ((fit.symbols f symbol at).below number
      (place (block_bounds (tables s) symbol members) elements)
      (place_within (replicate symbol.parameters (length s.sizes)) members
      arguments.for_parameters) inside))

  pub fits_well_formed : TablesFit g (tables s) → IsWellFormed g (tables s)
  fits_well_formed fit = record {
    tables = record {
      constructor_count = fit.constructors.count;
      symbol_count = fit.count;
      constructors = λ c constructor at. (fit.constructors.tables c constructor at).count;
      symbols = λ f symbol at.
          (fit.symbols f symbol at).count
          ∙ sym (total-numbered (length s.sizes) fit.constructors.inhabited.some symbol.parameters
          (block_length (tables s) symbol));
    };
    structure = record {
      some = fit.constructors.inhabited.some;
      inhabited = fit.constructors.inhabited.each;
      constructors = constructors_give g s fit.constructors;
      functions = λ f symbol result members elements at gives arguments.
          subst
          (λ given. (reading g (tables s)).symbol_at f members elements < bound_at (tables s) given
          members) gives (fits_below fit f symbol at members elements arguments);
      predicates = λ f symbol members elements at gives arguments.
          subst
          (λ given. (reading g (tables s)).symbol_at f members elements < bound_at (tables s) given
          members) gives (fits_below fit f symbol at members elements arguments);
    };
  }
