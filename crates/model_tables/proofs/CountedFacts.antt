-- The entries of a structure counted by the tables of its constructors.
use Rattle.std.proofs.Common.{◌≡◌, ℕ, ◌+◌, ◌*◌, ◌≤◌, ◌<◌, List, [], length, map, Some, None, refl, sym, ap, ◌∙◌}
use Rattle.std.proofs.Common.{subst, arith, replicate, take, get_or, slice_get}
use Rattle.std.specs.Prelude.{sum, sum_by, slice_index}
use Rattle.std.proofs.lemmas.List.{get_or-replicate, length-replicate}
use Rattle.std.proofs.lemmas.List.Sums.{sum-map}
use Rattle.enc_base.specs.Tables.{EachBelow, tuple_count, place}
use Rattle.enc_base.specs.Tuples.{IsPlaced}
use Rattle.enc_base.proofs.Tables.{EachBelow-length}
use Rattle.enc_base.proofs.Placing.{place-step, place-fits, place-whole, placed_within}
use Rattle.tf_core.specs.declared.signature.Constructor.{Constructor}
use Rattle.tf_core.specs.declared.signature.Symbol.{Symbol}
use Rattle.tf_core.specs.declared.signature.Signature.{Signature}
use Rattle.tf_core.specs.Typing.{IsSignature, IsResult}
use Rattle.tf_core.specs.Structures.{IsStructure}
use Rattle.tf_core.specs.TypedTables.{TypedTables, constructor_entry}
use Rattle.tf_models.specs.declared.structure.TypedStructure.{TypedStructure}
use Rattle.tf_models.specs.Reading.{tables}
use Rattle.tf_models.specs.Fit.{ConstructorsFit}
use Rattle.tf_models.proofs.TypeMembers.{constructors_give, constructor_within, constructor_long, member_below}
use Rattle.tf_models.proofs.Values.{symbol_typed}
use Rattle.structure_tables.specs.EntryCounts.{typed_count, symbol_count}
use Rattle.structure_tables.specs.Sources.{AreMembersFor, IsSized}
use Rattle.model_tables.specs.CountedTables.{without_symbols}
use Rattle.model_tables.specs.Typed.{typed_entries, symbol_entries}

-- ---- the place of a tuple, one part more

module _ (count size : ℕ) (values : List ℕ) (below : EachBelow (replicate count size) values) where
  module _ (i at v : ℕ) (within : i < count) (same : v ≡ get_or values i 0)
      (so_far : at ≡ place (take i (replicate count size)) (take i values))
    where
      pub placed-step : at * size + v ≡ place (take (i + 1) (replicate count size)) (take (i + 1) values)
      placed-step =
          place-step (replicate count size) values i size v at below
          (omega (arith, within, length-replicate count size))
          (sym (get_or-replicate count i size 0 within)) same so_far

      pub placed-fits : at * size + v < tuple_count (replicate count size)
      placed-fits =
          place-fits (replicate count size) values i size v at below
          (omega (arith, within, length-replicate count size))
          (sym (get_or-replicate count i size 0 within)) same so_far

  pub placed-all : (i at : ℕ) → count ≤ i → at ≡ place (take i (replicate count size)) (take i values)
      → IsPlaced (replicate count size) values at
  placed-all i at whole so_far = record {
    place_is = so_far
        ∙ place-whole (replicate count size) values i below
        (omega (arith, whole, length-replicate count size));
    below = below;
  }

module _ (g : Signature) (s : TypedStructure) (fit : ConstructorsFit g (tables s)) where
  -- ---- values

  module _ (c : ℕ) (members : List ℕ) (for : AreMembersFor g (without_symbols (tables s)) c members)
    where
      pub value_within : c < length s.constructors
      value_within = constructor_within g s fit c for.constructor for.at

      long : length members ≡ for.constructor.arity
      long = sym (EachBelow-length for.constructor.arity (length s.sizes) members for.below)

      pub value_below : EachBelow (replicate (length members) (length s.sizes)) members
      value_below = subst (λ n. EachBelow (replicate n (length s.sizes)) members) (sym long) for.below

      pub value_long : length (get_or s.constructors c [])
          ≡ tuple_count (replicate (length members) (length s.sizes))
      value_long = constructor_long g s fit c (length members) for.constructor for.at long

      pub value_inside : (at : ℕ)
          → IsPlaced (replicate (length members) (length s.sizes)) members at
          → at < length (get_or s.constructors c [])
      value_inside at placed =
          omega (
            arith,
            value_long,
            placed_within (replicate (length members) (length s.sizes))
                members at placed,
          )

  -- ---- counts

  pub counted_structure : IsSignature g → IsStructure g (without_symbols (tables s))
  counted_structure typed = record {
    some = fit.inhabited.some;
    inhabited = fit.inhabited.each;
    constructors = constructors_give g s fit;
    functions = λ f symbol result members elements at gives arguments.
        let formed = subst (IsResult g symbol.parameters) gives
        (symbol_typed g g.symbols f symbol at typed).result in
        fit.inhabited.each _
        (member_below g s fit symbol.parameters members result formed arguments.for_parameters);
    predicates = λ f symbol members elements at gives arguments. omega arith;
  }

  pub counted_sized : IsSignature g → length s.sizes < 4294967296
      → IsSized g (without_symbols (tables s)) s.sizes
  counted_sized typed few = record {
    fits = counted_structure typed;
    same = refl;
    few = few;
  }

pub counted_entries : (g : Signature) (t : TypedTables)
    → typed_count g (without_symbols t) ≡ typed_entries g t
counted_entries g t =
    ap (λ z. sum t.sizes + z + sum_by (symbol_entries t) g.symbols)
    (sym (sum-map (λ (c : Constructor). tuple_count (replicate c.arity (length t.sizes)))
    g.constructors))
    ∙ ap (λ z. sum t.sizes + sum (map (λ (c : Constructor).
    tuple_count (replicate c.arity (length t.sizes))) g.constructors) + z)
    (sym (sum-map (symbol_entries t) g.symbols))
