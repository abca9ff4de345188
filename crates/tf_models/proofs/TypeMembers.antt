-- The members that types are, and their places in the tables of constructors.
use Rattle.std.specs.Prelude.{ℕ, zero, suc, ◌≡◌, ◌<◌, ◌≤◌, List, [], ◌+◌, ◌*◌, map, length, replicate, take, get_or, slice_get, slice_index, Some}
use Rattle.std.proofs.Common.{sym, ap, subst, ◌∙◌, arith}
use Rattle.std.proofs.lemmas.List.{get_or-replicate, length-replicate, length-map}
use Rattle.std.proofs.lemmas.Option.{slice_get_within}
use Rattle.enc_base.specs.Tables.{EachBelow, tuple_count, place}
use Rattle.enc_base.specs.Tuples.{IsPlaced}
use Rattle.enc_base.proofs.Tables.{place_within, EachBelow-length}
use Rattle.enc_base.proofs.Placing.{placed_within, place-step, place-fits, place-whole, get_or-mapped}
use Rattle.tf_core.specs.declared.ty.Ty.{Ty}
use Rattle.tf_core.specs.declared.ty.Ty.TheVariants as type
use Rattle.tf_core.specs.declared.signature.Constructor.{Constructor}
use Rattle.tf_core.specs.declared.signature.Signature.{Signature}
use Rattle.tf_core.specs.Typing.{IsType, AreTypes, no_types, more_types}
use Rattle.tf_core.specs.TypedTables.{constructor_entry}
use Rattle.tf_core.proofs.Types.{type_value-variable, type_value-apply}
pub use Rattle.tf_core.proofs.Values.{type_value_below, type_values_below}
use Rattle.tf_models.specs.declared.structure.TypedStructure.{TypedStructure}
use Rattle.tf_models.specs.Reading.{tables}
use Rattle.tf_models.specs.Fit.{ConstructorsFit}
use Rattle.tf_models.specs.Evaluation.{member_in}
use Rattle.tf_models.proofs.Inversion.{application_parts}

module _ (g : Signature) (s : TypedStructure) (fit : ConstructorsFit g (tables s)) where
  -- a constructor's table

  pub constructor_within : (c : ℕ) (constructor : Constructor) →
      slice_get g.constructors c ≡ Some constructor → c < length s.constructors
  constructor_within c constructor at =
      omega (arith, slice_get_within g.constructors c constructor at, fit.count)

  pub constructor_long : (c arity : ℕ) (constructor : Constructor) →
      slice_get g.constructors c ≡ Some constructor → arity ≡ constructor.arity →
      length (get_or s.constructors c []) ≡ tuple_count (replicate arity (length s.sizes))
  constructor_long c arity constructor at count =
      (fit.tables c constructor at).count
      ∙ ap (λ n. tuple_count (replicate n (length s.sizes))) (sym count)

  pub constructors_give : (c : ℕ) (constructor : Constructor) (members : List ℕ) →
      slice_get g.constructors c ≡ Some constructor →
      EachBelow (replicate constructor.arity (length s.sizes)) members →
      constructor_entry (tables s) c members < length s.sizes
  constructors_give c constructor members at below =
      let long = EachBelow-length constructor.arity (length s.sizes) members below in
      let here = subst (λ n. EachBelow (replicate n (length s.sizes)) members) long below in
      (fit.tables c constructor at).below (place (replicate (length members) (length s.sizes))
      members) (omega (
        arith,
        place_within (replicate (length members) (length s.sizes)) members here,
        constructor_long c (length members) constructor at (sym long),
      ))

  -- the member that a type is, is one of the structure's

  pub member_below : (variables : ℕ) (members : List ℕ) (ty : Ty) → IsType g variables ty →
      EachBelow (replicate variables (length s.sizes)) members →
      member_in s members ty < length s.sizes
  member_below =
      type_value_below g (constructor_entry (tables s)) (length s.sizes) constructors_give

  pub members_below : (variables : ℕ) (members : List ℕ) (types : List Ty) →
      AreTypes g variables types → EachBelow (replicate variables (length s.sizes)) members →
      EachBelow (replicate (length types) (length s.sizes)) (map (member_in s members) types)
  members_below =
      type_values_below g (constructor_entry (tables s)) (length s.sizes) constructors_give

  -- what an application's table gives

  module _ (variables : ℕ) (members : List ℕ) (ty : Ty) (c : ℕ) (types : List Ty)
      (is : ty ≡ type.Apply c types) (typed : IsType g variables ty)
    where
      pub applied_within : c < length s.constructors
      applied_within =
          let parts = application_parts g variables ty c types is typed in
          constructor_within c parts.0 parts.1

      pub applied_types : AreTypes g variables types
      applied_types = (application_parts g variables ty c types is typed).3

      pub applied_long : length (get_or s.constructors c [])
          ≡ tuple_count (replicate (length types) (length s.sizes))
      applied_long =
          let parts = application_parts g variables ty c types is typed in
          constructor_long c (length types) parts.0 parts.1 parts.2

      pub applied_inside : (at : ℕ) (table : List ℕ) → table ≡ get_or s.constructors c [] →
          IsPlaced (replicate (length types) (length s.sizes)) (map (member_in s members) types)
          at →
          at < length table
      applied_inside at table same placed =
          omega (
            arith,
            ap length same ∙ applied_long,
            placed_within (replicate (length types) (length s.sizes))
                (map (member_in s members) types) at placed,
          )

      pub applied_is : (at : ℕ) (table : List ℕ) → table ≡ get_or s.constructors c [] →
          IsPlaced (replicate (length types) (length s.sizes)) (map (member_in s members) types)
          at →
          slice_index table at ≡ member_in s members ty
      applied_is at table same placed =
          ap (λ entries. slice_index entries at) same
          ∙ ap (slice_index (get_or s.constructors c []))
          (placed.place_is
          ∙ ap (λ n. place (replicate n (length s.sizes)) (map (member_in s members) types))
          (sym (length-map _ _)))
          ∙ sym (ap (member_in s members) is
          ∙ type_value-apply (constructor_entry (tables s)) members c types)

pub variable_is : (s : TypedStructure) (members : List ℕ) (ty : Ty) (i : ℕ) → ty ≡ type.Var i →
    get_or members i 0 ≡ member_in s members ty
variable_is s members ty i is =
    sym (ap (member_in s members) is ∙ type_value-variable (constructor_entry (tables s)) members i)

-- an item of a list of types
pub type_at : (g : Signature) (variables i : ℕ) (types : List Ty) (ty : Ty) → i < length types →
    ty ≡ get_or types i ty → AreTypes g variables types → IsType g variables ty
type_at g variables i types ty within is typed =
    subst (IsType g variables) (sym is) (go i types within typed)
  where
    go : (i : ℕ) (xs : List Ty) → i < length xs → AreTypes g variables xs →
        IsType g variables (get_or xs i ty)
    go i xs within no_types = absurd (omega arith)
    go zero xs within (more_types x others formed rest) = formed
    go (suc i) xs within (more_types x others formed rest) = go i others (omega arith) rest

-- the place of the tuple of members that types are, found from the left
module _ (g : Signature) (s : TypedStructure) (fit : ConstructorsFit g (tables s)) (variables : ℕ)
    (members : List ℕ) (types : List Ty) (typed : AreTypes g variables types)
    (below : EachBelow (replicate variables (length s.sizes)) members)
  where
    module _ (i at v : ℕ) (ty : Ty) (within : i < length types) (is : ty ≡ get_or types i ty)
        (same : v ≡ member_in s members ty)
        (so_far : at ≡ place (take i (replicate (length types) (length s.sizes)))
        (take i (map (member_in s members) types)))
      where
        pub types-step : at * length s.sizes + v
            ≡ place (take (i + 1) (replicate (length types) (length s.sizes)))
            (take (i + 1) (map (member_in s members) types))
        types-step =
            place-step (replicate (length types) (length s.sizes))
            (map (member_in s members) types) i (length s.sizes) v at
            (members_below g s fit variables members types typed below)
            (omega (arith, length-replicate (length types) (length s.sizes)))
            (sym (get_or-replicate (length types) i (length s.sizes) 0 within))
            (same ∙ sym (get_or-mapped (member_in s members) types i ty within is)) so_far

        pub types-fit : at * length s.sizes + v
            < tuple_count (replicate (length types) (length s.sizes))
        types-fit =
            place-fits (replicate (length types) (length s.sizes))
            (map (member_in s members) types) i (length s.sizes) v at
            (members_below g s fit variables members types typed below)
            (omega (arith, length-replicate (length types) (length s.sizes)))
            (sym (get_or-replicate (length types) i (length s.sizes) 0 within))
            (same ∙ sym (get_or-mapped (member_in s members) types i ty within is)) so_far

    pub types_placed : (i at : ℕ) → length types ≤ i →
        at ≡ place (take i (replicate (length types) (length s.sizes)))
        (take i (map (member_in s members) types)) →
        IsPlaced (replicate (length types) (length s.sizes)) (map (member_in s members) types) at
    types_placed i at whole so_far =
        let each = members_below g s fit variables members types typed below in
        record {
          place_is = so_far ∙ place-whole (replicate (length types) (length s.sizes))
              (map (member_in s members) types) i each
              (omega (arith, length-replicate (length types) (length s.sizes)));
          below = each;
        }
