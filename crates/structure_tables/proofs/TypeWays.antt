-- The equations of type_ways.
use Rattle.std.specs.Prelude.{ℕ, ◌≡◌, ◌<◌, ◌+◌, ◌*◌, Bool, true, false, List, [], ◌∷◌, ◌++◌, take, get_or, map, cond, length, replicate, slice_index}
use Rattle.std.proofs.Common.{refl, sym, ap, subst, ◌∙◌}
use Rattle.std.proofs.lemmas.List.{length-map, map-append, take_more}
use Rattle.enc_base.specs.Tables.{EachBelow, sum_below, total}
use Rattle.enc_base.specs.Counts.{in_64_bits}
use Rattle.tf_core.specs.declared.ty.Ty.{Ty, roll-Ty}
use Rattle.tf_core.specs.declared.ty.Ty.TheVariants as type
use Rattle.tf_core.specs.declared.ty.Ty.TheOpen.{Ty-F}
use Rattle.tf_core.specs.declared.ty.Ty.TheOpen as type_layer
use Rattle.tf_core.specs.declared.ty.Ty.TheFolds.{fold-roll-Ty, map-Ty}
use Rattle.tf_core.specs.declared.signature.Signature.{Signature}
use Rattle.tf_core.specs.Typing.{IsType}
use Rattle.tf_core.specs.Structures.{Typed, member_count, member_of}
use Rattle.tf_models.proofs.Inversion.{application_parts}
use Rattle.structure_tables.specs.Sources.{AreMembersFor}
use Rattle.structure_tables.specs.declared.ways.Ways.{Ways}
use Rattle.structure_tables.specs.declared.ways.Ways.TheVariants.{One}
use Rattle.structure_tables.specs.CountedWays.{CountWays, AreWays, ways_by, ways_to}
use Rattle.structure_tables.proofs.CountedWays.{counts_one, counts_alike, parts_alike, alike_way, AreWays-length, AreWays-more}
use Rattle.structure_tables.proofs.CountedAlike.{sum_below-alike, alike_products}
use Rattle.structure_tables.specs.TypeWays.{one_at, ways_together, type_ways, type_ways_step, sizes_of_type}

module _ (s : Typed) (kept : ℕ → Bool) (members : List ℕ) where
  type_ways-roll : (x : Ty-F Ty) →
      type_ways s kept members (roll-Ty x)
      ≡ type_ways_step s kept members (map-Ty Ty (ℕ → ℕ) (type_ways s kept members) x)
  unfolding type_ways
  type_ways-roll x = fold-roll-Ty (ℕ → ℕ) (type_ways_step s kept members) x

  pub type_ways-variable : (i member : ℕ) →
      type_ways s kept members (type.Var i) member
      ≡ cond (kept i) (one_at (slice_index members i) member) 1
  type_ways-variable i member =
      ap (λ ty. type_ways s kept members ty member) (sym (type.rolls-Var i))
      ∙ ap (λ ways. ways member) (type_ways-roll (type_layer.Var i))

  pub type_ways-apply : (c : ℕ) (types : List Ty) (member : ℕ) →
      type_ways s kept members (type.Apply c types) member
      ≡ total (replicate (length types) (member_count s))
      (λ arguments. ways_together (map (type_ways s kept members) types) arguments
      * one_at (s.constructor_at c arguments) member)
  type_ways-apply c types member =
      ap (λ ty. type_ways s kept members ty member) (sym (type.rolls-Apply c types))
      ∙ ap (λ ways. ways member) (type_ways-roll (type_layer.Apply c types))
      ∙ ap (λ n. total (replicate n (member_count s))
      (λ arguments. ways_together (map (type_ways s kept members) types) arguments
      * one_at (s.constructor_at c arguments) member)) (length-map types (type_ways s kept members))

-- as code finds them

module _ (s : Typed) (kept : ℕ → Bool) (members : List ℕ) (ty : Ty) (count : ℕ) where
  pub ways-kept : (i : ℕ) → count ≡ member_count s → ty ≡ type.Var i → kept i ≡ true →
      slice_index members i ≡ member_of s members ty → member_of s members ty < member_count s →
      CountWays count (One (slice_index members i)) (type_ways s kept members ty)
  ways-kept i counted is held same within =
      counts_one count (slice_index members i) (type_ways s kept members ty)
      (subst (λ n. n < count) (sym same)
      (subst (λ n. member_of s members ty < n) (sym counted) within))
      (λ other.
      ap (λ t. type_ways s kept members t other) is
      ∙ type_ways-variable s kept members i other
      ∙ ap (λ b. cond b (one_at (slice_index members i) other) 1) held)

  pub ways-once : (i : ℕ) (ways : Ways) → ty ≡ type.Var i → kept i ≡ false →
      CountWays count ways (λ _. 1) → CountWays count ways (type_ways s kept members ty)
  ways-once i ways is free counts =
      counts_alike count ways (λ _. 1) (type_ways s kept members ty) counts
      (λ other _. ap in_64_bits
      (sym (ap (λ t. type_ways s kept members t other) is
      ∙ type_ways-variable s kept members i other
      ∙ ap (λ b. cond b (one_at (slice_index members i) other) 1) free)))

  module _ (c : ℕ) (types : List Ty) (parts : List Ways) (counted : count ≡ member_count s)
      (is : ty ≡ type.Apply c types)
    where
      pub ways-application : (ways : Ways) →
          AreWays count parts (map (type_ways s kept members) types) →
          CountWays count ways (ways_by (s.constructor_at c) count parts) →
          CountWays count ways (type_ways s kept members ty)
      ways-application ways are counts =
          counts_alike count ways (ways_by (s.constructor_at c) count parts)
          (type_ways s kept members ty) counts
          (λ other _.
          parts_alike count parts (map (type_ways s kept members) types) are
          (λ values. one_at (s.constructor_at c values) other)
          ∙ ap (λ n. in_64_bits (total (replicate n count)
          (λ values. ways_together (map (type_ways s kept members) types) values
          * one_at (s.constructor_at c values) other)))
          (length-map types (type_ways s kept members))
          ∙ ap (λ n. in_64_bits (total (replicate (length types) n)
          (λ values. ways_together (map (type_ways s kept members) types) values
          * one_at (s.constructor_at c values) other))) counted
          ∙ ap in_64_bits
          (sym (ap (λ t. type_ways s kept members t other) is
          ∙ type_ways-apply s kept members c types other)))

pub application_within : (g : Signature) (s : Typed) (kept : ℕ → Bool) (members : List ℕ) (ty : Ty)
    (count c : ℕ) (types : List Ty) (parts : List Ways) → count ≡ member_count s →
    ty ≡ type.Apply c types → IsType g (length members) ty →
    AreWays count parts (map (type_ways s kept members) types) → (values : List ℕ) →
    EachBelow (replicate (length parts) count) values → AreMembersFor g s c values
application_within g s kept members ty count c types parts counted is typed are values below =
    let found = application_parts g (length members) ty c types is typed in
    record {
      constructor = found.0;
      at = found.1;
      below = subst (λ n. EachBelow (replicate found.0.arity n) values) counted
          (subst (λ n. EachBelow (replicate n count) values)
          (AreWays-length count parts (map (type_ways s kept members) types) are
          ∙ length-map types (type_ways s kept members) ∙ found.2) below);
    }

-- a type more
pub ways_more : (count : ℕ) (parts after : List Ways) (types : List Ty) (i : ℕ) (ty : Ty) (part : Ways)
    (ways : Ty → ℕ → ℕ) → i < length types → ty ≡ get_or types i ty → after ≡ parts ++ part ∷ [] →
    AreWays count parts (map ways (take i types)) → CountWays count part (ways ty) →
    AreWays count after (map ways (take (i + 1) types))
ways_more count parts after types i ty part ways within is pushed are counts =
    subst (λ ps. AreWays count ps (map ways (take (i + 1) types))) (sym pushed)
    (subst (AreWays count (parts ++ part ∷ []))
    (ap (λ t. map ways (take i types) ++ ways t ∷ []) is
    ∙ sym (map-append ways (take i types) (get_or types i ty ∷ []))
    ∙ ap (map ways) (sym (take_more types i ty within)))
    (AreWays-more count parts (map ways (take i types)) part (ways ty) are counts))

-- the sizes of a type, as they are counted
pub sizes_counted : (s : Typed) (kept : ℕ → Bool) (members : List ℕ) (ty : Ty) (ways : Ways)
    (sizes : List ℕ) → sizes ≡ s.sizes →
    CountWays (length sizes) ways (type_ways s kept members ty) →
    in_64_bits (sum_below (length sizes) (λ member. ways_to ways member * slice_index sizes member))
    ≡ in_64_bits (sizes_of_type s kept members ty)
sizes_counted s kept members ty ways sizes same counts =
    sum_below-alike (length sizes) (λ member. ways_to ways member * slice_index sizes member)
    (λ member. type_ways s kept members ty member * slice_index sizes member)
    (λ member within. alike_products (ways_to ways member) (type_ways s kept members ty member)
    (slice_index sizes member) (slice_index sizes member)
    (alike_way (length sizes) ways (type_ways s kept members ty) counts member within) refl)
    ∙ ap (λ ss. in_64_bits (sum_below (length ss)
    (λ member. type_ways s kept members ty member * slice_index ss member))) same
