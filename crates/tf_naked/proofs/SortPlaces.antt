-- Places of types as their table grows, and as the place of one more is noted.
use Rattle.std.specs.Prelude.{ℕ, ◌+◌, ◌<◌, ◌≤◌, ◌≡◌, ◌⊎◌, Bool, true, false, not, cond, List, [], ◌∷◌, length, get_or, set, slice_get, Some}
use Rattle.std.specs.List.{position_or_len}
use Rattle.std.proofs.Common.{refl, sym, ap, subst, ◌∙◌, arith, inl, inr, length-append}
use Rattle.std.proofs.lemmas.Bool.{cases_eq, cases_lt}
use Rattle.std.proofs.lemmas.Option.{slice_get_within, slice_get-get_or, same_Some}
use Rattle.std.proofs.lemmas.List.{get_or-set_same, get_or-set_other}
use Rattle.tf_core.specs.declared.ty.Ty.{Ty}
use Rattle.tf_core.specs.Types.{same_type}
use Rattle.tf_core.proofs.Typed.{same_type-says, same_type-self}
use Rattle.tf_types.specs.declared.node.TypeId.{TypeId}
use Rattle.tf_types.specs.Numbers.{Denotes, IsAbsent, IsOneToOne, Extends}
use Rattle.tf_types.proofs.Numbers.{Denotes-extended}
use Rattle.tf_naked.specs.Calls.Places.{ArePlaces}
use Rattle.tf_naked.proofs.Sets.{not_true}

pub ArePlaces-nothing : (table : List Ty) (places : List ℕ) (count i : ℕ) → table ≡ [] →
    places ≡ [] → i ≡ count → IsOneToOne table → ArePlaces table places count i []
ArePlaces-nothing table places count i none nothing all apart = record {
  one_to_one = apart;
  unused = λ k beyond. noted k;
  placed = λ id ty is. noted id.index ∙ ends;
  absent = λ ty never. sym ends;
}
  where
    noted : (k : ℕ) → get_or places k count ≡ count
    noted k = ap (λ list. get_or list k count) nothing

    ends : count ≡ i + 0
    ends = omega (arith, all)

-- as the table grows
module _ (old new : List Ty) (places : List ℕ) (count i : ℕ) (rest : List Ty)
    (grows : Extends old new) (apart : IsOneToOne new) (are : ArePlaces old places count i rest)
  where
    longer : length new ≡ length old + length grows.0
    longer = ap length grows.1 ∙ length-append old grows.0

    new_type : (id : TypeId) (ty : Ty) → Denotes new id ty → length old ≤ id.index →
        IsAbsent old ty
    new_type id ty is beyond known there =
        let before : known.index < length old = slice_get_within old known.index ty there in
        let same : id.index ≡ known.index =
        apart id.index known.index ty is (Denotes-extended old new grows known ty there) in
        omega (arith, before, same, beyond)

    old_type : (id : TypeId) (ty : Ty) → Denotes new id ty → id.index < length old →
        Denotes old id ty
    old_type id ty is within =
        let there : slice_get old id.index ≡ Some (get_or old id.index ty) =
        slice_get-get_or old id.index ty within in
        there
        ∙ sym (Denotes-extended old new grows id (get_or old id.index ty) there)
        ∙ is

    grown_place : (id : TypeId) (ty : Ty) → Denotes new id ty →
        (id.index < length old) ⊎ (length old ≤ id.index) →
        get_or places id.index count ≡ i + position_or_len (same_type ty) rest
    grown_place id ty is (inl within) = are.placed id ty (old_type id ty is within)
    grown_place id ty is (inr beyond) =
        are.unused id.index beyond ∙ sym (are.absent ty (new_type id ty is beyond))

    pub ArePlaces-grown : ArePlaces new places count i rest
    ArePlaces-grown = record {
      one_to_one = apart;
      unused = λ k beyond. are.unused k (omega (arith, beyond, longer));
      placed = λ id ty is. grown_place id ty is (cases_lt id.index (length old));
      absent = λ ty never.
          are.absent ty (λ id there. never id (Denotes-extended old new grows id ty there));
    }

-- as places are added that say nothing
pub ArePlaces-reached : (table : List Ty) (places more : List ℕ) (count i : ℕ) (rest : List Ty) →
    ((k : ℕ) → get_or more k count ≡ get_or places k count) →
    ArePlaces table places count i rest → ArePlaces table more count i rest
ArePlaces-reached table places more count i rest same are = record {
  one_to_one = are.one_to_one;
  unused = λ k beyond. same k ∙ are.unused k beyond;
  placed = λ id ty is. same id.index ∙ are.placed id ty is;
  absent = are.absent;
}

first_same : (ty : Ty) (rest : List Ty) (i : ℕ) →
    i ≡ i + position_or_len (same_type ty) (ty ∷ rest)
first_same ty rest i =
    let none : i ≡ i + 0 = omega arith in
    none ∙ ap (λ b. i + cond (not b) (1 + position_or_len (same_type ty) rest) 0)
    (sym (same_type-self ty))

first_differs : (ty first : Ty) (rest : List Ty) (i : ℕ) → same_type ty first ≡ false →
    i + 1 + position_or_len (same_type ty) rest ≡ i + position_or_len (same_type ty) (first ∷ rest)
first_differs ty first rest i differs =
    let n = position_or_len (same_type ty) rest in
    let more : i + 1 + n ≡ i + (1 + n) = omega arith in
    more ∙ ap (λ b. i + cond (not b) (1 + n) 0) (sym differs)

-- as the place of a type is noted
module _ (table : List Ty) (places : List ℕ) (count i : ℕ) (rest : List Ty) (id : TypeId)
    (ty : Ty) (is : Denotes table id ty) (within : id.index < length places)
    (are : ArePlaces table places count (i + 1) rest)
  where
    abbrev changed : List ℕ
    changed = set places id.index i

    put_place : (other : TypeId) (found : Ty) → Denotes table other found →
        (other.index ≡ id.index) ⊎ (other.index ≡ id.index → ⊥) →
        get_or changed other.index count ≡ i + position_or_len (same_type found) (ty ∷ rest)
    put_place other found denotes (inl same) =
        let types_same : found ≡ ty =
        same_Some found ty (sym denotes ∙ ap (slice_get table) same ∙ is) in
        ap (λ k. get_or changed k count) same
        ∙ get_or-set_same places id.index i count within
        ∙ first_same ty rest i
        ∙ ap (λ t. i + position_or_len (same_type t) (ty ∷ rest)) (sym types_same)
    put_place other found denotes (inr differs) =
        get_or-set_other places id.index other.index i count differs
        ∙ are.placed other found denotes
        ∙ first_differs found ty rest i
        (not_true (same_type found ty)
        (λ same. differs (are.one_to_one other.index id.index ty
        (subst (λ t. Denotes table other t) (same_type-says found ty same) denotes) is)))

    pub ArePlaces-put : ArePlaces table changed count i (ty ∷ rest)
    ArePlaces-put = record {
      one_to_one = are.one_to_one;
      unused = λ k beyond.
          let number : id.index < length table = slice_get_within table id.index ty is in
          get_or-set_other places id.index k i count (λ same. omega (arith, number, same, beyond))
          ∙ are.unused k beyond;
      placed = λ other found denotes.
          put_place other found denotes (cases_eq other.index id.index);
      absent = λ found never.
          sym (first_differs found ty rest i
          (not_true (same_type found ty)
          (λ same. never id
          (subst (λ t. Denotes table id t) (sym (same_type-says found ty same)) is))))
          ∙ are.absent found never;
    }
