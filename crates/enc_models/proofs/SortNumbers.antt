-- Sorts with their numbers, as types are numbered and sorts are added.
use Rattle.std.specs.Prelude.{ℕ, zero, suc, ◌+◌, ◌<◌, ◌≡◌, List, [], ◌∷◌, length, cond, not, get_or, set, slice_get, Some, IsTrue, Bool, true, false, ◌||◌}
use Rattle.std.specs.List.{AllByRecursion, list_any, position_or_len}
use Rattle.std.proofs.Common.{refl, sym, ap, subst, ◌∙◌, arith, ⊎_elim}
use Rattle.std.proofs.lemmas.Bool.{or_left, or_right, cases_lt}
use Rattle.std.proofs.lemmas.Option.{same_Some, slice_get-get_or}
use Rattle.std.proofs.lemmas.List.{get_or-set_same, get_or-set_other}
use Rattle.std.proofs.lemmas.List.Sums.{passes_at_first}
use Rattle.tf_core.specs.declared.ty.Ty.{Ty}
use Rattle.tf_core.specs.declared.ty.Ty.TheVariants as type
use Rattle.tf_core.specs.Types.{same_type}
use Rattle.tf_core.proofs.Typed.{same_type-says, same_type-self}
use Rattle.tf_types.specs.declared.node.TypeId.{TypeId}
use Rattle.tf_types.specs.Numbers.{Denotes, IsOneToOne, Extends}
use Rattle.tf_types.proofs.Numbers.{Denotes-extended}
use Rattle.enc_laws.proofs.SortsFormed.{number_within}
use Rattle.enc_models.specs.Calls.SortNumbers.{HasNumber, AreNumberedIn, number_in}

-- nothing is numbered
pub none_numbered : (table : List Ty) (numbers : List ℕ) (listed : List Ty) → IsOneToOne table →
    AreNumberedIn table numbers 0 listed
none_numbered table numbers listed apart = record {
  one_to_one = apart;
  each = λ i ty within at. absurd (omega (arith, within));
}

-- as the table grows
pub numbered-grown : (old new : List Ty) (numbers : List ℕ) (count : ℕ) (listed : List Ty) →
    Extends old new → IsOneToOne new → AreNumberedIn old numbers count listed →
    AreNumberedIn new numbers count listed
numbered-grown old new numbers count listed grows apart are = record {
  one_to_one = apart;
  each = λ i ty within at.
      let known = are.each i ty within at in
      record {
        id = known.id;
        denoted = Denotes-extended old new grows known.id ty known.denoted;
        number = known.number;
      };
}

-- as zeros are added
pub numbered-reached : (table : List Ty) (numbers more : List ℕ) (count : ℕ) (listed : List Ty) →
    ((i : ℕ) → get_or more i 0 ≡ get_or numbers i 0) → AreNumberedIn table numbers count listed →
    AreNumberedIn table more count listed
numbered-reached table numbers more count listed same are = record {
  one_to_one = are.one_to_one;
  each = λ i ty within at.
      let known = are.each i ty within at in
      record {
        id = known.id;
        denoted = known.denoted;
        number = same known.id.index ∙ known.number;
      };
}

-- as a sort is added
module _ (table : List Ty) (numbers : List ℕ) (count : ℕ) (listed : List Ty) (id : TypeId) (ty : Ty)
    (is : Denotes table id ty) (within : id.index < length numbers) (once : IsOneToOne listed)
    (at : slice_get listed count ≡ Some ty) (are : AreNumberedIn table numbers count listed)
  where
    earlier : (i : ℕ) (other : Ty) → i < count → slice_get listed i ≡ Some other →
        HasNumber table (set numbers id.index count) other i
    earlier i other before there =
        let known = are.each i other before there in
        let differs : known.id.index ≡ id.index → ⊥ =
        (λ same.
        let type_same : other ≡ ty =
        same_Some other ty
        (sym known.denoted ∙ ap (slice_get table) same ∙ is) in
        let place_same : i ≡ count =
        once i count ty (there ∙ ap Some type_same) at in
        omega (arith, before, place_same)) in
        record {
          id = known.id;
          denoted = known.denoted;
          number =
              get_or-set_other numbers id.index known.id.index count 0 differs ∙ known.number;
        }

    last : (i : ℕ) (other : Ty) → count ≡ i → slice_get listed i ≡ Some other →
        HasNumber table (set numbers id.index count) other i
    last i other here there =
        let type_same : ty ≡ other =
        same_Some ty other (sym at ∙ ap (slice_get listed) here ∙ there) in
        record {
          id = id;
          denoted = is ∙ ap Some type_same;
          number = get_or-set_same numbers id.index count 0 within ∙ here;
        }

    pub numbered-put : AreNumberedIn table (set numbers id.index count) (count + 1) listed
    numbered-put = record {
      one_to_one = are.one_to_one;
      each = λ i other inside there.
          ⊎_elim (λ before. earlier i other before there)
          (λ past. last i other (omega (arith, past, inside)) there) (cases_lt i count);
    }

-- the number that stands at that of a type of the list
pub number-found : (table : List Ty) (numbers : List ℕ) (listed : List Ty) (id : TypeId) (ty : Ty)
    (i : ℕ) → Denotes table id ty → slice_get listed i ≡ Some ty → i < length listed →
    AreNumberedIn table numbers (length listed) listed → get_or numbers id.index 0 ≡ i
number-found table numbers listed id ty i is at within are =
    let known = are.each i ty within at in
    let same : id.index ≡ known.id.index =
    are.one_to_one id.index known.id.index ty is known.denoted in
    ap (λ n. get_or numbers n 0) same ∙ known.number

-- a type of a list stands at its number
pub listed-number : (listed : List Ty) (ty : Ty) → IsTrue (list_any (same_type ty) listed) →
    slice_get listed (number_in listed ty) ≡ Some ty
listed-number listed ty there =
    let n : ℕ = number_in listed ty in
    let other : Ty = type.Var 0 in
    slice_get-get_or listed n other (number_within (same_type ty) listed there)
    ∙ ap Some (sym (same_type-says ty (get_or listed n other)
    (passes_at_first (same_type ty) listed other
    (number_within (same_type ty) listed there))))

-- ---- one of a list's types, as code reads it

pub all_at : (P : Ty → Type 0) (types : List Ty) (i : ℕ) (ty : Ty) → AllByRecursion P types →
    i < length types → ty ≡ get_or types i ty → P ty
all_at P [] i ty all within is = absurd (omega (arith, within))
all_at P (first ∷ types) zero ty all within is = subst P (sym is) all.0
all_at P (first ∷ types) (suc i) ty all within is =
    all_at P types i ty all.1 (omega (arith, within)) is

pub there_at : (types : List Ty) (i : ℕ) (ty : Ty) → i < length types → ty ≡ get_or types i ty →
    IsTrue (list_any (same_type ty) types)
there_at [] i ty within is = absurd (omega (arith, within))
there_at (first ∷ types) zero ty within is =
    or_left (same_type ty first) (list_any (same_type ty) types)
    (ap (same_type ty) (sym is) ∙ same_type-self ty)
there_at (first ∷ types) (suc i) ty within is =
    or_right (same_type ty first) (list_any (same_type ty) types)
    (there_at types i ty (omega (arith, within)) is)
