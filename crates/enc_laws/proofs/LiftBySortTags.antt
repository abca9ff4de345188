-- The lift of the translation where each term of a sort that isn't free has its tag: the elements
-- of such a sort are what its tag gives, and numbers are read through the tag.
use Rattle.std.specs.Prelude.{ℕ, ◌<◌, ◌≡◌, Bool, true, false, not, List, [], ◌∷◌, ◌++◌, length, cond, eqb, slice_get, Some, IsTrue}
use Rattle.std.proofs.Common.{refl, sym, ap, ◌∙◌, arith}
use Rattle.std.proofs.lemmas.Bool.{eqb-true, eq-eqb, false≢true}
use Rattle.enc_base.proofs.Quantifiers.{some_below-at, some_below-from}
use Rattle.tf_core.specs.declared.ty.Ty.{Ty}
use Rattle.tf_core.specs.declared.nnf.Nnf.{Nnf}
use Rattle.tf_core.specs.declared.signature.Symbol.{Symbol}
use Rattle.tf_core.specs.declared.signature.Signature.{Signature}
use Rattle.tf_core.specs.declared.normal.Normal.{Normal}
use Rattle.tf_core.specs.Types.{type_value}
use Rattle.tf_core.specs.Sorts.{sorts}
use Rattle.tf_core.specs.Sound.{is_monomorphic, IsSoundNormal}
use Rattle.tf_core.specs.Models.{IsNormalModel}
use Rattle.fof_models.specs.Structures.{Untyped}
use Rattle.fof_models.specs.Truth.{value}
use Rattle.fof_models.specs.Models.{AreSatisfied}
use Rattle.fof_models.proofs.Truth.{value-apply}
use Rattle.tf_naked.specs.declared.position.Kind.{Kind}
use Rattle.tf_naked.specs.Standing.{stands}
use Rattle.tf_naked.specs.Naked.{is_free}
use Rattle.tf_naked.specs.SortLaws.{IsSort}
use Rattle.tf_naked.proofs.HeldTypes as naked_sorts
use Rattle.enc_marks.specs.declared.choices.Elements.{Elements}
use Rattle.enc_marks.specs.declared.choices.Elements.TheVariants.{Image, All}
use Rattle.enc_marks.specs.Choices.{Choices}
use Rattle.enc_marks.specs.Translation.{Numbers}
use Rattle.enc_marks.specs.Encoded.{all_numbers, translation}
use Rattle.enc_marks.specs.Occurrence.{count_below}
use Rattle.enc_marks.specs.Schemes.{tags_light}
use Rattle.enc_laws.specs.Relations.{needed}
use Rattle.enc_laws.specs.Corresponds.{IsApplied}
use Rattle.enc_laws.specs.Lifted.{Lift, lifted, lifted_value, is_element, read_as, mark_of_sort, sort_at, formed_sort, lift_by_sort, IsClosed}
use Rattle.enc_laws.specs.LiftedBySort.{IsTotalBySort}
use Rattle.enc_laws.proofs.Ranked.{count_below-less}
use Rattle.enc_laws.proofs.ByType.{never_stands}
use Rattle.enc_laws.proofs.Lifting.{ranking, IsInside, Lifts}
use Rattle.enc_laws.proofs.Formed.{is_structure}
use Rattle.enc_laws.proofs.SortsFormed.{some_sort, formed_within, sort_at-value, sort_at-sort, value_within}
use Rattle.enc_laws.proofs.LiftBySort.{IsAnySort, none_kept, places_sorted, result_sorted, sort_lifts_satisfied}
use Rattle.enc_laws.proofs.LiftedBySort.{normal_typed}

-- ---- a sort that is free or not

-- all numbers, or those that the tag gives
abbrev pub or_image : Bool → Elements
or_image free = cond free All Image

-- a number is read as an element
read_inside : (free : Bool) (size : ℕ) (mark : ℕ → ℕ) (v : ℕ) → v < size → mark v < size →
    (read_as (or_image free) mark v < size)
    × (is_element (or_image free) size mark (read_as (or_image free) mark v) ≡ true)
read_inside true size mark v below within = (below, refl)
read_inside false size mark v below within =
    (within, some_below-from size (λ x. eqb (mark x) (mark v)) v below (eq-eqb _ _ refl))

-- each element is read from a number
pub read_from_some : (free : Bool) (size : ℕ) (mark : ℕ → ℕ) (w : ℕ) → w < size →
    is_element (or_image free) size mark w ≡ true →
    (v : ℕ) × (v < size) × (read_as (or_image free) mark v ≡ w)
read_from_some true size mark w below picked = (w, below, refl)
read_from_some false size mark w below picked =
    let found = some_below-at size (λ x. eqb (mark x) w) picked in
    (found.0, found.1, eqb-true _ _ found.2)

read_free : (free : Bool) (mark : ℕ → ℕ) (v : ℕ) → not free ≡ false →
    read_as (or_image free) mark v ≡ v
read_free true mark v is = refl
read_free false mark v is = absurd (false≢true (sym is))

read_tagged : (free : Bool) (mark : ℕ → ℕ) (v : ℕ) → not free ≡ true →
    mark v ≡ read_as (or_image free) mark v
read_tagged true mark v is = absurd (false≢true is)
read_tagged false mark v is = refl

-- ---- the lift

-- a symbol that doesn't occur gives the element of rank 0, and a predicate 0
abbrev pub AreAbsentBySort : (normal : Normal) → (ℕ → Bool) → Untyped → Type 0
AreAbsentBySort normal present j =
    (f : ℕ) (symbol : Symbol) (kept values members elements : List ℕ) →
    slice_get normal.signature.symbols f ≡ Some symbol → present f ≡ false →
    IsApplied (tags_light (is_free normal)) (all_numbers normal) normal.signature
    (lifted (tags_light (is_free normal)) (all_numbers normal) normal.signature present j
    (lift_by_sort (tags_light (is_free normal)) normal (all_numbers normal) j)) j
    (ranking j (lift_by_sort (tags_light (is_free normal)) normal (all_numbers normal) j)
    (IsAnySort normal j) (IsSort normal)) symbol kept values members elements →
    lifted_value (lift_by_sort (tags_light (is_free normal)) normal (all_numbers normal) j) members
    symbol.result (j.symbol_at f (kept ++ values)) ≡ 0

module _ (normal : Normal) (present : ℕ → Bool) (j : Untyped)
    (monomorphic : IsTrue (is_monomorphic normal)) (sound : IsSoundNormal normal)
    (closed : IsClosed (all_numbers normal) normal.signature j)
    (tags_below : (sort : Ty) (v : ℕ) → IsSort normal sort → v < j.size →
    j.symbol_at ((all_numbers normal).sort sort) (v ∷ []) < j.size) where
  abbrev c : Choices
  c = tags_light (is_free normal)

  abbrev k : Numbers
  k = all_numbers normal

  abbrev own : Lift
  own = lift_by_sort c normal k j

  pub sort_inside : (m v : ℕ) → m < length (sorts normal) → v < j.size →
      IsInside j (lift_by_sort (tags_light (is_free normal)) normal (all_numbers normal) j) v m
  sort_inside m v within below =
      let sort : Ty = sort_at normal m in
      let both = read_inside (is_free normal sort) j.size (mark_of_sort k j sort) v below
      (tags_below sort v (sort_at-sort normal m within) below) in
      record { inside = both.0; passes = both.1 }

  pub sort_inhabited : (m : ℕ) → m < length (sorts normal) →
      0 < count_below j.size
      ((lift_by_sort (tags_light (is_free normal)) normal (all_numbers normal) j).picks m)
  sort_inhabited m within =
      let first = sort_inside m 0 within closed.inhabited in
      let less = count_below-less j.size (own.into m 0) (own.picks m) first.inside first.passes in
      omega (arith, less)

  -- as what a number is read in a sort
  into_sort : (ty : Ty) (members : List ℕ) (v : ℕ) → IsSort normal ty →
      own.into (type_value (formed_sort normal) members ty) v
      ≡ read_as (or_image (is_free normal ty)) (mark_of_sort k j ty) v
  into_sort ty members v is =
      ap (λ sort. read_as (or_image (is_free normal sort)) (mark_of_sort k j sort) v)
      (sort_at-value normal monomorphic sound ty members is)

  stays : (kind : Kind) (ty : Ty) (body : Nnf) (members : List ℕ) (v : ℕ) → IsSort normal ty →
      IsTrue (stands normal.signature
      (needed c (ranking j own (IsAnySort normal j) (IsSort normal)) kind ty) body 0) →
      (free : Bool) → is_free normal ty ≡ free →
      own.into (type_value (formed_sort normal) members ty) v ≡ v
  stays kind ty body members v is need true free =
      into_sort ty members v is
      ∙ read_free (is_free normal ty) (mark_of_sort k j ty) v (ap not free)
  stays kind ty body members v is need false free =
      absurd (never_stands normal.signature
      (needed c (ranking j own (IsAnySort normal j) (IsSort normal)) kind ty)
      (λ p. ap (λ b. not (not b)) free) body 0 need)

  module _ (absent : AreAbsentBySort normal present j) where
    pub tags_light_lifts : Lifts (tags_light (is_free normal)) (all_numbers normal) normal.signature
        present j (lift_by_sort (tags_light (is_free normal)) normal (all_numbers normal) j)
        (IsAnySort normal j) (IsSort normal)
    tags_light_lifts = record {
      within = λ v m h. h.within;
      constructors = λ i constructor values members at all h. record {
        below = closed.constructors i constructor values at;
        within = formed_within normal i members;
      };
      constructors_below = λ i constructor members at below. formed_within normal i members;
      kept = λ symbol us members h.
          none_kept (IsAnySort normal j) (c.keeps symbol) us members refl h;
      good_arguments = places_sorted normal monomorphic;
      good_result = result_sorted normal monomorphic;
      result_below = λ f symbol ty kept values members elements at gives h.
          closed.functions f symbol ty (kept ++ values) at gives;
      result_inside = λ f symbol ty kept values members elements at gives h.
          sort_inside _ _
          (value_within normal monomorphic sound ty members
          (naked_sorts.result_sort normal f symbol ty at gives))
          (closed.functions f symbol ty (kept ++ values) at gives);
      absent = absent;
      untagged = λ position kind ty members v is no_tag.
          into_sort ty members v is
          ∙ read_free (is_free normal ty) (mark_of_sort k j ty) v no_tag;
      stays = λ kind ty body members v is need.
          stays kind ty body members v is need (is_free normal ty) refl;
      tag_is = λ depth ty t members assignment position kind e is tagged type_is h.
          value-apply j assignment (k.sort ty) (t ∷ [])
          ∙ (read_tagged (is_free normal ty) (mark_of_sort k j ty) (value j assignment t) tagged
          ∙ sym (into_sort ty members (value j assignment t) is));
      covered = λ m w within below picked.
          read_from_some (is_free normal (sort_at normal m)) j.size
          (mark_of_sort k j (sort_at normal m)) w below picked;
      bind_true = λ undercover naked depth ty t members assignment is binds type_is below picked.
          absurd (false≢true binds);
      element = λ depth ty t members assignment is type_is below bound.
          sort_inside _ _ type_is.within below;
    }

-- the lifted structure is a model
pub tags_light_lifted_model : (normal : Normal) (present : ℕ → Bool) (j : Untyped) →
    IsTrue (is_monomorphic normal) → IsSoundNormal normal →
    IsTotalBySort (tags_light (is_free normal)) normal j → AreAbsentBySort normal present j →
    AreSatisfied j (translation (tags_light (is_free normal)) normal) →
    IsNormalModel normal
    (lifted (tags_light (is_free normal)) (all_numbers normal) normal.signature present j
    (lift_by_sort (tags_light (is_free normal)) normal (all_numbers normal) j))
tags_light_lifted_model normal present j monomorphic sound total absent satisfied =
    let c : Choices = tags_light (is_free normal) in
    let k : Numbers = all_numbers normal in
    let g : Signature = normal.signature in
    let l : Lift = lift_by_sort c normal k j in
    let typed = normal_typed normal sound in
    let has_lifts : Lifts c k g present j l (IsAnySort normal j) (IsSort normal) =
    tags_light_lifts normal present j monomorphic sound total.closed (total.tags refl) absent in
    record {
      structure = is_structure c k g present j l (IsAnySort normal j) (IsSort normal)
          typed.signature has_lifts
          (record {
            some = some_sort normal;
            number_of = λ m within.
                (0, record { below = total.closed.inhabited; within = within });
            inhabited = λ m within.
                sort_inhabited normal present j monomorphic sound total.closed (total.tags refl) m
                within;
            predicates = total.predicates;
          });
      formulas = sort_lifts_satisfied c normal present j typed total.closed.inhabited has_lifts
          satisfied;
    }
