-- A type is free exactly where it is looked up as free.
use Rattle.std.specs.Prelude.{ℕ, suc, ◌+◌, ◌≡◌, Bool, true, false, not, ◌||◌, List, [], ◌∷◌, map, cond, get_or}
use Rattle.std.specs.List.{list_any, position_or_len}
use Rattle.std.proofs.Common.{refl, sym, ap, ◌∙◌, arith}
use Rattle.std.proofs.lemmas.Bool.{false≢true}
use Rattle.std.proofs.Math.Path.{fun_ext}
use Rattle.tf_core.specs.declared.ty.Ty.{Ty}
use Rattle.tf_core.specs.declared.normal.Normal.{Normal}
use Rattle.tf_core.specs.Types.{same_type}
use Rattle.tf_core.specs.Typing.{IsNormal}
use Rattle.tf_core.specs.Sorts.{sorts}
use Rattle.tf_core.proofs.Typed.{same_type-says}
use Rattle.tf_naked.specs.Naked.{is_naked_type, is_only, is_free}
use Rattle.tf_naked.proofs.NakedTypes.{naked_sorts}
use Rattle.enc_marks.specs.FreeByTable.{is_free_by}

-- what is told of a type that stands in a list, and else that it passes
module _ (test : Ty → Bool) (ty : Ty) where
  told_first : (sort : Ty) (others : List Ty) (same : Bool) → same_type ty sort ≡ same →
      get_or (map test others) (position_or_len (same_type ty) others) true
      ≡ cond (list_any (same_type ty) others) (test ty) true →
      get_or (test sort ∷ map test others)
      (cond (not same) (1 + position_or_len (same_type ty) others) 0) true
      ≡ cond (same || list_any (same_type ty) others) (test ty) true
  told_first sort others true is rest = ap test (sym (same_type-says ty sort is))
  told_first sort others false is rest =
      let place : ℕ = position_or_len (same_type ty) others in
      let next : 1 + place ≡ suc place = omega arith in
      ap (λ n. get_or (test sort ∷ map test others) n true) next ∙ rest

  told_of : (listed : List Ty) →
      get_or (map test listed) (position_or_len (same_type ty) listed) true
      ≡ cond (list_any (same_type ty) listed) (test ty) true
  told_of [] = refl
  told_of (sort ∷ listed) = told_first sort listed (same_type ty sort) refl (told_of listed)

module _ (normal : Normal) (typed : IsNormal normal) (ty : Ty) where
  -- a type that is no sort has no naked place
  not_naked : (naked : Bool) → is_naked_type normal ty ≡ naked →
      list_any (same_type ty) (sorts normal) ≡ false → naked ≡ false
  not_naked true is none =
      absurd (false≢true (sym none ∙ naked_sorts normal ty typed is))
  not_naked false is none = refl

  no_sort_free : list_any (same_type ty) (sorts normal) ≡ false → is_free normal ty ≡ true
  unfolding is_free
  no_sort_free none =
      ap (λ naked. not naked || is_only ty (sorts normal))
      (not_naked (is_naked_type normal ty) refl none)

  found_free : (there : Bool) → list_any (same_type ty) (sorts normal) ≡ there →
      cond there (is_free normal ty) true ≡ is_free normal ty
  found_free true is = refl
  found_free false is = sym (no_sort_free is)

pub is_free_by-told : (normal : Normal) → IsNormal normal →
    is_free_by (sorts normal, map (is_free normal) (sorts normal)) ≡ is_free normal
unfolding is_free_by
is_free_by-told normal typed =
    fun_ext (λ ty.
    told_of (is_free normal) ty (sorts normal)
    ∙ found_free normal typed ty (list_any (same_type ty) (sorts normal)) refl)
