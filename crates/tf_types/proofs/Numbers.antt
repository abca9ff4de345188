-- Numbers in tables that grow.
use Rattle.std.specs.Prelude.{ℕ, zero, suc, ◌≡◌, ◌<◌, ◌⊎◌, List, [], ◌∷◌, ◌++◌, map, length, get_or, slice_get, Some}
use Rattle.std.proofs.Common.{refl, sym, ap, subst, ◌∙◌, arith, inl, inr, set, ◌≢◌, append_assoc, append-nil}
use Rattle.std.proofs.lemmas.List.{length-set, get_or-set_same}
use Rattle.std.proofs.lemmas.Option.{slice_get_within, slice_get-get_or, get_or_from_slice_get, same_Some, none-some}
use Rattle.tf_core.specs.declared.ty.Ty.{Ty}
use Rattle.tf_core.specs.declared.ty.Ty.TheVariants.{Var}
use Rattle.tf_types.specs.declared.node.TypeId.{TypeId}
use Rattle.tf_types.specs.Numbers.{Denotes, IsNumber, AreNumbers, type_at, Extends}
use Rattle.tf_types.specs.Laws.{NumbersTellTypesApart, NumbersKeepTheirTypes}

-- items of lists joined end to end

module _ {A : Type 0} where
  pub slice_get-append : (front back : List A) (k : ℕ) (item : A) →
      slice_get front k ≡ Some item → slice_get (front ++ back) k ≡ Some item
  slice_get-append [] back k item at = absurd (none-some item at)
  slice_get-append (x ∷ front) back zero item at = at
  slice_get-append (x ∷ front) back (suc k) item at = slice_get-append front back k item at

  pub slice_get-append_last : (front : List A) (last : A) →
      slice_get (front ++ last ∷ []) (length front) ≡ Some last
  slice_get-append_last [] last = refl
  slice_get-append_last (x ∷ front) last = slice_get-append_last front last

  -- an item of a list with one more is one of the list, or the last
  pub in_front_or_last : (front : List A) (last : A) (k : ℕ) (item : A) →
      slice_get (front ++ last ∷ []) k ≡ Some item →
      (slice_get front k ≡ Some item) ⊎ ((k ≡ length front) × (last ≡ item))
  in_front_or_last [] last zero item at = inr (refl, same_Some last item at)
  in_front_or_last [] last (suc k) item at = absurd (none-some item at)
  in_front_or_last (x ∷ front) last zero item at = inl at
  in_front_or_last (x ∷ front) last (suc k) item at =
      elim (in_front_or_last front last k item at) [
        | inl within ↦ inl within
        | inr end ↦ inr (grind (arith, end.0), end.1)
      ]

  pub get_or-append : (front back : List A) (k : ℕ) (default : A) → k < length front →
      get_or (front ++ back) k default ≡ get_or front k default
  get_or-append front back k default within =
      get_or_from_slice_get (front ++ back) k (get_or front k default) default
      (slice_get-append front back k (get_or front k default)
      (slice_get-get_or front k default within))

  -- an item of a list in which one was replaced is that one, or the list's
  pub in_set : (items : List A) (i j : ℕ) (new item : A) →
      slice_get (set items i new) j ≡ Some item →
      ((j ≡ i) × (new ≡ item)) ⊎ (slice_get items j ≡ Some item)
  in_set [] i j new item at = inr at
  in_set (x ∷ items) zero zero new item at = inl (refl, same_Some new item at)
  in_set (x ∷ items) zero (suc j) new item at = inr at
  in_set (x ∷ items) (suc i) zero new item at = inr at
  in_set (x ∷ items) (suc i) (suc j) new item at =
      elim (in_set items i j new item at) [
        | inl here ↦ inl (ap suc here.0, here.1)
        | inr there ↦ inr there
      ]

  pub slice_get-set_same : (items : List A) (i : ℕ) (new : A) → i < length items →
      slice_get (set items i new) i ≡ Some new
  slice_get-set_same items i new within =
      slice_get-get_or (set items i new) i new (omega (arith, within, length-set items i new))
      ∙ ap Some (get_or-set_same items i new new within)

  pub slice_get-set_other : (items : List A) (i j : ℕ) (new : A) → j ≢ i →
      slice_get (set items i new) j ≡ slice_get items j
  slice_get-set_other [] i j new other = refl
  slice_get-set_other (x ∷ items) zero zero new other = absurd (other refl)
  slice_get-set_other (x ∷ items) zero (suc j) new other = refl
  slice_get-set_other (x ∷ items) (suc i) zero new other = refl
  slice_get-set_other (x ∷ items) (suc i) (suc j) new other =
      slice_get-set_other items i j new (λ same. other (ap suc same))

-- what a number denotes

module _ (types : List Ty) (id : TypeId) where
  pub type_at-Denotes : (ty : Ty) → Denotes types id ty → type_at types id ≡ ty
  type_at-Denotes ty denotes = get_or_from_slice_get types id.index ty (Var 0) denotes

  pub IsNumber-Denotes : (ty : Ty) → Denotes types id ty → IsNumber types id
  IsNumber-Denotes ty denotes = slice_get_within types id.index ty denotes

  pub Denotes-type_at : IsNumber types id → Denotes types id (type_at types id)
  Denotes-type_at number = slice_get-get_or types id.index (Var 0) number

-- tables that grow

pub Extends-itself : (types : List Ty) → Extends types types
Extends-itself types = ([], sym (append-nil types))

pub Extends-twice : (first second third : List Ty) → Extends first second → Extends second third →
    Extends first third
Extends-twice first second third once again = (
  once.0 ++ again.0,
  again.1 ∙ ap (λ front. front ++ again.0) once.1 ∙ append_assoc first once.0 again.0,
)

module _ (old new : List Ty) (grows : Extends old new) where
  pub Denotes-extended : (id : TypeId) (ty : Ty) → Denotes old id ty → Denotes new id ty
  Denotes-extended id ty denotes =
      ap (λ types. slice_get types id.index) grows.1
      ∙ slice_get-append old grows.0 id.index ty denotes

  pub IsNumber-extended : (id : TypeId) → IsNumber old id → IsNumber new id
  IsNumber-extended id number =
      IsNumber-Denotes new id (type_at old id)
      (Denotes-extended id (type_at old id) (Denotes-type_at old id number))

  pub type_at-extended : (id : TypeId) → IsNumber old id → type_at new id ≡ type_at old id
  type_at-extended id number =
      type_at-Denotes new id (type_at old id)
      (Denotes-extended id (type_at old id) (Denotes-type_at old id number))

  pub AreNumbers-extended : (ids : List TypeId) → AreNumbers old ids → AreNumbers new ids
  AreNumbers-extended [] numbers = tt
  AreNumbers-extended (id ∷ ids) numbers =
      (IsNumber-extended id numbers.0, AreNumbers-extended ids numbers.1)

  pub types_at-extended : (ids : List TypeId) → AreNumbers old ids →
      map (type_at new) ids ≡ map (type_at old) ids
  types_at-extended [] numbers = refl
  types_at-extended (id ∷ ids) numbers =
      ap (λ ty. ty ∷ map (type_at new) ids) (type_at-extended id numbers.0)
      ∙ ap (λ types. type_at old id ∷ types) (types_at-extended ids numbers.1)

-- the laws

pub numbers_tell_types_apart : NumbersTellTypesApart
numbers_tell_types_apart types a b left right one_to_one at_a at_b = (
  λ same. sym (type_at-Denotes types a left at_a) ∙ ap (type_at types) same
      ∙ type_at-Denotes types b right at_b,
  λ same.
      ap (λ index. record { index = index })
      (one_to_one a.index b.index right (subst (Denotes types a) same at_a) at_b),
)

pub numbers_keep_their_types : NumbersKeepTheirTypes
numbers_keep_their_types old new id ty grows = Denotes-extended old new grows id ty
