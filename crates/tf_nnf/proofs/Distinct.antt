-- How many different types there are among some: no more than there are in a list that has each.
use Rattle.std.proofs.Common.{suc, ◌≤◌, ◌≡◌, Bool, true, false, List, [], ◌∷◌, ◌++◌, map, length, cond, eqb, refl, sym, ap, subst, ◌∙◌, arith, ⊎_elim, inl, inr}
use Rattle.std.specs.Prelude.{◌⊎◌, ◌||◌, IsTrue}
use Rattle.std.specs.List.{AllByRecursion, list_any}
use Rattle.std.proofs.lemmas.Bool.{and_from, eq-eqb}
use Rattle.tf_core.specs.declared.ty.Ty.{Ty}
use Rattle.tf_core.specs.declared.ty.Ty.TheVariants as type
use Rattle.tf_core.specs.declared.ty.Ty.TheViews.{outs-Var, outs-Apply}
use Rattle.tf_core.specs.Types.{same_type, pass_in_order, is_variable, is_application}
use Rattle.tf_core.specs.Sorts.{joined, once}
use Rattle.tf_core.proofs.Types.{same_type-variable, same_type-apply}
use Rattle.tf_core.proofs.Induction.{type_induction}

-- one of a list
abbrev pub IsAmong : {A : Type 0} → A → List A → Type 0
IsAmong x [] = ⊥
IsAmong x (item ∷ items) = (x ≡ item) ⊎ IsAmong x items

-- each item of the first list is one of the second
abbrev pub AreAmong : {A : Type 0} → List A → List A → Type 0
AreAmong {A} items others = (x : A) → IsAmong x items → IsAmong x others

pub among_left : {A : Type 0} (x : A) (items others : List A) → IsAmong x items →
    IsAmong x (items ++ others)
among_left x [] others is = absurd is
among_left x (item ∷ items) others is =
    ⊎_elim (λ here. inl here) (λ there. inr (among_left x items others there)) is

pub among_right : {A : Type 0} (x : A) (items others : List A) → IsAmong x others →
    IsAmong x (items ++ others)
among_right x [] others is = is
among_right x (item ∷ items) others is = inr (among_right x items others is)

pub among_either : {A : Type 0} (x : A) (items others : List A) → IsAmong x (items ++ others) →
    IsAmong x items ⊎ IsAmong x others
among_either x [] others is = inr is
among_either x (item ∷ items) others is =
    ⊎_elim
    (λ here. inl (inl here))
    (λ there. ⊎_elim (λ here. inl (inr here)) (λ after. inr after) (among_either x items others there))
    is

-- two lists, one after the other

pub are_append : {A : Type 0} (items more others : List A) → AreAmong items others →
    AreAmong more others → AreAmong (items ++ more) others
are_append items more others first second x is =
    ⊎_elim (first x) (second x) (among_either x items more is)

pub are_left : {A : Type 0} (items others more : List A) → AreAmong items others →
    AreAmong items (others ++ more)
are_left items others more are x is = among_left x others more (are x is)

pub are_right : {A : Type 0} (items others more : List A) → AreAmong items more →
    AreAmong items (others ++ more)
are_right items others more are x is = among_right x others more (are x is)

-- lists that a map makes, one after another

pub among_joined : {A B : Type 0} (f : A → List B) (x : B) (y : A) (items : List A) →
    IsAmong y items → IsAmong x (f y) → IsAmong x (joined (map f items))
among_joined f x y [] is of = absurd is
among_joined f x y (item ∷ items) is of =
    ⊎_elim
    (λ same. among_left x (f item) (joined (map f items)) (subst (λ z. IsAmong x (f z)) same of))
    (λ there. among_right x (f item) (joined (map f items)) (among_joined f x y items there of))
    is

pub among_one : {A B : Type 0} (f : A → List B) (x : B) (items : List A) →
    IsAmong x (joined (map f items)) → (y : A) × (IsAmong y items × IsAmong x (f y))
among_one f x [] is = absurd is
among_one f x (item ∷ items) is =
    ⊎_elim
    (λ here. (item, (inl refl, here)))
    (λ there. let found = among_one f x items there in (found.0, (inr found.1.0, found.1.1)))
    (among_either x (f item) (joined (map f items)) is)

pub are_joined : {A B : Type 0} (f : A → List B) (items others : List A) → AreAmong items others →
    AreAmong (joined (map f items)) (joined (map f others))
are_joined f items others are x is =
    let found = among_one f x items is in
    among_joined f x found.0 others (are found.0 found.1.0) found.1.1

-- lists that a map makes

pub among_map : {A B : Type 0} (f : A → B) (x : A) (items : List A) → IsAmong x items →
    IsAmong (f x) (map f items)
among_map f x [] is = absurd is
among_map f x (item ∷ items) is =
    ⊎_elim (λ same. inl (ap f same)) (λ there. inr (among_map f x items there)) is

pub among_from : {A B : Type 0} (f : A → B) (y : B) (items : List A) → IsAmong y (map f items) →
    (x : A) × (IsAmong x items × (y ≡ f x))
among_from f y [] is = absurd is
among_from f y (item ∷ items) is =
    ⊎_elim
    (λ same. (item, (inl refl, same)))
    (λ there. let found = among_from f y items there in (found.0, (inr found.1.0, found.1.1)))
    is

pub are_map : {A B : Type 0} (f : A → B) (items others : List A) → AreAmong items others →
    AreAmong (map f items) (map f others)
are_map f items others are y is =
    let found = among_from f y items is in
    subst (λ z. IsAmong z (map f others)) (sym found.1.1)
    (among_map f found.0 others (are found.0 found.1.0))

-- a list without one of its items
pub record Without {A : Type 0} (item : A) (items : List A) : Type 0 where
  pub rest : List A
  pub count : length items ≡ suc (length rest)
  pub others : (x : A) → IsAmong x items → (x ≡ item) ⊎ IsAmong x rest

without : {A : Type 0} (item : A) (items : List A) → IsAmong item items → Without item items
without item [] is = absurd is
without item (first ∷ items) is =
    ⊎_elim
    (λ same. record {
      rest = items;
      count = refl;
      others = λ x. ⊎_elim (λ here. inl (here ∙ sym same)) (λ there. inr there);
    })
    (λ there. let later = without item items there in record {
      rest = first ∷ later.rest;
      count = omega (arith, later.count);
      others = λ x. ⊎_elim
          (λ here. inr (inl here))
          (λ after. ⊎_elim (λ same. inl same) (λ kept. inr (inr kept)) (later.others x after));
    })
    is

-- a type equals itself

pass_self : (types : List Ty) → AllByRecursion (λ ty. IsTrue (same_type ty ty)) types →
    IsTrue (pass_in_order (map same_type types) types)
pass_self [] each = refl
pass_self (ty ∷ types) each =
    and_from (same_type ty ty) (pass_in_order (map same_type types) types) each.0
    (pass_self types each.1)

same_type-self : (ty : Ty) → IsTrue (same_type ty ty)
same_type-self =
    type_induction (λ ty. IsTrue (same_type ty ty))
    (λ i. same_type-variable i (type.Var i) ∙ ap (is_variable i) (outs-Var i) ∙ eq-eqb i i refl)
    (λ c types each.
    same_type-apply c types (type.Apply c types)
    ∙ ap (is_application c (map same_type types)) (outs-Apply c types)
    ∙ and_from (eqb c c) (pass_in_order (map same_type types) types) (eq-eqb c c refl)
    (pass_self types each))

-- types each once

or_second : (a b : Bool) → IsTrue b → IsTrue (a || b)
or_second true b is = refl
or_second false b is = is

abbrev IsSeen : List Ty → Ty → Type 0
IsSeen seen ty = IsTrue (list_any (same_type ty) seen)

-- each type is one of some others, or was seen
abbrev AreLeft : List Ty → List Ty → List Ty → Type 0
AreLeft seen types others = (x : Ty) → IsAmong x types → IsAmong x others ⊎ IsSeen seen x

-- the types each once are no more than those that have each
abbrev OnceWithin : List Ty → Type 0
OnceWithin types = (seen others : List Ty) → AreLeft seen types others →
    length (once seen types) ≤ length others

once_more : (seen : List Ty) (ty : Ty) (types others : List Ty) (found : Bool) →
    list_any (same_type ty) seen ≡ found → OnceWithin types → AreLeft seen (ty ∷ types) others →
    length (cond found (once seen types) (ty ∷ once (ty ∷ seen) types)) ≤ length others
once_more seen ty types others true is rest are =
    rest seen others (λ x there. are x (inr there))
once_more seen ty types others false is rest are =
    ⊎_elim
    (λ among.
    let left = without ty others among in
    let kept : AreLeft (ty ∷ seen) types left.rest = λ x there.
    ⊎_elim
    (λ one. ⊎_elim
    (λ same. inr (ap (λ b. b || list_any (same_type x) seen)
    (subst (λ y. IsTrue (same_type x y)) same (same_type-self x))))
    (λ other. inl other)
    (left.others x one))
    (λ before. inr (or_second (same_type x ty) (list_any (same_type x) seen) before))
    (are x (inr there)) in
    omega (arith, left.count, rest (ty ∷ seen) left.rest kept))
    (λ before. absurd (let clash : false ≡ true = sym is ∙ before in cc))
    (are ty (inl refl))

once_left : (types : List Ty) → OnceWithin types
once_left [] seen others are = omega arith
once_left (ty ∷ types) seen others are =
    once_more seen ty types others (list_any (same_type ty) seen) refl (once_left types) are

pub once_within : (types others : List Ty) → AreAmong types others →
    length (once [] types) ≤ length others
once_within types others are = once_left types [] others (λ x is. inl (are x is))
