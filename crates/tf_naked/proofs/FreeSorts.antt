-- The types of naked places as they are collected, and the sorts that are free by them.
use Rattle.std.specs.Prelude.{ℕ, ◌+◌, ◌<◌, ◌≤◌, ◌≡◌, Bool, true, false, not, ◌&&◌, ◌||◌, List, [], ◌∷◌, ◌++◌, map, cond, length, take, get_or, Some, None, Result, Ok, Err}
use Rattle.std.specs.List.{list_any}
use Rattle.std.specs.Result.{IfOk}
use Rattle.std.proofs.Common.{refl, sym, ap, subst, ◌∙◌, arith}
use Rattle.std.proofs.Math.Bool.{or-false}
use Rattle.std.proofs.lemmas.Bool.{or_right}
use Rattle.std.proofs.lemmas.List.{append_assoc, append-nil, take_more, take_all, map-append}
use Rattle.std.proofs.lemmas.List.Folds.{list_any-append}
use Rattle.tf_core.specs.declared.ty.Ty.{Ty}
use Rattle.tf_core.specs.declared.nnf.Nnf.{Nnf}
use Rattle.tf_core.specs.declared.normal.NormalFormula.{NormalFormula}
use Rattle.tf_core.specs.declared.normal.Normal.{Normal}
use Rattle.tf_core.specs.declared.signature.Signature.{Signature}
use Rattle.tf_core.specs.Types.{same_type}
use Rattle.tf_core.specs.Sorts.{joined, sorts}
use Rattle.tf_core.proofs.Typed.{same_type-self}
use Rattle.tf_naked.specs.declared.position.Kind.{Kind}
use Rattle.tf_naked.specs.declared.set.TypeSet.{TypeSet}
use Rattle.tf_naked.specs.Standing.{is_universal}
use Rattle.tf_naked.specs.Naked.{Equation, equations_of, NakedPlace, naked_in_equations, naked_in_formulas, naked_places, is_naked_type, is_only, is_free}
use Rattle.tf_naked.specs.Calls.Sets.{IsSetOf, Adds}
use Rattle.tf_naked.specs.Calls.Walked.{first_side}
use Rattle.tf_naked.specs.Calls.NakedTypes.{naked_types, type_at_side}
use Rattle.tf_naked.proofs.Sets.{among-append, Adds-nothing, Adds-twice}
use Rattle.tf_naked.proofs.NakedVariables.{has_naked, equations_naked}

-- ---- what is added to a set, one after another

pub Adds-no_types : (set : TypeSet) (types : List Ty) → types ≡ [] → Adds set set types
Adds-no_types set types none = subst (Adds set set) (sym none) (Adds-nothing set)

module _ {A : Type 0} (f : A → List Ty) (items : List A) (i : ℕ) (item : A)
    (within : i < length items) (is : item ≡ get_or items i item)
  where
    joined-push : (xs : List A) (x : A) →
        joined (map f (xs ++ x ∷ [])) ≡ joined (map f xs) ++ f x
    joined-push [] x = append-nil (f x)
    joined-push (y ∷ xs) x =
        ap (λ list. f y ++ list) (joined-push xs x)
        ∙ sym (append_assoc (f y) (joined (map f xs)) (f x))

    pub Adds-more : (old mid new : TypeSet) → Adds old mid (joined (map f (take i items))) →
        Adds mid new (f item) → Adds old new (joined (map f (take (i + 1) items)))
    Adds-more old mid new first second =
        subst (Adds old new)
        (sym (ap (λ list. joined (map f list))
        (take_more items i item within ∙ ap (λ x. take i items ++ x ∷ []) (sym is))
        ∙ joined-push (take i items) item))
        (Adds-twice old mid new (joined (map f (take i items))) (f item) first second)

pub Adds-end : {A : Type 0} (f : A → List Ty) (items : List A) (i : ℕ) (old new : TypeSet) →
    length items ≤ i → Adds old new (joined (map f (take i items))) →
    Adds old new (joined (map f items))
Adds-end f items i old new ends adds =
    subst (λ list. Adds old new (joined (map f list))) (take_all i items ends) adds

-- ---- the types of equations, one after another

naked_types-append : (equations others : List Equation) →
    naked_types (equations ++ others) ≡ naked_types equations ++ naked_types others
naked_types-append [] others = refl
naked_types-append (equation ∷ equations) others =
    let first : List Ty =
    type_at_side (first_side equation.positive equation.left equation.right) equation.ty in
    ap (λ list. first ++ list) (naked_types-append equations others)
    ∙ sym (append_assoc first (naked_types equations) (naked_types others))

pub naked_types-parts : (kinds : List Kind) (parts : List Nnf) →
    naked_types (joined (map (λ part. equations_of part kinds) parts))
    ≡ joined (map (λ part. naked_types (equations_of part kinds)) parts)
naked_types-parts kinds [] = refl
naked_types-parts kinds (part ∷ parts) =
    naked_types-append (equations_of part kinds) (joined (map (λ p. equations_of p kinds) parts))
    ∙ ap (λ list. naked_types (equations_of part kinds) ++ list) (naked_types-parts kinds parts)

-- ---- the types of naked places

module _ (g : Signature) (ty : Ty) where
  one_naked : (a b : Bool) (t : Ty) →
      list_any (same_type ty) (type_at_side (cond a (Some 0) (cond b (Some 1) None)) t)
      ≡ ((a || b) && same_type ty t)
  one_naked true b t = or-false (same_type ty t)
  one_naked false true t = or-false (same_type ty t)
  one_naked false false t = refl

  types_naked : (equations : List Equation) →
      list_any (same_type ty) (naked_types equations) ≡ list_any (has_naked g ty) equations
  types_naked [] = refl
  types_naked (equation ∷ equations) =
      among-append (type_at_side (cond (equation.positive && is_universal equation.left) (Some 0)
      (cond (equation.positive && is_universal equation.right) (Some 1) None)) equation.ty)
      (naked_types equations) ty
      ∙ ap (λ b. b || list_any (same_type ty) (naked_types equations))
      (one_naked (equation.positive && is_universal equation.left)
      (equation.positive && is_universal equation.right) equation.ty)
      ∙ ap (λ b. has_naked g ty equation || b) (types_naked equations)

  formulas_naked : (number : ℕ) (formulas : List NormalFormula) →
      list_any (same_type ty)
      (joined (map (λ (formula : NormalFormula). naked_types (equations_of formula.body []))
      formulas))
      ≡ list_any (λ (naked : NakedPlace). same_type ty naked.ty) (naked_in_formulas number formulas)
  formulas_naked number [] = refl
  formulas_naked number (formula ∷ formulas) =
      among-append (naked_types (equations_of formula.body []))
      (joined (map (λ (f : NormalFormula). naked_types (equations_of f.body [])) formulas)) ty
      ∙ ap (λ b. b || list_any (same_type ty)
      (joined (map (λ (f : NormalFormula). naked_types (equations_of f.body [])) formulas)))
      (types_naked (equations_of formula.body [])
      ∙ sym (equations_naked g ty number 0 (equations_of formula.body [])))
      ∙ ap (λ b. list_any (λ (naked : NakedPlace). same_type ty naked.ty)
      (naked_in_equations number 0 (equations_of formula.body [])) || b)
      (formulas_naked (number + 1) formulas)
      ∙ sym (list_any-append (λ (naked : NakedPlace). same_type ty naked.ty)
      (naked_in_equations number 0 (equations_of formula.body []))
      (naked_in_formulas (number + 1) formulas))

pub types_of_places : (normal : Normal) (ty : Ty) →
    list_any (same_type ty)
    (joined (map (λ (formula : NormalFormula). naked_types (equations_of formula.body []))
    normal.formulas))
    ≡ is_naked_type normal ty
unfolding naked_places
types_of_places normal ty = formulas_naked normal.signature ty 0 normal.formulas

-- ---- which sorts are free

is_only-many : (ty : Ty) (types : List Ty) → (length types ≡ 1 → ⊥) → is_only ty types ≡ false
is_only-many ty [] many = refl
is_only-many ty (sort ∷ []) many =
    let one : length (sort ∷ []) ≡ 1 = omega arith in absurd (many one)
is_only-many ty (sort ∷ other ∷ types) many = refl

-- among many sorts
free_of_many : (normal : Normal) (list : List Ty) → list ≡ sorts normal →
    (length list ≡ 1 → ⊥) → (ty : Ty) → not (is_naked_type normal ty) ≡ is_free normal ty
unfolding is_free
free_of_many normal list same many ty =
    sym (ap (λ b. not (is_naked_type normal ty) || b)
    (ap (is_only ty) (sym same) ∙ is_only-many ty list many)
    ∙ or-false (not (is_naked_type normal ty)))

map_same : {A B : Type 0} (f h : A → B) → ((item : A) → f item ≡ h item) → (items : List A) →
    map f items ≡ map h items
map_same f h same [] = refl
map_same f h same (item ∷ items) =
    ap (λ x. x ∷ map f items) (same item) ∙ ap (λ list. h item ∷ list) (map_same f h same items)

pub many_free : (normal : Normal) (list : List Ty) (formulas : List NormalFormula) →
    list ≡ sorts normal → (length list ≡ 1 → ⊥) → formulas ≡ normal.formulas →
    map (λ ty. not (list_any (same_type ty)
    (joined (map (λ (f : NormalFormula). naked_types (equations_of f.body [])) formulas)))) list
    ≡ map (is_free normal) list
many_free normal list formulas same many same_formulas =
    map_same _ (is_free normal)
    (λ ty. ap (λ them. not (list_any (same_type ty)
    (joined (map (λ (f : NormalFormula). naked_types (equations_of f.body [])) them))))
    same_formulas
    ∙ ap not (types_of_places normal ty)
    ∙ free_of_many normal list same many ty) list

-- the only one
free_alone : (normal : Normal) (sort : Ty) → sort ∷ [] ≡ sorts normal → is_free normal sort ≡ true
unfolding is_free
free_alone normal sort same =
    or_right (not (is_naked_type normal sort)) (is_only sort (sorts normal))
    (ap (is_only sort) (sym same) ∙ same_type-self sort)

pub one_free : (normal : Normal) (list : List Ty) → list ≡ sorts normal → length list ≡ 1 →
    true ∷ [] ≡ map (is_free normal) list
one_free normal [] same one = absurd (omega (arith, one))
one_free normal (sort ∷ []) same one = ap (λ b. b ∷ []) (sym (free_alone normal sort same))
one_free normal (sort ∷ other ∷ types) same one = absurd (omega (arith, one))

-- ---- the types outside a set

-- each type of a list, whether it isn't among others
abbrev pub outside_of : List Ty → List Ty → List Bool
outside_of types = map (λ ty. not (list_any (same_type ty) types))

pub outside-push : (types sorts : List Ty) (i : ℕ) (sort : Ty) (free : List Bool) →
    i < length sorts → sort ≡ get_or sorts i sort → free ≡ outside_of types (take i sorts) →
    free ++ not (list_any (same_type sort) types) ∷ [] ≡ outside_of types (take (i + 1) sorts)
outside-push types sorts i sort free within is before =
    ap (λ list. list ++ not (list_any (same_type sort) types) ∷ []) before
    ∙ sym (ap (outside_of types)
    (take_more sorts i sort within ∙ ap (λ x. take i sorts ++ x ∷ []) (sym is))
    ∙ map-append (λ ty. not (list_any (same_type ty) types)) (take i sorts) (sort ∷ []))

pub outside-end : (types sorts : List Ty) (i : ℕ) (free : List Bool) → length sorts ≤ i →
    free ≡ outside_of types (take i sorts) → free ≡ outside_of types sorts
outside-end types sorts i free ends before =
    before ∙ ap (outside_of types) (take_all i sorts ends)

-- what is told by any list of a set's types, told by one
pub if_outside : {E : Type 0} (r : Result (List Bool) E) (set : TypeSet) (types list : List Ty)
    (answer : List Bool) →
    IfOk r (λ free. (held : List Ty) → IsSetOf set held → free ≡ outside_of held list) →
    IsSetOf set types → outside_of types list ≡ answer → IfOk r (λ free. free ≡ answer)
if_outside (Ok free) set types list answer tells is same = tells types is ∙ same
if_outside (Err error) set types list answer tells is same = tt
