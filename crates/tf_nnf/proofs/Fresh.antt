-- The fresh constructors: where they stand, and the members that they are.
use Rattle.std.proofs.Common.{ℕ, zero, suc, ◌+◌, ◌<◌, ◌≤◌, ◌≡◌, List, [], ◌∷◌, ◌++◌, map, length, replicate, get_or, cond, refl, sym, ap, subst, ◌∙◌, arith, ⊎_elim, inl, inr, length-append}
use Rattle.std.specs.Prelude.{slice_get, Some, ◌⊎◌}
use Rattle.std.specs.List.{range_with_len, count_by, AllByRecursion}
use Rattle.std.proofs.lemmas.List.Sums.{sum_by-cons}
use Rattle.std.proofs.lemmas.List.FromFn.{get_or-map-range_with_len, length-map-range_with_len}
use Rattle.std.proofs.lemmas.Option.{slice_get_within, slice_get-get_or, get_or_from_slice_get}
use Rattle.enc_base.specs.Tables.{EachBelow}
use Rattle.tf_core.specs.declared.signature.Constructor.{Constructor}
use Rattle.tf_core.specs.declared.signature.Signature.{Signature}
use Rattle.tf_core.specs.declared.problem.Role.{Role}
use Rattle.tf_core.specs.declared.problem.Role.TheVariants.{Hypothesis, Conjecture}
use Rattle.tf_core.specs.declared.problem.Stated.{Stated}
use Rattle.tf_core.specs.Types.{type_value}
use Rattle.tf_core.specs.Sound.{is_conjecture}
use Rattle.tf_nnf.specs.NormalForm.{conjecture_of, fresh_constructor, fresh_types, with_fresh}
use Rattle.tf_nnf.proofs.Truth.{type_value-apply}

-- items of a list with more behind

pub slice_get-left : {A : Type 0} (items more : List A) (i : ℕ) (item : A) →
    slice_get items i ≡ Some item → slice_get (items ++ more) i ≡ Some item
slice_get-left [] more i item at = cc
slice_get-left (first ∷ items) more zero item at = at
slice_get-left (first ∷ items) more (suc i) item at = slice_get-left items more i item at

pub slice_get-parts : {A : Type 0} (items more : List A) (i : ℕ) (item : A) →
    slice_get (items ++ more) i ≡ Some item →
    (slice_get items i ≡ Some item) ⊎ ((j : ℕ) × (i ≡ length items + j) × (slice_get more j ≡ Some item))
slice_get-parts [] more i item at = inr (i, omega arith, at)
slice_get-parts (first ∷ items) more zero item at = inl at
slice_get-parts (first ∷ items) more (suc i) item at =
    ⊎_elim
    (λ here. inl here)
    (λ there. inr (there.0, omega (arith, there.1), there.2))
    (slice_get-parts items more i item at)

pub slice_get-right : {A : Type 0} (items more : List A) (i j : ℕ) (item : A) →
    i ≡ length items + j → slice_get more j ≡ Some item → slice_get (items ++ more) i ≡ Some item
slice_get-right [] more i j item is at =
    let same : i ≡ j = omega (arith, is) in subst (λ k. slice_get more k ≡ Some item) (sym same) at
slice_get-right (first ∷ items) more zero j item is at = absurd (omega (arith, is))
slice_get-right (first ∷ items) more (suc i) j item is at =
    slice_get-right items more i j item (omega (arith, is)) at

-- the constructors of a signature with fresh ones

pub length-with_fresh : (g : Signature) (count : ℕ) →
    length (with_fresh g count).constructors ≡ length g.constructors + count
length-with_fresh g count =
    omega (
      arith,
      length-append g.constructors (map fresh_constructor (range_with_len 0 count)),
      length-map-range_with_len fresh_constructor 0 count,
    )

pub fresh-is : (count j : ℕ) (constructor : Constructor) →
    slice_get (map fresh_constructor (range_with_len 0 count)) j ≡ Some constructor →
    (j < count) × (constructor ≡ fresh_constructor j)
fresh-is count j constructor at =
    let fresh : List Constructor = map fresh_constructor (range_with_len 0 count) in
    let within : j < count =
    omega (arith, slice_get_within fresh j constructor at, length-map-range_with_len fresh_constructor 0 count) in (
      within,
      sym (get_or_from_slice_get fresh j constructor constructor at)
          ∙ get_or-map-range_with_len fresh_constructor 0 count j j constructor within (omega arith),
    )

pub fresh-at : (g : Signature) (count j : ℕ) → j < count →
    slice_get (with_fresh g count).constructors (length g.constructors + j) ≡ Some (fresh_constructor j)
fresh-at g count j within =
    let fresh : List Constructor = map fresh_constructor (range_with_len 0 count) in
    let inside : j < length fresh = omega (arith, length-map-range_with_len fresh_constructor 0 count) in
    slice_get-right g.constructors fresh (length g.constructors + j) j (fresh_constructor j) refl
    (slice_get-get_or fresh j (fresh_constructor j) inside
    ∙ ap Some (get_or-map-range_with_len fresh_constructor 0 count j j (fresh_constructor j) within (omega arith)))

-- the members that the fresh constructors are

pub fresh_values : (constructor_at : ℕ → List ℕ → ℕ) (first count : ℕ) (values : List ℕ) →
    count ≡ length values →
    ((i : ℕ) → i < count → constructor_at (first + i) [] ≡ get_or values i 0) →
    map (type_value constructor_at []) (fresh_types first count) ≡ values
fresh_values constructor_at first zero [] same at = refl
fresh_values constructor_at first zero (value ∷ values) same at = absurd (omega (arith, same))
fresh_values constructor_at first (suc count) [] same at = absurd (omega (arith, same))
fresh_values constructor_at first (suc count) (value ∷ values) same at =
    let here : constructor_at first [] ≡ value =
    ap (λ c. constructor_at c []) (omega arith) ∙ at 0 (omega arith) in
    ap (λ v. v ∷ map (type_value constructor_at []) (fresh_types (first + 1) count))
    (type_value-apply constructor_at [] first [] ∙ here)
    ∙ ap (λ vs. value ∷ vs)
    (fresh_values constructor_at (first + 1) count values (omega (arith, same))
    (λ i within. ap (λ c. constructor_at c []) (omega arith) ∙ at (suc i) (omega arith)))

pub fresh_below : (constructor_at : ℕ → List ℕ → ℕ) (first count bound : ℕ) →
    ((i : ℕ) → i < count → constructor_at (first + i) [] < bound) →
    EachBelow (replicate count bound) (map (type_value constructor_at []) (fresh_types first count))
fresh_below constructor_at first zero bound at = tt
fresh_below constructor_at first (suc count) bound at =
    let here : constructor_at first [] < bound =
    subst (λ c. constructor_at c [] < bound) (let same : first + 0 ≡ first = omega arith in same) (at 0 (omega arith)) in (
      omega (arith, type_value-apply constructor_at [] first [], here),
      fresh_below constructor_at (first + 1) count bound
          (λ i within. subst (λ c. constructor_at c [] < bound)
          (let same : first + suc i ≡ first + 1 + i = omega arith in same) (at (suc i) (omega arith))),
    )

pub each_at : (count bound i : ℕ) (values : List ℕ) → EachBelow (replicate count bound) values →
    i < count → get_or values i 0 < bound
each_at zero bound i values below within = absurd (omega arith)
each_at (suc count) bound i [] below within = absurd below
each_at (suc count) bound zero (value ∷ values) below within = below.0
each_at (suc count) bound (suc i) (value ∷ values) below within =
    each_at count bound i values below.1 (omega arith)

pub each_length : (count bound : ℕ) (values : List ℕ) → EachBelow (replicate count bound) values →
    count ≡ length values
each_length zero bound [] below = refl
each_length zero bound (value ∷ values) below = absurd below
each_length (suc count) bound [] below = absurd below
each_length (suc count) bound (value ∷ values) below =
    omega (arith, each_length count bound values below.1)

-- the one conjecture

pub role_cases : (role : Role) → (role ≡ Hypothesis) ⊎ (role ≡ Conjecture)
role_cases Hypothesis = inl refl
role_cases Conjecture = inr refl

pub conjecture_of-hypothesis : (stated : Stated) (formulas : List Stated) →
    stated.role ≡ Hypothesis → conjecture_of (stated ∷ formulas) ≡ conjecture_of formulas
conjecture_of-hypothesis stated formulas is =
    ap (λ role. cond (is_conjecture role) (Some stated) (conjecture_of formulas)) is

pub conjecture_of-conjecture : (stated : Stated) (formulas : List Stated) →
    stated.role ≡ Conjecture → conjecture_of (stated ∷ formulas) ≡ Some stated
conjecture_of-conjecture stated formulas is =
    ap (λ role. cond (is_conjecture role) (Some stated) (conjecture_of formulas)) is

pub all_map : {A : Type 0} (P Q : A → Type 0) → ((x : A) → P x → Q x) → (items : List A) →
    AllByRecursion P items → AllByRecursion Q items
all_map P Q one [] all = tt
all_map P Q one (item ∷ items) all = (one item all.0, all_map P Q one items all.1)

abbrev conjectures : List Stated → ℕ
conjectures formulas = count_by (λ stated. is_conjecture stated.role) formulas

conjectures-cons : (stated : Stated) (formulas : List Stated) →
    conjectures (stated ∷ formulas) ≡ cond (is_conjecture stated.role) 1 0 + conjectures formulas
conjectures-cons stated formulas =
    sum_by-cons (λ (x : Stated). cond (is_conjecture x.role) 1 0) stated formulas

no_conjecture : (formulas : List Stated) → conjectures formulas ≡ 0 →
    AllByRecursion (λ stated. stated.role ≡ Conjecture → ⊥) formulas
no_conjecture [] none = tt
no_conjecture (stated ∷ formulas) none = (
  (λ is. absurd (omega (
    arith,
    conjectures-cons stated formulas,
    ap (λ role. let count : ℕ = cond (is_conjecture role) 1 0 in count) is,
    none,
  ))),
  no_conjecture formulas (omega (arith, conjectures-cons stated formulas, none)),
)

-- each conjecture is the one that is found
pub only_conjecture : (formulas : List Stated) → conjectures formulas ≤ 1 →
    AllByRecursion (λ stated. stated.role ≡ Conjecture → conjecture_of formulas ≡ Some stated) formulas
only_conjecture [] few = tt
only_conjecture (stated ∷ formulas) few =
    ⊎_elim
    (λ is. (
      (λ other. absurd (let clash : Hypothesis ≡ Conjecture = sym is ∙ other in cc)),
      all_map (λ x. x.role ≡ Conjecture → conjecture_of formulas ≡ Some x)
          (λ x. x.role ≡ Conjecture → conjecture_of (stated ∷ formulas) ≡ Some x)
          (λ x found role. conjecture_of-hypothesis stated formulas is ∙ found role)
          formulas
          (only_conjecture formulas (omega (arith, conjectures-cons stated formulas, few))),
    ))
    (λ is. (
      (λ _. conjecture_of-conjecture stated formulas is),
      all_map (λ x. x.role ≡ Conjecture → ⊥)
          (λ x. x.role ≡ Conjecture → conjecture_of (stated ∷ formulas) ≡ Some x)
          (λ x never role. absurd (never role))
          formulas
          (no_conjecture formulas
          (omega (
            arith,
            conjectures-cons stated formulas,
            ap (λ role. let count : ℕ = cond (is_conjecture role) 1 0 in count) is,
            few,
          ))),
    ))
    (role_cases stated.role)
