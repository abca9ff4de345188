-- Which argument places are covers: what the first place that passes a test says.
use Rattle.std.specs.Prelude.{ℕ, zero, suc, ◌+◌, ◌<◌, ◌≤◌, ◌≡◌, Bool, true, false, not, cond, List, [], ◌∷◌, length, map, eqb, ltb, get_or, is_none, unwrap_or, position, Option, Some, None, IsTrue, ◌↔◌}
use Rattle.std.specs.List.{list_any, position_or_len}
use Rattle.std.proofs.Common.{refl, sym, ap, ◌∙◌, arith, ⊎_elim, eq-eqb}
use Rattle.std.proofs.lemmas.Bool.{cases_lt, or_parts, or_from, false≢true}
use Rattle.std.proofs.lemmas.List.{get_or_past, get_or-map, length-map}
use Rattle.std.proofs.lemmas.List.Sums.{position_or_len_is}
use Rattle.std.proofs.lemmas.List.Quantifiers.{position-Some}
use Rattle.tf_core.specs.declared.ty.Ty.{Ty}
use Rattle.tf_core.specs.declared.signature.Symbol.{Symbol}
use Rattle.tf_naked.specs.Covers.{parameter_of, first_places, is_parameter, covers, cover_of, argument_parameters}

-- whether there is a first place that passes

position_within-by : {A : Type 0} (test : A → Bool) (item : A) (items : List A) (passes : Bool) →
    test item ≡ passes →
    ltb (position_or_len test items) (length items) ≡ list_any test items →
    ltb (position_or_len test (item ∷ items)) (length (item ∷ items)) ≡ list_any test (item ∷ items)
position_within-by test item items true is others =
    rw is (let first : ltb 0 (suc (length items)) ≡ true = grind arith in first)
position_within-by test item items false is others =
    rw is
    ((let more : ltb (1 + position_or_len test items) (suc (length items))
    ≡ ltb (position_or_len test items) (length items) = grind arith in more)
    ∙ others)

position_within : {A : Type 0} (test : A → Bool) (items : List A) →
    ltb (position_or_len test items) (length items) ≡ list_any test items
position_within test [] = refl
position_within test (item ∷ items) =
    position_within-by test item items (test item) refl (position_within test items)

is_none-cond : (b : Bool) (n : ℕ) → is_none (cond b (Some n) None) ≡ not b
is_none-cond true n = refl
is_none-cond false n = refl

pub is_none-position : {A : Type 0} (test : A → Bool) (items : List A) →
    is_none (position test items) ≡ not (list_any test items)
is_none-position test items =
    is_none-cond (ltb (position_or_len test items) (length items)) (position_or_len test items)
    ∙ ap not (position_within test items)

-- the marked places

-- the parameter at place i is p, and none before it is
record IsFirst (p i : ℕ) (parameters : List (Option ℕ)) : Type 0 where
  at : get_or parameters i None ≡ Some p
  before : (k : ℕ) → k < i → is_parameter p (get_or parameters k None) ≡ false

first_places-marked : (earlier : List ℕ) (parameters : List (Option ℕ)) (i : ℕ) →
    IsTrue (get_or (first_places earlier parameters) i false) →
    (p : ℕ) × (list_any (eqb p) earlier ≡ false) × IsFirst p i parameters
first_places-marked earlier [] i marked = absurd (false≢true marked)
first_places-marked earlier (None ∷ parameters) zero marked = absurd (false≢true marked)
first_places-marked earlier (None ∷ parameters) (suc i) marked =
    let found = first_places-marked earlier parameters i marked in
    (found.0, found.1, record { at = found.2.at; before = before found.0 found.2.before })
  where
    before : (p : ℕ) → ((k : ℕ) → k < i → is_parameter p (get_or parameters k None) ≡ false) →
        (k : ℕ) → k < suc i → is_parameter p (get_or (None ∷ parameters) k None) ≡ false
    before p others zero within = refl
    before p others (suc k) within = others k (omega arith)
first_places-marked earlier (Some q ∷ parameters) zero marked = (
  q,
  not_true (list_any (eqb q) earlier) marked,
  record { at = refl; before = λ k within. absurd (omega arith) },
)
  where
    not_true : (b : Bool) → IsTrue (not b) → b ≡ false
    not_true true is = absurd (false≢true is)
    not_true false is = refl
first_places-marked earlier (Some q ∷ parameters) (suc i) marked =
    let found = first_places-marked (q ∷ earlier) parameters i marked in
    let differs = or_parts (eqb found.0 q) (list_any (eqb found.0) earlier) found.1 in (
      found.0,
      differs.1,
      record { at = found.2.at; before = before found.0 differs.0 found.2.before },
    )
  where
    before : (p : ℕ) → eqb p q ≡ false →
        ((k : ℕ) → k < i → is_parameter p (get_or parameters k None) ≡ false) →
        (k : ℕ) → k < suc i → is_parameter p (get_or (Some q ∷ parameters) k None) ≡ false
    before p differs others zero within = differs
    before p differs others (suc k) within = others k (omega arith)

some_is : (q p : ℕ) → Some q ≡ Some p → q ≡ p
some_is q p is = ap (λ x. unwrap_or x q) is

first_places-from : (earlier : List ℕ) (parameters : List (Option ℕ)) (i p : ℕ) →
    list_any (eqb p) earlier ≡ false → IsFirst p i parameters →
    IsTrue (get_or (first_places earlier parameters) i false)
first_places-from earlier [] i p new first = grind (arith, first.at)
first_places-from earlier (None ∷ parameters) zero p new first = grind (arith, first.at)
first_places-from earlier (None ∷ parameters) (suc i) p new first =
    first_places-from earlier parameters i p new
    (record { at = first.at; before = λ k within. first.before (suc k) (omega arith) })
first_places-from earlier (Some q ∷ parameters) zero p new first =
    ap not (ap (λ n. list_any (eqb n) earlier) (some_is q p first.at) ∙ new)
first_places-from earlier (Some q ∷ parameters) (suc i) p new first =
    first_places-from (q ∷ earlier) parameters i p
    (or_from (eqb p q) (list_any (eqb p) earlier) (first.before 0 (omega arith)) new)
    (record { at = first.at; before = λ k within. first.before (suc k) (omega arith) })

is_parameter-true : (p : ℕ) (parameter : Option ℕ) → is_parameter p parameter ≡ true →
    parameter ≡ Some p
is_parameter-true p None is = absurd (false≢true is)
is_parameter-true p (Some q) is =
    let same : q ≡ p = grind (arith, is) in ap Some same

position-first : (p i : ℕ) (parameters : List (Option ℕ)) → IsFirst p i parameters →
    position (is_parameter p) parameters ≡ Some i
position-first p i parameters first =
    ap (λ n. cond (ltb n (length parameters)) (Some n) None)
    (position_or_len_is (is_parameter p) parameters i None (omega (arith, within)) first.before
    (λ more. ap (is_parameter p) first.at ∙ eq-eqb p p refl))
    ∙ ap (λ b. cond b (Some i) None) (let less : ltb i (length parameters) ≡ true =
    grind (arith, within) in less)
  where
    within : i < length parameters
    within =
        ⊎_elim (λ less. less)
        (λ past. absurd (none_some (sym (get_or_past parameters i None past) ∙ first.at)))
        (cases_lt i (length parameters))
      where
        none_some : None ≡ Some p → ⊥
        none_some is = grind (arith, is)

position-is_first : (p i : ℕ) (parameters : List (Option ℕ)) →
    position (is_parameter p) parameters ≡ Some i → IsFirst p i parameters
position-is_first p i parameters is =
    let found = position-Some (is_parameter p) parameters i None is in
    record {
      at = is_parameter-true p (get_or parameters i None) found.1;
      before = found.2;
    }

-- the parameter that the type at a place is
pub parameter_at : (items : List Ty) (i : ℕ) (ty : Ty) → i < length items →
    ty ≡ get_or items i ty → get_or (map parameter_of items) i None ≡ parameter_of ty
parameter_at items i ty within is =
    get_or-map parameter_of items i ty None within ∙ ap parameter_of (sym is)

pub position-at : (p i : ℕ) (items : List Ty) (ty : Ty) → i < length items →
    ty ≡ get_or items i ty → is_parameter p (parameter_of ty) ≡ true →
    ((k : ℕ) → k < i → is_parameter p (get_or (map parameter_of items) k None) ≡ false) →
    position (is_parameter p) (map parameter_of items) ≡ Some i
position-at p i items ty within is passes before =
    position-first p i (map parameter_of items)
    (record {
      at = parameter_at items i ty within is ∙ is_parameter-true p (parameter_of ty) passes;
      before = before;
    })

pub position-none : (p i : ℕ) (items : List Ty) → i ≤ length items → length items ≤ i →
    ((k : ℕ) → k < i → is_parameter p (get_or (map parameter_of items) k None) ≡ false) →
    position (is_parameter p) (map parameter_of items) ≡ None
position-none p i items within ends before =
    ap (λ n. cond (ltb n (length (map parameter_of items))) (Some n) None)
    (position_or_len_is (is_parameter p) (map parameter_of items) i None
    (omega (arith, within, length-map items parameter_of)) before
    (λ more. absurd (omega (arith, more, ends, length-map items parameter_of))))
    ∙ ap (λ b. cond b (Some i) None) (let past : ltb i (length (map parameter_of items)) ≡ false =
    grind (arith, ends, length-map items parameter_of) in past)

pub covers-marked : (symbol : Symbol) (i : ℕ) →
    IsTrue (get_or (covers symbol) i false)
    ↔ ((p : ℕ) × (cover_of symbol p ≡ Some i))
covers-marked symbol i = (
  λ marked.
      let found = first_places-marked [] (argument_parameters symbol) i marked in
      (found.0, position-first found.0 i (argument_parameters symbol) found.2),
  λ found. first_places-from [] (argument_parameters symbol) i found.0 refl
      (position-is_first found.0 i (argument_parameters symbol) found.1),
)
