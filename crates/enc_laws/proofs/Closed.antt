-- Closed formulas, conclusions under premises, and the assignments that binders make.
use Rattle.std.specs.Prelude.{ℕ, zero, suc, ◌+◌, ◌-◌, ◌<◌, ◌≤◌, ◌≡◌, true, List, [], ◌∷◌, ◌++◌, map, length, replicate, slice_index, IsTrue}
use Rattle.std.specs.List.{AllByRecursion, list_all, range_with_len}
use Rattle.std.proofs.Common.{refl, sym, ap, ◌∙◌, subst, arith}
use Rattle.std.proofs.lemmas.Bool.{and_parts, and_from}
use Rattle.enc_base.specs.Tables.{EachBelow}
use Rattle.enc_base.proofs.Quantifiers.{all_below-at, all_below-from}
use Rattle.tf_core.specs.declared.ty.Ty.{Ty}
use Rattle.tf_core.specs.declared.ty.Ty.TheVariants as type
use Rattle.tf_core.specs.declared.signature.Signature.{Signature}
use Rattle.tf_core.specs.Types.{type_value}
use Rattle.tf_core.specs.Typing.{type_variable, AreTypes, no_types, more_types}
use Rattle.tf_core.proofs.Types.{type_value-variable}
use Rattle.fof_models.specs.declared.formula.Fof.{Fof}
use Rattle.fof_models.specs.declared.formula.Fof.TheVariants as fof
use Rattle.fof_models.specs.Structures.{Untyped}
use Rattle.fof_models.specs.Truth.{truth}
use Rattle.fof_models.proofs.Truth.{truth-and, truth-implies, truth-for_all}
use Rattle.enc_marks.specs.Axioms.{closed, under}
use Rattle.enc_laws.specs.Relations.{Relations, AreRelated, none_related, more_related, TypesAre}
use Rattle.enc_laws.proofs.Literals.{implies_from, implied}

-- the assignment that quantifiers make, the outermost's element first
abbrev pub bound : List ℕ → List ℕ → List ℕ
bound [] assignment = assignment
bound (u ∷ us) assignment = bound us (u ∷ assignment)

pub closed_from : (j : Untyped) (count : ℕ) (p : Fof) (assignment : List ℕ) →
    ((us : List ℕ) → EachBelow (replicate count j.size) us →
    IsTrue (truth j p (bound us assignment))) →
    IsTrue (truth j (closed count p) assignment)
closed_from j zero p assignment each = each [] tt
closed_from j (suc count) p assignment each =
    truth-for_all j (closed count p) assignment
    ∙ all_below-from j.size (λ e. truth j (closed count p) (e ∷ assignment)) (λ e within.
    closed_from j count p (e ∷ assignment) (λ us below. each (e ∷ us) (within, below)))

pub closed_at : (j : Untyped) (count : ℕ) (p : Fof) (assignment us : List ℕ) →
    IsTrue (truth j (closed count p) assignment) → EachBelow (replicate count j.size) us →
    IsTrue (truth j p (bound us assignment))
closed_at j zero p assignment [] h below = h
closed_at j zero p assignment (u ∷ us) h below = absurd below
closed_at j (suc count) p assignment [] h below = absurd below
closed_at j (suc count) p assignment (u ∷ us) h below =
    closed_at j count p (u ∷ assignment) us
    (all_below-at j.size (λ e. truth j (closed count p) (e ∷ assignment))
    (sym (truth-for_all j (closed count p) assignment) ∙ h) u below.0) below.1

pub under_from : (j : Untyped) (premises : List Fof) (q : Fof) (assignment : List ℕ) →
    (IsTrue (list_all (λ p. truth j p assignment) premises) → IsTrue (truth j q assignment)) →
    IsTrue (truth j (under premises q) assignment)
under_from j [] q assignment h = h refl
under_from j (p ∷ []) q assignment h =
    truth-implies j p q assignment ∙ implies_from _ _ (λ e. h (and_from _ true e refl))
under_from j (p ∷ second ∷ premises) q assignment h =
    truth-implies j (fof.And (p ∷ second ∷ premises)) q assignment
    ∙ implies_from _ _ (λ e. h (sym (truth-and j (p ∷ second ∷ premises) assignment) ∙ e))

pub under_at : (j : Untyped) (premises : List Fof) (q : Fof) (assignment : List ℕ) →
    IsTrue (truth j (under premises q) assignment) →
    IsTrue (list_all (λ p. truth j p assignment) premises) → IsTrue (truth j q assignment)
under_at j [] q assignment h all = h
under_at j (p ∷ []) q assignment h all =
    implied _ _ (and_parts _ _ all).0 (sym (truth-implies j p q assignment) ∙ h)
under_at j (p ∷ second ∷ premises) q assignment h all =
    implied _ _ (truth-and j (p ∷ second ∷ premises) assignment ∙ all)
    (sym (truth-implies j (fof.And (p ∷ second ∷ premises)) q assignment) ∙ h)

pub EachBelow-at : (bound' count : ℕ) (us : List ℕ) → EachBelow (replicate count bound') us →
    (i : ℕ) → i < count → slice_index us i < bound'
EachBelow-at bound' zero us below i within = absurd (omega arith)
EachBelow-at bound' (suc count) [] below i within = absurd below
EachBelow-at bound' (suc count) (u ∷ us) below zero within = below.0
EachBelow-at bound' (suc count) (u ∷ us) below (suc i) within =
    EachBelow-at bound' count us below.1 i (omega arith)

-- behind the new ones stand the old
pub bound-past : (us assignment : List ℕ) (i : ℕ) →
    slice_index (bound us assignment) (length us + i) ≡ slice_index assignment i
bound-past [] assignment i = ap (slice_index assignment) (omega arith)
bound-past (u ∷ us) assignment i =
    let e : length (u ∷ us) + i ≡ length us + suc i = omega arith in
    ap (slice_index (bound us (u ∷ assignment))) e ∙ bound-past us (u ∷ assignment) (suc i)

pub bound-at : (us assignment : List ℕ) (i : ℕ) → i < length us →
    slice_index (bound us assignment) (length us - (i + 1)) ≡ slice_index us i
bound-at [] assignment i within = absurd (omega arith)
bound-at (u ∷ us) assignment zero within =
    let e : length (u ∷ us) - (0 + 1) ≡ length us + 0 = omega arith in
    ap (slice_index (bound us (u ∷ assignment))) e ∙ bound-past us (u ∷ assignment) 0
bound-at (u ∷ us) assignment (suc i) within =
    let e : length (u ∷ us) - (suc i + 1) ≡ length us - (i + 1) = omega arith in
    ap (slice_index (bound us (u ∷ assignment))) e ∙ bound-at us (u ∷ assignment) i (omega arith)

pub AreRelated-at : (R : ℕ → ℕ → Type 0) (values members : List ℕ) → AreRelated R values members →
    (i : ℕ) → i < length values → R (slice_index values i) (slice_index members i)
AreRelated-at R values members none_related i within = absurd (omega arith)
AreRelated-at R values members (more_related v m others rest h hs) zero within = h
AreRelated-at R values members (more_related v m others rest h hs) (suc i) within =
    AreRelated-at R others rest hs i (omega arith)

-- The outermost binders' numbers are read as the members, also behind further binders.
pub TypesAre-bound : (r : Relations) (variables count : ℕ) (us values members : List ℕ) →
    variables ≡ length us → count ≡ length values → AreRelated r.member us members →
    TypesAre r variables (variables + count) members (bound values (bound us []))
TypesAre-bound r variables count us values members all_us all_values related = record {
  deep = omega arith;
  is = λ i within.
      let e : variables + count - (i + 1) ≡ length values + (length us - (i + 1)) =
      omega (arith, all_us, all_values, within) in
      let at : slice_index (bound values (bound us [])) (variables + count - (i + 1))
      ≡ slice_index us i =
      ap (slice_index (bound values (bound us []))) e
      ∙ bound-past values (bound us []) (length us - (i + 1))
      ∙ bound-at us [] i (omega (arith, within, all_us)) in
      subst (λ x. r.member x (slice_index members i)) (sym at)
      (AreRelated-at r.member us members related i (omega (arith, within, all_us)));
}

-- the same of the outermost binders alone
pub TypesAre-outermost : (r : Relations) (variables : ℕ) (us members : List ℕ) →
    variables ≡ length us → AreRelated r.member us members →
    TypesAre r variables variables members (bound us [])
TypesAre-outermost r variables us members all related =
    let e : variables + 0 ≡ variables = omega arith in
    subst (λ depth. TypesAre r variables depth members (bound us [])) e
    (TypesAre-bound r variables 0 us [] members all refl related)

pub all-append : {A : Type 0} (P : A → Type 0) (items others : List A) → AllByRecursion P items →
    AllByRecursion P others → AllByRecursion P (items ++ others)
all-append P [] others h i = i
all-append P (item ∷ items) others h i = (h.0, all-append P items others h.1 i)

pub all-before : {A : Type 0} (P : A → Type 0) (items others : List A) →
    AllByRecursion P (items ++ others) → AllByRecursion P items
all-before P [] others h = tt
all-before P (item ∷ items) others h = (h.0, all-before P items others h.1)

pub all-behind : {A : Type 0} (P : A → Type 0) (items others : List A) →
    AllByRecursion P (items ++ others) → AllByRecursion P others
all-behind P [] others h = h
all-behind P (item ∷ items) others h = all-behind P items others h.1

-- type variables from some number on, as types

abbrev pub types_from : ℕ → ℕ → List Ty
types_from first count = map type.Var (range_with_len first count)

pub AreTypes-from_variable : (g : Signature) (variables first count : ℕ) →
    first + count ≤ variables → AreTypes g variables (types_from first count)
AreTypes-from_variable g variables first zero within = no_types
AreTypes-from_variable g variables first (suc count) within =
    more_types _ _ (type_variable first (omega arith))
    (AreTypes-from_variable g variables (first + 1) count (omega arith))

slice_index-past : (before after : List ℕ) (y i : ℕ) → length before ≡ i →
    slice_index (before ++ y ∷ after) i ≡ y
slice_index-past [] after y zero e = refl
slice_index-past [] after y (suc i) e = absurd (omega (arith, e))
slice_index-past (x ∷ before) after y zero e = absurd (omega (arith, e))
slice_index-past (x ∷ before) after y (suc i) e = slice_index-past before after y i
    (omega (arith, e))

append-one : (before after : List ℕ) (y : ℕ) → (before ++ y ∷ []) ++ after ≡ before ++ y ∷ after
append-one [] after y = refl
append-one (x ∷ before) after y = ap (λ l. x ∷ l) (append-one before after y)

length-one : (before : List ℕ) (y : ℕ) → length (before ++ y ∷ []) ≡ length before + 1
length-one [] y = omega arith
length-one (x ∷ before) y = omega (arith, length-one before y)

type_values-from : (constructor_at : ℕ → List ℕ → ℕ) (count first : ℕ) (before members : List ℕ) →
    length before ≡ first → length members ≡ count →
    map (type_value constructor_at (before ++ members)) (types_from first count) ≡ members
type_values-from constructor_at zero first before [] e f = refl
type_values-from constructor_at zero first before (m ∷ members) e f = absurd (omega (arith, f))
type_values-from constructor_at (suc count) first before [] e f = absurd (omega (arith, f))
type_values-from constructor_at (suc count) first before (m ∷ members) e f =
    ap (λ z. z ∷ map (type_value constructor_at (before ++ m ∷ members))
    (types_from (first + 1) count))
    (type_value-variable constructor_at (before ++ m ∷ members) first
    ∙ slice_index-past before members m first e)
    ∙ ap (λ l. m ∷ l)
    (ap (λ l. map (type_value constructor_at l) (types_from (first + 1) count))
    (sym (append-one before members m))
    ∙ type_values-from constructor_at count (first + 1) (before ++ m ∷ []) members
    (omega (arith, e, length-one before m)) (omega (arith, f)))

-- a symbol's parameters are the members for them
pub type_values-own : (constructor_at : ℕ → List ℕ → ℕ) (count : ℕ) (members : List ℕ) →
    length members ≡ count → map (type_value constructor_at members) (types_from 0 count) ≡ members
type_values-own constructor_at count members all =
    type_values-from constructor_at count 0 [] members refl all
