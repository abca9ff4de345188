-- The guard or tag of a type: the one of all types, or that of the sort that it is.
use Rattle.std.specs.Prelude.{ℕ, ◌≡◌, List, [], ◌∷◌, length, slice_get, Some}
use Rattle.std.specs.List.{AllByRecursion}
use Rattle.std.proofs.Common.{refl, subst}
use Rattle.tf_core.specs.declared.ty.Ty.{Ty}
use Rattle.tf_core.specs.declared.normal.Normal.{Normal}
use Rattle.tf_core.specs.Typing.{IsType, AreTypes, no_types, more_types}
use Rattle.fof_models.specs.declared.formula.FofTerm.{FofTerm}
use Rattle.fof_models.specs.declared.formula.FofTerm.TheVariants as term
use Rattle.fof_models.specs.declared.formula.Fof.TheVariants as fof
use Rattle.tf_naked.specs.SortLaws.{IsSort, AreSorts}
use Rattle.enc_marks.specs.declared.choices.Marking.{Marking}
use Rattle.enc_marks.specs.declared.choices.Marking.TheVariants.{ByType, BySort}
use Rattle.enc_marks.specs.Choices.{Choices}
use Rattle.enc_marks.specs.Translation.{Numbers, type_term, tag_by, guard_by}
use Rattle.enc_marks.specs.Encoded.{MarkedSymbol, is_guard, all_numbers, all_marks, shared_mark, sort_mark}
use Rattle.enc_marks.proofs.SoundMarks.{sort_number, shared-at, sort-at}

-- ---- its number, and what it is applied to

abbrev pub own_number : Marking → Numbers → Ty → ℕ
own_number ByType k ty = k.shared
own_number BySort k ty = k.sort ty

abbrev pub own_arguments : Marking → Numbers → ℕ → Ty → FofTerm → List FofTerm
own_arguments ByType k depth ty t = type_term k.constructor depth ty ∷ t ∷ []
own_arguments BySort k depth ty t = t ∷ []

pub tag_by-own : (marking : Marking) (k : Numbers) (depth : ℕ) (ty : Ty) (t : FofTerm) →
    tag_by marking k depth ty t
    ≡ term.Apply (own_number marking k ty) (own_arguments marking k depth ty t)
tag_by-own ByType k depth ty t = refl
tag_by-own BySort k depth ty t = refl

pub guard_by-own : (marking : Marking) (k : Numbers) (depth : ℕ) (ty : Ty) (t : FofTerm) →
    guard_by marking k depth ty t
    ≡ fof.Atom (own_number marking k ty) (own_arguments marking k depth ty t)
guard_by-own ByType k depth ty t = refl
guard_by-own BySort k depth ty t = refl

abbrev pub own_mark : Marking → Normal → Choices → Ty → MarkedSymbol
own_mark ByType normal c ty = shared_mark c.binding
own_mark BySort normal c ty = sort_mark normal c.binding (sort_number c normal ty) ty

-- ---- types that have one

-- Under so many type variables the type has a guard or tag: where one is for all types the type is
-- formed, and where each sort has its own it is a sort.
abbrev pub MarkedBy : Marking → Normal → ℕ → Ty → Type 0
MarkedBy ByType normal variables ty = IsType normal.signature variables ty
MarkedBy BySort normal variables ty = IsSort normal ty

abbrev pub HasMark : Choices → Normal → ℕ → Ty → Type 0
HasMark c normal variables ty = MarkedBy c.marking normal variables ty

abbrev pub HaveMarks : Choices → Normal → ℕ → List Ty → Type 0
HaveMarks c normal variables = AllByRecursion (HasMark c normal variables)

-- a type that is formed has one, if it is a sort where sorts have marks of their own
pub type_marked : (marking : Marking) (normal : Normal) (variables : ℕ) (ty : Ty) →
    IsType normal.signature variables ty → (marking ≡ BySort → IsSort normal ty) →
    MarkedBy marking normal variables ty
type_marked ByType normal variables ty formed sort = formed
type_marked BySort normal variables ty formed sort = sort refl

pub types_marked : (marking : Marking) (normal : Normal) (variables : ℕ) (types : List Ty) →
    AreTypes normal.signature variables types → (marking ≡ BySort → AreSorts normal types) →
    AllByRecursion (MarkedBy marking normal variables) types
types_marked marking normal variables types no_types sorted = tt
types_marked marking normal variables types (more_types ty others first rest) sorted = (
  type_marked marking normal variables ty first (λ by_sort. (sorted by_sort).0),
  types_marked marking normal variables others rest (λ by_sort. (sorted by_sort).1),
)

-- types that have one are sorts where sorts have their own
pub marked_sorts : (c : Choices) (normal : Normal) (variables : ℕ) (types : List Ty) →
    HaveMarks c normal variables types → c.marking ≡ BySort → AreSorts normal types
marked_sorts c normal variables types all by_sort =
    subst (λ marking. AllByRecursion (MarkedBy marking normal variables) types) by_sort all

-- ---- where it stands

pub own_mark-at : (c : Choices) (normal : Normal) (variables : ℕ) (ty : Ty) →
    HasMark c normal variables ty →
    slice_get (all_marks c normal) (own_number c.marking (all_numbers normal) ty)
    ≡ Some (own_mark c.marking normal c ty)
own_mark-at c normal variables ty = by c.marking refl
  where
    by : (marking : Marking) → c.marking ≡ marking → MarkedBy marking normal variables ty →
        slice_get (all_marks c normal) (own_number marking (all_numbers normal) ty)
        ≡ Some (own_mark marking normal c ty)
    by ByType is marked = shared-at c normal is
    by BySort is marked = sort-at c normal is ty marked

pub own_mark-kind : (marking : Marking) (normal : Normal) (c : Choices) (ty : Ty) →
    (own_mark marking normal c ty).symbol.predicate ≡ is_guard c.binding
own_mark-kind ByType normal c ty = refl
own_mark-kind BySort normal c ty = refl

pub own_mark-arity : (marking : Marking) (normal : Normal) (c : Choices) (k : Numbers) (depth : ℕ)
    (ty : Ty) (t : FofTerm) →
    (own_mark marking normal c ty).symbol.arity ≡ length (own_arguments marking k depth ty t)
own_mark-arity ByType normal c k depth ty t = refl
own_mark-arity BySort normal c k depth ty t = refl
