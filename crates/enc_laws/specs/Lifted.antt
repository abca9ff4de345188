-- The typed structure that is read from an untyped one: its members are numbers, and the elements
-- of a member are those numbers of the domain that it picks, under their ranks.
use Rattle.std.specs.Prelude.{ℕ, ◌<◌, ◌≡◌, Bool, true, List, [], ◌∷◌, ◌++◌, map, length, cond, eqb}
use Rattle.std.specs.Prelude.{get_or, position, slice_get, unwrap_or, Option, Some, None}
use Rattle.enc_base.specs.Quantifiers.{some_below}
use Rattle.tf_core.specs.declared.ty.Ty.{Ty}
use Rattle.tf_core.specs.declared.ty.Ty.TheVariants as type
use Rattle.tf_core.specs.declared.signature.Constructor.{Constructor}
use Rattle.tf_core.specs.declared.signature.Symbol.{Symbol}
use Rattle.tf_core.specs.declared.signature.Signature.{Signature}
use Rattle.tf_core.specs.declared.normal.Normal.{Normal}
use Rattle.tf_core.specs.Sorts.{sorts}
use Rattle.tf_core.specs.Types.{same_type, type_value}
use Rattle.tf_core.specs.Structures.{Typed}
use Rattle.fof_models.specs.Structures.{Untyped}
use Rattle.tf_naked.specs.Naked.{is_free}
use Rattle.enc_marks.specs.declared.choices.Marking.{Marking}
use Rattle.enc_marks.specs.declared.choices.Marking.TheVariants.{ByType, BySort}
use Rattle.enc_marks.specs.declared.choices.Elements.{Elements}
use Rattle.enc_marks.specs.declared.choices.Elements.TheVariants.{Guarded, Image, Fixed, All}
use Rattle.enc_marks.specs.Choices.{Choices}
use Rattle.enc_marks.specs.Translation.{Numbers, selected}
use Rattle.enc_marks.specs.Occurrence.{count_below}
use Rattle.enc_laws.specs.Ranks.{nth, listed}

-- How many members there are, what the constructors give, which numbers are elements of a member,
-- and as what a number is read in a member.
pub record Lift : Type 0 where
  pub members : ℕ
  pub constructor_at : ℕ → List ℕ → ℕ
  pub picks : ℕ → ℕ → Bool
  pub into : ℕ → ℕ → ℕ

-- the numbers that elements of members stand for
abbrev pub numbers_of : Lift → ℕ → List ℕ → List ℕ → List ℕ
numbers_of l size [] elements = []
numbers_of l size (m ∷ members) [] = []
numbers_of l size (m ∷ members) (e ∷ elements) =
    nth size (l.picks m) e ∷ numbers_of l size members elements

-- a function's value is the rank of what its entry is read as in the result's member, and a
-- predicate's is its entry
abbrev pub lifted_value : Lift → List ℕ → Option Ty → ℕ → ℕ
lifted_value l members None v = v
lifted_value l members (Some ty) v =
    count_below (l.into (type_value l.constructor_at members ty) v)
    (l.picks (type_value l.constructor_at members ty))

-- What a symbol gives for members and elements. One that doesn't occur gives zeros.
abbrev pub lifted_at : Choices → Numbers → (ℕ → Bool) → Untyped → Lift → ℕ → Option Symbol
    → List ℕ → List ℕ → ℕ
lifted_at c k present j l f None members elements = 0
lifted_at c k present j l f (Some symbol) members elements =
    cond (present (k.symbol f))
    (lifted_value l members symbol.result
    (j.symbol_at (k.symbol f) (selected (c.keeps symbol) members
    ++ numbers_of l j.size (map (type_value l.constructor_at members) symbol.arguments) elements)))
    0

-- the typed structure, of an untyped one over all marked symbols, of which these occur
abbrev pub lifted : Choices → Numbers → Signature → (ℕ → Bool) → Untyped → Lift → Typed
lifted c k g present j l = record {
  sizes = listed l.members 0 (λ m. count_below j.size (l.picks m));
  constructor_at = l.constructor_at;
  symbol_at = λ f. lifted_at c k present j l f (slice_get g.symbols f);
}

-- ---- how a structure is lifted, by the choices of a scheme

-- whether a number of the domain is an element of a member, by what the member's mark gives
abbrev pub is_element : Elements → ℕ → (ℕ → ℕ) → ℕ → Bool
is_element Guarded size mark v = eqb (mark v) 1
is_element Image size mark v = some_below size (λ x. eqb (mark x) v)
is_element Fixed size mark v = eqb (mark v) v
is_element All size mark v = true

-- what a number is read as in a member
abbrev pub read_as : Elements → (ℕ → ℕ) → ℕ → ℕ
read_as Guarded mark v = v
read_as Image mark v = mark v
read_as Fixed mark v = v
read_as All mark v = v

-- the mark of a member, where the guard or tag of all types has the member as its first argument
abbrev pub type_mark : Numbers → Untyped → ℕ → ℕ → ℕ
type_mark k j m v = j.symbol_at k.shared (m ∷ v ∷ [])

-- Each number is a member.
abbrev pub lift_by_type : Choices → Numbers → Untyped → Lift
lift_by_type c k j = record {
  members = j.size;
  constructor_at = λ i members. j.symbol_at (k.constructor i) members;
  picks = λ m v. is_element c.elements j.size (type_mark k j m) v;
  into = λ m v. read_as c.elements (type_mark k j m) v;
}

-- the mark of a sort
abbrev pub mark_of_sort : Numbers → Untyped → Ty → ℕ → ℕ
mark_of_sort k j sort v = j.symbol_at (k.sort sort) (v ∷ [])

-- all numbers are elements of a free sort
abbrev pub elements_in : Choices → Normal → Ty → Elements
elements_in c normal sort = cond (is_free normal sort) All c.elements

-- the m-th sort
abbrev pub sort_at : Normal → ℕ → Ty
sort_at normal m = get_or (sorts normal) m (type.Var 0)

-- the number of the sort that a constructor forms from sorts, or 0 where that is no sort
abbrev pub formed_sort : Normal → ℕ → List ℕ → ℕ
formed_sort normal i members =
    unwrap_or (position (same_type (type.Apply i (map (sort_at normal) members))) (sorts normal)) 0

-- Each sort is a member.
abbrev pub lift_by_sort : Choices → Normal → Numbers → Untyped → Lift
lift_by_sort c normal k j = record {
  members = length (sorts normal);
  constructor_at = formed_sort normal;
  picks = λ m v. is_element (elements_in c normal (sort_at normal m)) j.size
      (mark_of_sort k j (sort_at normal m)) v;
  into = λ m v. read_as (elements_in c normal (sort_at normal m))
      (mark_of_sort k j (sort_at normal m)) v;
}

abbrev pub lift_by : Marking → Choices → Normal → Numbers → Untyped → Lift
lift_by ByType c normal k j = lift_by_type c k j
lift_by BySort c normal k j = lift_by_sort c normal k j

-- constructors and functions give numbers of the domain, whatever they are applied to
pub record IsClosed (k : Numbers) (g : Signature) (j : Untyped) : Type 0 where
  pub inhabited : 0 < j.size
  pub constructors : (i : ℕ) (constructor : Constructor) (values : List ℕ) →
      slice_get g.constructors i ≡ Some constructor →
      j.symbol_at (k.constructor i) values < j.size
  pub functions : (f : ℕ) (symbol : Symbol) (ty : Ty) (values : List ℕ) →
      slice_get g.symbols f ≡ Some symbol → symbol.result ≡ Some ty →
      j.symbol_at (k.symbol f) values < j.size
