-- For private calls: what is found once of the argument places of symbols.
use Rattle.std.specs.Prelude.{ℕ, ◌≡◌, ◌∷◌, [], List, Bool, false, slice_get, Some, IsTrue}
use Rattle.tf_core.specs.declared.ty.Ty.{Ty}
use Rattle.tf_core.specs.declared.signature.Symbol.{Symbol}
use Rattle.tf_core.specs.declared.normal.Normal.{Normal}
use Rattle.tf_core.specs.Sorts.{sorts}
use Rattle.tf_core.specs.Types.{instantiate, same_type}
use Rattle.tf_naked.specs.Covers.{covers}
use Rattle.tf_naked.specs.declared.position.Position.TheVariants.{Argument}
use Rattle.tf_naked.specs.declared.position.Kind.{Kind}
use Rattle.tf_naked.specs.declared.position.Kind.TheVariants.{Universal, Existential, Applied}
use Rattle.fof_models.specs.declared.formula.FofTerm.{FofTerm}
use Rattle.enc_marks.specs.declared.choices.Marking.{Marking}
use Rattle.enc_marks.specs.declared.choices.Marking.TheVariants.{ByType, BySort}
use Rattle.enc_marks.specs.declared.type_marks.Marks.{Marks}
use Rattle.enc_marks.specs.declared.type_marks.Marks.TheVariants.{Shared, Sorts}
use Rattle.enc_marks.specs.declared.slot.Slot.{Slot}
use Rattle.enc_marks.specs.Choices.{Choices}
use Rattle.enc_marks.specs.Encoded.{all_numbers}
use Rattle.enc_marks.specs.Translation.{Numbers, type_term}

-- whether the guards or tags are one of all types, or one for each sort
abbrev pub marking_of : Marks → Marking
marking_of Shared = ByType
marking_of (Sorts table) = BySort

-- the sorts that have guards or tags of their own: where there are such, those of the table
abbrev pub listed : Normal → Marks → List Ty
listed normal Shared = sorts normal
listed normal (Sorts table) = table.now

-- the sorts are those of the problem
abbrev pub AreMarks : Normal → Marks → Type 0
AreMarks normal marks = listed normal marks ≡ sorts normal

-- the number of the guard or tag of a type
abbrev pub mark_number : Marking → Numbers → Ty → ℕ
mark_number ByType k ty = k.shared
mark_number BySort k ty = k.sort ty

-- what the guard or tag of a type is applied to
abbrev pub marked_terms : Marking → Normal → ℕ → Ty → FofTerm → List FofTerm
marked_terms ByType normal depth ty t =
    type_term (all_numbers normal).constructor depth ty ∷ t ∷ []
marked_terms BySort normal depth ty t = t ∷ []

-- whether a term of a kind is written with its tag
abbrev pub is_tagged : Slot → Kind → Bool
is_tagged slot Universal = slot.universal
is_tagged slot Existential = slot.existential
is_tagged slot Applied = slot.applied

abbrev pub no_slot : Slot
no_slot = record {
  cover = false;
  universal = false;
  existential = false;
  applied = false;
  mark = 0;
}

module _ (c : Choices) (normal : Normal) where
  -- the argument place, a cover or not, of a declared type
  abbrev pub slot_in : Bool → Ty → Slot
  slot_in cover ty = record {
    cover = cover;
    universal = c.tagged (Argument cover) Universal ty;
    existential = c.tagged (Argument cover) Existential ty;
    applied = c.tagged (Argument cover) Applied ty;
    mark = mark_number c.marking (all_numbers normal) ty;
  }

  abbrev pub slots_in : List Bool → List Ty → List Slot
  slots_in [] types = []
  slots_in (cover ∷ covers) [] = []
  slots_in (cover ∷ covers) (ty ∷ types) = slot_in cover ty ∷ slots_in covers types

  -- those of a symbol
  abbrev pub slots_of : Symbol → List Slot
  slots_of symbol = slots_in (covers symbol) symbol.arguments

-- where each sort has a guard or tag, instances of a type are the type itself
abbrev pub IsGround : Marking → Ty → Type 0
IsGround marking ty = marking ≡ BySort → (instances : List Ty) → instantiate instances ty ≡ ty

-- so they are of each type of a list
abbrev pub AreGround : Marking → List Ty → Type 0
AreGround marking types = (i : ℕ) (ty : Ty) → slice_get types i ≡ Some ty → marking ≡ BySort →
    (instances : List Ty) → IsTrue (same_type (instantiate instances ty) ty)

-- and of the types of each symbol's arguments
abbrev pub HaveGroundArguments : Marking → List Symbol → Type 0
HaveGroundArguments marking symbols = (f : ℕ) (symbol : Symbol) → slice_get symbols f ≡ Some symbol →
    AreGround marking symbol.arguments
