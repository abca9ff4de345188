-- Words of private contracts: what the values of a lifted structure rest on.
use Rattle.std.specs.Prelude.{ℕ, ◌+◌, ◌^◌, ◌<◌, ◌≤◌, ◌≡◌, ◌++◌, ◌||◌, Bool, false, List, [], map}
use Rattle.std.specs.Prelude.{length, replicate, cond, eqb, get_or, slice_get, slice_index}
use Rattle.std.specs.Prelude.{Option, Some, None, IsTrue}
use Rattle.enc_base.specs.Quantifiers.{some_below}
use Rattle.enc_base.specs.Tables.{EachBelow, tuple_count, place}
use Rattle.tf_core.specs.declared.signature.Constructor.{Constructor}
use Rattle.tf_core.specs.declared.signature.Symbol.{Symbol}
use Rattle.tf_core.specs.declared.normal.Normal.{Normal}
use Rattle.tf_core.specs.declared.signature.Signature.{Signature}
use Rattle.tf_core.specs.Sorts.{sorts}
use Rattle.tf_core.specs.Sound.{is_monomorphic}
use Rattle.tf_core.specs.Structures.{Typed, member_of, IsStructure}
use Rattle.tf_core.specs.Typing.{IsSignature, IsSymbol}
use Rattle.tf_models.specs.Reading.{tables}
use Rattle.enc_base.specs.Counts.{in_64_bits, most_entries}
use Rattle.structure_tables.specs.TypedTabled.{tabled}
use Rattle.structure_tables.specs.EntryCounts.{typed_count}
use Rattle.fof_models.specs.declared.structure.Structure.{Structure}
use Rattle.fof_models.specs.Structures.{Untyped, table_of, IsWellFormed}
use Rattle.enc_marks.specs.declared.mark.Mark.{Mark}
use Rattle.enc_marks.specs.declared.mark.Mark.TheVariants as mark
use Rattle.tf_naked.specs.Naked.{is_free}
use Rattle.enc_marks.specs.declared.choices.Marking.{Marking}
use Rattle.enc_marks.specs.declared.choices.Marking.TheVariants.{ByType, BySort}
use Rattle.enc_marks.specs.declared.choices.Binding.TheVariants.{ByTag}
use Rattle.enc_marks.specs.declared.choices.Elements.{Elements}
use Rattle.enc_marks.specs.declared.choices.Elements.TheVariants.{Image}
use Rattle.enc_marks.specs.Choices.{Choices}
use Rattle.enc_marks.specs.Encoded.{all_numbers, own_marks, is_present, translation, encoded}
use Rattle.enc_marks.specs.Occurrence.{count_below}
use Rattle.enc_marks.specs.Translation.{selected}
use Rattle.enc_laws.specs.Lifted.{Lift, numbers_of, type_mark, mark_of_sort, elements_in, sort_at}
use Rattle.enc_laws.specs.Lifted.{lift_by, lifted}
use Rattle.enc_laws.specs.MergedStructure.{kept_count}
use Rattle.enc_laws.specs.Ranks.{nth}
use Rattle.enc_models.specs.declared.marked.Marked.{Marked}
use Rattle.enc_models.specs.declared.to_typed.Lifted.{Lifted}
use Rattle.enc_models.specs.declared.to_typed.Lifted.TheVariants as made
use Rattle.enc_models.specs.LiftedTables.{marked_structure}
use Rattle.enc_models.specs.Calls.Sources.{AreKeptTypes}

-- ---- the marked symbols, by their numbers

-- whether a marked symbol occurs in the translation
abbrev pub occurs_in : Choices → Normal → ℕ → Bool
occurs_in c normal = is_present (translation c normal)

-- how many marked symbols there are: symbols, constructors, and the guard or tag, or those of sorts
abbrev pub mark_count : Choices → Normal → ℕ
mark_count c normal =
    length normal.signature.symbols + length normal.signature.constructors
    + length (own_marks normal c.binding c.marking)

-- the number of what a mark stands for
abbrev pub mark_number : ℕ → ℕ → Mark → ℕ
mark_number symbols constructors (mark.Symbol f) = f
mark_number symbols constructors (mark.Constructor c) = symbols + c
mark_number symbols constructors mark.Guard = symbols + constructors
mark_number symbols constructors mark.Tag = symbols + constructors
mark_number symbols constructors (mark.SortGuard s) = symbols + constructors + s
mark_number symbols constructors (mark.SortTag s) = symbols + constructors + s

-- the number that a marked symbol has among those that occur, if it occurs
abbrev pub place_in : (ℕ → Bool) → ℕ → Option ℕ
place_in present m = cond (present m) (Some (count_below m present)) None

-- those of so many marked symbols
pub record ArePlaces (present : ℕ → Bool) (count : ℕ) (places : List (Option ℕ)) : Type 0 where
  pub length_is : length places ≡ count
  pub each : (m : ℕ) → m < count → get_or places m None ≡ place_in present m

-- the table of a marked symbol, or nothing where it doesn't occur
abbrev pub marked_table : (ℕ → Bool) → Structure → ℕ → List ℕ
marked_table present s m = cond (present m) (table_of s (count_below m present)) []

-- what an untyped structure is whose tables are found by what their symbols stand for
pub record Parts : Type 0 where
  pub choices : Choices
  pub normal : Normal
  pub model : Structure
  pub places : List (Option ℕ)
  pub kept : List (List Bool)
  pub free : List Bool

abbrev pub parts_of : {A : Type 0} → (A → Choices) → Marked A → Parts
parts_of choices m = record {
  choices = choices m.choices.now;
  normal = m.normal.now;
  model = m.model.now;
  places = m.places.now;
  kept = m.kept.now;
  free = m.free.now;
}

abbrev pub marked_in : Parts → Untyped
marked_in m = marked_structure m.choices m.normal m.model

abbrev pub table_in : Parts → ℕ → List ℕ
table_in m = marked_table (occurs_in m.choices m.normal) m.model

abbrev pub lift_in : Parts → Lift
lift_in m =
    lift_by m.choices.marking m.choices m.normal (all_numbers m.normal) (marked_in m)

-- how many members there are
abbrev pub members_in : Parts → ℕ
members_in m = (lift_in m).members

abbrev pub typed_in : Parts → Typed
typed_in m =
    lifted m.choices (all_numbers m.normal) m.normal.signature (occurs_in m.choices m.normal)
    (marked_in m) (lift_in m)

-- The tables are those of the translation's signature, each marked symbol is found, and the type
-- arguments are known that the choices keep. Where marks are of sorts, it is known which are free,
-- and there are no type variables.
pub record IsMarked (m : Parts) : Type 0 where
  pub signature : IsSignature m.normal.signature
  pub few : mark_count m.choices m.normal < 2 ^ 32
  pub monomorphic : m.choices.marking ≡ BySort → IsTrue (is_monomorphic m.normal)
  pub free : m.choices.marking ≡ BySort → m.free ≡ map (is_free m.normal) (sorts m.normal)
  pub kept_types : AreKeptTypes m.choices
  pub kept_are : m.kept ≡ map m.choices.keeps m.normal.signature.symbols
  pub tagged : m.choices.elements ≡ Image → m.choices.binding ≡ ByTag
  pub well_formed : IsWellFormed (encoded m.choices m.normal).problem.signature m.model
  pub places : ArePlaces (occurs_in m.choices m.normal) (mark_count m.choices m.normal) m.places

-- ---- the numbers that a member picks

-- what the guard or tag gives for a member and a number, or that of the sort which the member is
abbrev pub mark_by : Marking → Normal → Untyped → ℕ → ℕ → ℕ
mark_by ByType normal j member = type_mark (all_numbers normal) j member
mark_by BySort normal j member = mark_of_sort (all_numbers normal) j (sort_at normal member)

abbrev pub mark_in : Parts → ℕ → ℕ → ℕ
mark_in m = mark_by m.choices.marking m.normal (marked_in m)

-- which numbers are a member's elements
abbrev pub elements_by : Marking → Choices → Normal → ℕ → Elements
elements_by ByType c normal member = c.elements
elements_by BySort c normal member = elements_in c normal (sort_at normal member)

abbrev pub elements_of : Parts → ℕ → Elements
elements_of m = elements_by m.choices.marking m.choices m.normal

-- whether a number is an element of a member
abbrev pub picks_in : Parts → ℕ → ℕ → Bool
picks_in m = (lift_in m).picks

-- the numbers below a bound that pass a test, in rising order
pub record ArePicked (test : ℕ → Bool) (bound : ℕ) (picked : List ℕ) : Type 0 where
  pub length_is : length picked ≡ count_below bound test
  pub each : (rank : ℕ) → rank < count_below bound test →
      slice_index picked rank ≡ nth bound test rank

-- those of so many members
pub record AreRows (m : Parts) (count : ℕ) (picked : List (List ℕ)) : Type 0 where
  pub picked_count : length picked ≡ count
  pub each_picked : (member : ℕ) → member < count →
      ArePicked (picks_in m member) m.model.size (get_or picked member [])

-- what a list says of each number, and a test
pub record AreNoted (test : ℕ → Bool) (before after : List Bool) : Type 0 where
  pub count : length after ≡ length before
  pub at : (v : ℕ) → v < length before → get_or after v false ≡ (get_or before v false || test v)

-- whether a mark gives a number for some number of the domain
abbrev pub gives_below : (ℕ → ℕ) → ℕ → ℕ → Bool
gives_below mark size v = some_below size (λ x. eqb (mark x) v)

-- the same of each number
pub record AreGiven (mark : ℕ → ℕ) (size : ℕ) (given : List Bool) : Type 0 where
  pub length_is : length given ≡ size
  pub each : (v : ℕ) → v < size → get_or given v false ≡ gives_below mark size v

-- where the elements of members are what the tag gives
abbrev pub AreGivenIn : Parts → ℕ → List Bool → Type 0
AreGivenIn m member given =
    elements_of m member ≡ Image → AreGiven (mark_in m member) m.model.size given

-- ---- the lifted structure

-- a symbol of the signature: it has no parameters where marks are of sorts
pub record IsSymbolIn (m : Parts) (symbol : Symbol) : Type 0 where
  pub typed : IsSymbol m.normal.signature symbol
  pub plain : m.choices.marking ≡ BySort → symbol.parameters ≡ 0

-- the members for those of a symbol's parameters that are kept, and the numbers that elements for
-- its arguments stand for
abbrev pub numbers_in : Parts → Symbol → List ℕ → List ℕ → List ℕ
numbers_in m symbol members elements =
    selected (m.choices.keeps symbol) members
    ++ numbers_of (lift_in m) m.model.size (map (member_of (typed_in m) members) symbol.arguments)
    elements

-- each is below the size of the domain
abbrev pub bounds_in : Parts → Symbol → List ℕ
bounds_in m symbol =
    replicate (kept_count m.choices symbol + length symbol.arguments) m.model.size

-- the entry of the f-th symbol for them
abbrev pub entry_in : Parts → ℕ → Symbol → List ℕ → List ℕ → ℕ
entry_in m f symbol members elements =
    (marked_in m).symbol_at f (numbers_in m symbol members elements)

-- The table of the c-th constructor over members, in the order of tuples, as code reads it: where
-- there is nothing, the constructor gives 0.
pub record IsTableOver (m : Parts) (c arity : ℕ) (table : List ℕ) : Type 0 where
  pub fills : (length table ≡ 0 → ⊥) → length table ≡ tuple_count (replicate arity (members_in m))
  pub none : length table ≡ 0 → (members : List ℕ) →
      EachBelow (replicate arity (members_in m)) members →
      0 ≡ (typed_in m).constructor_at c members
  pub gives : (members : List ℕ) →
      EachBelow (replicate arity (members_in m)) members →
      slice_index table (place (replicate arity (members_in m)) members)
      ≡ (typed_in m).constructor_at c members

abbrev pub IsConstructorTable : Parts → ℕ → List ℕ → Type 0
IsConstructorTable m c table = (constructor : Constructor) →
    slice_get m.normal.signature.constructors c ≡ Some constructor →
    IsTableOver m c constructor.arity table

-- those of all constructors
pub record AreConstructorTables (m : Parts) (tables : List (List ℕ)) : Type 0 where
  pub count : length tables ≡ length m.normal.signature.constructors
  pub each : (c : ℕ) → IsConstructorTable m c (get_or tables c [])

-- what its values rest on
pub record IsLifting (m : Parts) (picked tables : List (List ℕ)) : Type 0 where
  pub marked : IsMarked m
  pub fits : IsStructure m.normal.signature (typed_in m)
  pub domain : m.model.size < 2 ^ 32
  pub rows : AreRows m (members_in m) picked
  pub formed : m.choices.marking ≡ BySort → AreConstructorTables m tables

-- tables are those of a structure, which isn't too large, or its count is given
abbrev pub IsCounted : Signature → Typed → Lifted → Type 0
IsCounted g s (made.Made t) = (tables t ≡ tabled g s) × (typed_count g s ≤ most_entries)
IsCounted g s (made.TooLarge entries) =
    (most_entries < typed_count g s) × (entries ≡ in_64_bits (typed_count g s))
