-- What the guard or tag of a member gives, as it stands in a table.
use Rattle.std.specs.Prelude.{ℕ, suc, ◌≡◌, ◌<◌, ◌≤◌, ◌+◌, ◌*◌, ◌^◌, Bool, true, false, List, [], ◌∷◌, eqb, length, replicate, cond, not, ◌&&◌, get_or, slice_get, slice_index, option_map, Some, IsTrue}
use Rattle.std.proofs.Common.{refl, sym, ap, subst, ◌∙◌, arith, ⊎_elim}
use Rattle.std.proofs.lemmas.Bool.{cases_Bool, eq-eqb, le-leb}
use Rattle.std.proofs.lemmas.List.{length-map}
use Rattle.std.proofs.lemmas.Option.{slice_get-get_or, slice_get-map, get_or_from_slice_get}
use Rattle.enc_base.specs.Tables.{EachBelow, tuple_count, place}
use Rattle.enc_base.specs.Quantifiers.{some_below}
use Rattle.enc_base.proofs.Quantifiers.{some_below-from}
use Rattle.enc_base.proofs.Tables.{place_within}
use Rattle.tf_core.specs.declared.ty.Ty.{Ty}
use Rattle.tf_core.specs.declared.ty.Ty.TheVariants as type
use Rattle.tf_core.specs.declared.normal.Normal.{Normal}
use Rattle.tf_core.specs.Sorts.{sorts}
use Rattle.tf_core.specs.Sound.{is_monomorphic, IsSoundNormal}
use Rattle.tf_naked.specs.Naked.{is_free}
use Rattle.tf_naked.proofs.SortTypes.{stand_once}
use Rattle.fof_models.specs.Structures.{reading, IsWellFormed}
use Rattle.enc_marks.specs.declared.choices.Marking.{Marking}
use Rattle.enc_marks.specs.declared.choices.Marking.TheVariants.{ByType, BySort}
use Rattle.enc_marks.specs.declared.choices.Binding.{Binding}
use Rattle.enc_marks.specs.declared.choices.Binding.TheVariants.{ByTag}
use Rattle.enc_marks.specs.declared.choices.Elements.TheVariants.{Image, All}
use Rattle.enc_marks.specs.Choices.{Choices}
use Rattle.enc_marks.specs.Occurrence.{count_below}
use Rattle.enc_marks.specs.Encoded.{MarkedSymbol, shared_mark, sort_mark, sort_marks, own_marks, all_marks, all_numbers, encoded, is_guard}
use Rattle.enc_marks.proofs.SoundMarks.{shared-at, sort-at}
use Rattle.enc_laws.specs.Lifted.{is_element, read_as, mark_of_sort, sort_at, lift_by}
use Rattle.enc_laws.specs.Present.{is_tag, last_of}
use Rattle.enc_laws.proofs.SortsFormed.{sort_at-sort}
use Rattle.enc_models.specs.Calls.Lifting.{Parts, IsMarked, mark_count, occurs_in, mark_by, mark_in, marked_in, members_in, elements_by, elements_of, picks_in, lift_in, table_in}
use Rattle.enc_models.proofs.MarkedTables.{table_present, function_below, entry_present, some_occurs}

-- how many symbols and constructors there are
abbrev pub unmarked : Normal → ℕ
unmarked normal = length normal.signature.symbols + length normal.signature.constructors

-- a guard or tag, by its number, and what it is applied to
pub record IsOwnMark (c : Choices) (normal : Normal) (number : ℕ) (values : List ℕ) : Type 0 where
  pub one : MarkedSymbol
  pub at : slice_get (all_marks c normal) number ≡ Some one
  pub behind : unmarked normal ≤ number
  pub arity : one.symbol.arity ≡ length values
  pub predicate : one.symbol.predicate ≡ is_guard c.binding

-- that of all types

pub own-by_type : (c : Choices) (normal : Normal) → c.marking ≡ ByType → (member v : ℕ) →
    IsOwnMark c normal (unmarked normal) (member ∷ v ∷ [])
own-by_type c normal by_type member v = record {
  one = shared_mark c.binding;
  at = shared-at c normal by_type;
  behind = omega arith;
  arity = refl;
  predicate = refl;
}

-- that of a sort

pub sort_at-position : (normal : Normal) (s : ℕ) → s < length (sorts normal) →
    (all_numbers normal).sort (sort_at normal s) ≡ unmarked normal + s
sort_at-position normal s within =
    ap (λ n. unmarked normal + n)
    (stand_once normal s (sort_at normal s) (slice_get-get_or (sorts normal) s (type.Var 0) within))

pub own-by_sort : (c : Choices) (normal : Normal) → c.marking ≡ BySort → (s v : ℕ) →
    s < length (sorts normal) → IsOwnMark c normal (unmarked normal + s) (v ∷ [])
own-by_sort c normal by_sort s v within = record {
  one = _;
  at = ap (slice_get (all_marks c normal)) (sym (sort_at-position normal s within))
      ∙ sort-at c normal by_sort (sort_at normal s) (sort_at-sort normal s within);
  behind = omega arith;
  arity = refl;
  predicate = refl;
}

-- the table of a guard or tag, as code reads it
module _ (m : Parts) (well : IsWellFormed (encoded m.choices m.normal).problem.signature m.model)
    (number : ℕ) (values : List ℕ) (own : IsOwnMark m.choices m.normal number values)
    (below : EachBelow (replicate (length values) m.model.size) values)
  where
    abbrev bounds : List ℕ
    bounds = replicate (length values) m.model.size

    fills : occurs_in m.choices m.normal number ≡ true →
        length (table_in m number) ≡ tuple_count (replicate (length values) m.model.size)
    fills is =
        table_present m.choices m.normal m.model well number own.one own.at is
        ∙ ap (λ n. tuple_count (replicate n m.model.size)) own.arity

    occurs : (table : List ℕ) → table ≡ table_in m number → (length table ≡ 0 → ⊥) →
        occurs_in m.choices m.normal number ≡ true
    occurs table table_of some =
        some_occurs (occurs_in m.choices m.normal number) _
        (λ none. some (ap length table_of ∙ none))

    -- what one gives that doesn't occur: a tag changes nothing
    absent : occurs_in m.choices m.normal number ≡ false →
        cond (not (is_guard m.choices.binding)) (last_of values) 0
        ≡ (marked_in m).symbol_at number values
    absent fails =
        sym (ap (λ b. cond b ((reading m.model).symbol_at
        (count_below number (occurs_in m.choices m.normal)) values)
        (cond (is_tag m.choices m.normal number) (last_of values) 0)) fails
        ∙ ap (λ b. cond (b && not (is_guard m.choices.binding)) (last_of values) 0)
        (le-leb (unmarked m.normal) number own.behind))

    module _ (table : List ℕ) (table_of : table ≡ table_in m number) where
      pub own_inside : (length table ≡ 0 → ⊥) →
          place (replicate (length values) m.model.size) values < length table
      own_inside some =
          omega (
            arith,
            ap length table_of,
            fills (occurs table table_of some),
            place_within bounds values below,
          )

      pub own_is : (length table ≡ 0 → ⊥) →
          slice_index table (place (replicate (length values) m.model.size) values)
          ≡ (marked_in m).symbol_at number values
      own_is some =
          ap (λ t. slice_index t (place bounds values)) table_of
          ∙ sym (entry_present m.choices m.normal m.model number values
          (occurs table table_of some))

      -- an absent guard gives 0, and an absent tag the number itself
      pub own_none : length table ≡ 0 →
          cond (not (is_guard m.choices.binding)) (last_of values) 0
          ≡ (marked_in m).symbol_at number values
      own_none none =
          ⊎_elim
          (λ is. absurd (omega (
            arith,
            none,
            ap length table_of,
            fills is,
            place_within bounds values below,
          )))
          absent
          (cases_Bool (occurs_in m.choices m.normal number))

    -- what a tag gives is a number of the domain
    pub own_below : m.choices.binding ≡ ByTag → last_of values < m.model.size →
        (marked_in m).symbol_at number values < m.model.size
    own_below tag small =
        ⊎_elim
        (λ is.
        subst (λ n. n < m.model.size)
        (sym (entry_present m.choices m.normal m.model number values is))
        (function_below m.choices m.normal m.model well number own.one own.at
        (own.predicate ∙ ap is_guard tag) is (place bounds values)
        (omega (arith, fills is, place_within bounds values below))))
        (λ fails.
        subst (λ n. n < m.model.size)
        (ap (λ (b : Binding). cond (not (is_guard b)) (last_of values) 0) (sym tag)
        ∙ absent fails) small)
        (cases_Bool (occurs_in m.choices m.normal number))

-- ---- by the marking

-- the place of a pair, and of one number

pub place_two : (size member number : ℕ) →
    member * size + number ≡ place (replicate 2 size) (member ∷ number ∷ [])
place_two size member number = grind arith

pub place_one : (size number : ℕ) → number ≡ place (replicate 1 size) (number ∷ [])
place_one size number = grind arith

-- what the mark of a member gives
pub mark-by_type : (m : Parts) → m.choices.marking ≡ ByType → (member number : ℕ) →
    (marked_in m).symbol_at (unmarked m.normal) (member ∷ number ∷ []) ≡ mark_in m member number
mark-by_type m by_type member number =
    sym (ap (λ (k : Marking). mark_by k m.normal (marked_in m) member number) by_type)

pub mark-by_sort : (m : Parts) → m.choices.marking ≡ BySort → (member number : ℕ) →
    mark_of_sort (all_numbers m.normal) (marked_in m) (sort_at m.normal member) number
    ≡ mark_in m member number
mark-by_sort m by_sort member number =
    sym (ap (λ (k : Marking). mark_by k m.normal (marked_in m) member number) by_sort)

pub sort_mark-at : (m : Parts) (member number : ℕ) → member < length (sorts m.normal) →
    (marked_in m).symbol_at (unmarked m.normal + member) (number ∷ [])
    ≡ mark_of_sort (all_numbers m.normal) (marked_in m) (sort_at m.normal member) number
sort_mark-at m member number within =
    ap (λ n. (marked_in m).symbol_at n (number ∷ []))
    (sym (sort_at-position m.normal member within))

-- how many members there are

pub members-by_type : (m : Parts) → m.choices.marking ≡ ByType → members_in m ≡ m.model.size
members-by_type m by_type =
    ap (λ (k : Marking). (lift_by k m.choices m.normal (all_numbers m.normal) (marked_in m)).members)
    by_type

pub members-by_sort : (m : Parts) → m.choices.marking ≡ BySort →
    members_in m ≡ length (sorts m.normal)
members-by_sort m by_sort =
    ap (λ (k : Marking). (lift_by k m.choices m.normal (all_numbers m.normal) (marked_in m)).members)
    by_sort

-- what a tag gives is a number of the domain
pub mark_below : (m : Parts) → IsWellFormed (encoded m.choices m.normal).problem.signature m.model →
    m.choices.binding ≡ ByTag → (member number : ℕ) → member < members_in m →
    number < m.model.size → mark_in m member number < m.model.size
mark_below m well tag member number member_within number_within = by m.choices.marking refl
  where
    by : (k : Marking) → m.choices.marking ≡ k → mark_in m member number < m.model.size
    by ByType is =
        let inside : member < m.model.size =
        subst (λ n. member < n) (members-by_type m is) member_within in
        subst (λ n. n < m.model.size) (mark-by_type m is member number)
        (own_below m well (unmarked m.normal) (member ∷ number ∷ [])
        (own-by_type m.choices m.normal is member number) (inside, (number_within, tt)) tag
        number_within)
    by BySort is =
        let inside : member < length (sorts m.normal) =
        subst (λ n. member < n) (members-by_sort m is) member_within in
        subst (λ n. n < m.model.size)
        (sort_mark-at m member number inside ∙ mark-by_sort m is member number)
        (own_below m well (unmarked m.normal + member) (number ∷ [])
        (own-by_sort m.choices m.normal is member number inside) (number_within, tt) tag
        number_within)

-- which numbers are picked, and as what they are read

pub picks-by_mark : (m : Parts) (member number : ℕ) →
    is_element (elements_of m member) m.model.size (mark_in m member) number
    ≡ picks_in m member number
picks-by_mark m member number = by m.choices.marking
  where
    by : (k : Marking) →
        is_element (elements_by k m.choices m.normal member) m.model.size
        (mark_by k m.normal (marked_in m) member) number
        ≡ (lift_by k m.choices m.normal (all_numbers m.normal) (marked_in m)).picks member number
    by ByType = refl
    by BySort = refl

pub into-by_mark : (m : Parts) (member number : ℕ) →
    read_as (elements_of m member) (mark_in m member) number
    ≡ (lift_in m).into member number
into-by_mark m member number = by m.choices.marking
  where
    by : (k : Marking) →
        read_as (elements_by k m.choices m.normal member)
        (mark_by k m.normal (marked_in m) member) number
        ≡ (lift_by k m.choices m.normal (all_numbers m.normal) (marked_in m)).into member number
    by ByType = refl
    by BySort = refl

-- ---- which numbers are a member's elements

pub elements-by_type : (m : Parts) → m.choices.marking ≡ ByType → (member : ℕ) →
    m.choices.elements ≡ elements_of m member
elements-by_type m by_type member =
    sym (ap (λ (k : Marking). elements_by k m.choices m.normal member) by_type)

-- those that the tag gives only where the choices have it so
pub image-by_choices : (m : Parts) (member : ℕ) → elements_of m member ≡ Image →
    m.choices.elements ≡ Image
image-by_choices m member is = by m.choices.marking is
  where
    of : (free : Bool) → cond free All m.choices.elements ≡ Image → m.choices.elements ≡ Image
    of true is = cc
    of false is = is

    by : (k : Marking) → elements_by k m.choices m.normal member ≡ Image →
        m.choices.elements ≡ Image
    by ByType is = is
    by BySort is = of (is_free m.normal (sort_at m.normal member)) is

module _ (m : Parts) (ready : IsMarked m) (by_sort : m.choices.marking ≡ BySort) (member : ℕ)
    (within : member < members_in m)
  where
    sort_within : member < length (sorts m.normal)
    sort_within = subst (λ n. member < n) (members-by_sort m by_sort) within

    pub free_within : member < length m.free
    free_within =
        omega (
          arith,
          sort_within,
          ap length (ready.free by_sort),
          length-map (sorts m.normal) (is_free m.normal),
        )

    free_is : (other : Bool) → get_or m.free member other ≡ is_free m.normal (sort_at m.normal member)
    free_is other =
        get_or_from_slice_get m.free member _ other
        (ap (λ (free : List Bool). slice_get free member) (ready.free by_sort)
        ∙ slice_get-map (is_free m.normal) (sorts m.normal) member
        ∙ ap (option_map (is_free m.normal))
        (slice_get-get_or (sorts m.normal) member (type.Var 0) sort_within))

    -- all those of a free sort
    pub elements-free : (other : Bool) → get_or m.free member other ≡ true →
        All ≡ elements_of m member
    elements-free other is =
        sym (ap (λ (k : Marking). elements_by k m.choices m.normal member) by_sort
        ∙ ap (λ free. cond free All m.choices.elements) (sym (free_is other) ∙ is))

    pub elements-not_free : (other : Bool) → get_or m.free member other ≡ false →
        m.choices.elements ≡ elements_of m member
    elements-not_free other is =
        sym (ap (λ (k : Marking). elements_by k m.choices m.normal member) by_sort
        ∙ ap (λ free. cond free All m.choices.elements) (sym (free_is other) ∙ is))

-- where the mark of a member changes nothing

pub image-same : (size : ℕ) (mark : ℕ → ℕ) (v : ℕ) → v < size → mark v ≡ v →
    some_below size (λ x. eqb (mark x) v) ≡ true
image-same size mark v within same =
    some_below-from size (λ x. eqb (mark x) v) v within (eq-eqb (mark v) v same)

pub fixed-same : (mark : ℕ → ℕ) (v : ℕ) → mark v ≡ v → eqb (mark v) v ≡ true
fixed-same mark v same = eq-eqb (mark v) v same

-- the tag of a member doesn't occur
pub tag_absent : (m : Parts) (well : IsWellFormed (encoded m.choices m.normal).problem.signature m.model)
    (table : List ℕ) → length table ≡ 0 → m.choices.binding ≡ ByTag →
    (member number : ℕ) → member < members_in m → number < m.model.size →
    (m.choices.marking ≡ ByType → table ≡ table_in m (unmarked m.normal)) →
    (m.choices.marking ≡ BySort → table ≡ table_in m (unmarked m.normal + member)) →
    mark_in m member number ≡ number
tag_absent m well table none tag member number member_within within types sorted =
    by m.choices.marking refl
  where
    nothing : cond (not (is_guard m.choices.binding)) number 0 ≡ number
    nothing = ap (λ (b : Binding). cond (not (is_guard b)) number 0) tag

    by : (k : Marking) → m.choices.marking ≡ k → mark_in m member number ≡ number
    by ByType is =
        let inside : member < m.model.size =
        subst (λ n. member < n) (members-by_type m is) member_within in
        sym (sym nothing
        ∙ own_none m well (unmarked m.normal) (member ∷ number ∷ [])
        (own-by_type m.choices m.normal is member number) (inside, (within, tt)) table (types is)
        none
        ∙ mark-by_type m is member number)
    by BySort is =
        let inside : member < length (sorts m.normal) =
        subst (λ n. member < n) (members-by_sort m is) member_within in
        sym (sym nothing
        ∙ own_none m well (unmarked m.normal + member) (number ∷ [])
        (own-by_sort m.choices m.normal is member number inside) (within, tt) table (sorted is)
        none
        ∙ sort_mark-at m member number inside
        ∙ mark-by_sort m is member number)

-- ---- how many guards or tags there are

pub own_count-by_type : (c : Choices) (normal : Normal) → c.marking ≡ ByType →
    1 ≡ length (own_marks normal c.binding c.marking)
own_count-by_type c normal by_type =
    sym (ap (λ (k : Marking). length (own_marks normal c.binding k)) by_type)

length-sort_marks : (normal : Normal) (binding : Binding) (s : ℕ) (types : List Ty) →
    length (sort_marks normal binding s types) ≡ length types
length-sort_marks normal binding s [] = refl
length-sort_marks normal binding s (ty ∷ types) =
    ap suc (length-sort_marks normal binding (s + 1) types)

pub own_count-by_sort : (c : Choices) (normal : Normal) → c.marking ≡ BySort →
    length (sorts normal) ≡ length (own_marks normal c.binding c.marking)
own_count-by_sort c normal by_sort =
    sym (ap (λ (k : Marking). length (own_marks normal c.binding k)) by_sort
    ∙ length-sort_marks normal c.binding 0 (sorts normal))

-- their numbers have 32 bits

pub few-by_type : (c : Choices) (normal : Normal) → c.marking ≡ ByType → IsSoundNormal normal →
    mark_count c normal < 2 ^ 32
few-by_type c normal by_type sound =
    omega (
      arith,
      own_count-by_type c normal by_type,
      sound.signature.symbol_count,
      sound.signature.constructor_count,
    )

pub few-by_sort : (c : Choices) (normal : Normal) → c.marking ≡ BySort → IsSoundNormal normal →
    IsTrue (is_monomorphic normal) → mark_count c normal < 2 ^ 32
few-by_sort c normal by_sort sound monomorphic =
    omega (
      arith,
      own_count-by_sort c normal by_sort,
      sound.signature.symbol_count,
      sound.signature.constructor_count,
      sound.sort_count monomorphic,
    )

pub not_by_sort : (k : Marking) → k ≡ ByType → k ≡ BySort → ⊥
not_by_sort k types sorted = cc
