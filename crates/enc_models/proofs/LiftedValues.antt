-- The values of a lifted structure, as they are computed.
use Rattle.std.specs.Prelude.{ℕ, zero, suc, ◌≡◌, ◌<◌, ◌≤◌, ◌+◌, ◌-◌, ◌*◌, ◌++◌, Bool, true, false, cond, List, [], ◌∷◌, map, length, replicate, take, count_by, get_or, slice_get, slice_index, Option, Some, None}
use Rattle.std.proofs.Common.{refl, sym, ap, subst, ◌∙◌, arith, ⊎_elim}
use Rattle.std.proofs.lemmas.Bool.{cases_Bool}
use Rattle.std.proofs.lemmas.List.{get_or-replicate, get_or-append_right, get_or_append_left, length-replicate, length-map}
use Rattle.std.proofs.lemmas.Option.{get_or_from_slice_get, slice_get_within}
use Rattle.enc_base.specs.Tables.{EachBelow, tuple_count, place}
use Rattle.enc_base.proofs.Tables.{EachBelow-length}
use Rattle.tf_core.specs.declared.ty.Ty.{Ty}
use Rattle.tf_core.specs.declared.ty.Ty.TheVariants as type
use Rattle.tf_core.specs.declared.signature.Constructor.{Constructor}
use Rattle.tf_core.specs.declared.signature.Symbol.{Symbol}
use Rattle.tf_core.specs.declared.signature.Signature.{Signature}
use Rattle.tf_core.specs.Typing.{IsType, AreTypes, no_types, more_types}
use Rattle.tf_core.specs.Structures.{size_of, member_of, AreArguments, IsStructure}
use Rattle.tf_core.proofs.Types.{type_value-apply}
use Rattle.enc_base.specs.Tuples.{IsPlaced}
use Rattle.tf_models.proofs.Inversion.{application_parts}
use Rattle.enc_base.proofs.Placing.{EachBelow-same_length, place-step, place-fits, place-whole, placed_within}
use Rattle.tf_models.proofs.Values.{symbol_typed}
use Rattle.tf_models.proofs.TypeMembers.{type_value_below, type_values_below, type_at}
use Rattle.enc_marks.specs.declared.choices.Marking.{Marking}
use Rattle.enc_marks.specs.declared.choices.Marking.TheVariants.{ByType, BySort}
use Rattle.enc_marks.specs.Encoded.{all_numbers}
use Rattle.enc_marks.specs.Occurrence.{count_below}
use Rattle.enc_marks.specs.Translation.{selected}
use Rattle.enc_marks.proofs.SoundTypes.{length-selected}
use Rattle.enc_laws.specs.Lifted.{Lift, numbers_of, lift_by, lifted_at, lifted_value}
use Rattle.enc_laws.specs.MergedStructure.{kept_count}
use Rattle.enc_laws.specs.Ranks.{nth}
use Rattle.enc_laws.proofs.Ranked.{length-listed, listed-at}
use Rattle.enc_laws.specs.Present.{is_tag}
use Rattle.enc_laws.proofs.SortsFormed.{parameters_none}
use Rattle.enc_models.specs.Calls.Lifting.{Parts, marked_in, members_in, table_in, typed_in, lift_in, occurs_in, picks_in, numbers_in, entry_in, bounds_in, IsMarked, IsSymbolIn, IsTableOver, IsConstructorTable}
use Rattle.enc_models.proofs.OwnMarks.{members-by_type}
use Rattle.enc_models.proofs.MarkedTables.{constructor_long, symbol_long, symbol_below, entry_is, entry_none, plain_number, some_occurs}
use Rattle.enc_models.proofs.ParameterSources.{few_kept, selected_below, get_or-selected, count_before}
use Rattle.enc_models.proofs.PickedNumbers.{nth_below}

none_below : (size : ℕ) (values : List ℕ) → length values ≡ 0 →
    EachBelow (replicate (length values) size) values
none_below size [] none = tt
none_below size (v ∷ values) none = absurd (omega (arith, none))

joined_below : (size first second : ℕ) (values others : List ℕ) →
    EachBelow (replicate first size) values → EachBelow (replicate second size) others →
    EachBelow (replicate (first + second) size) (values ++ others)
joined_below size zero second [] others below rest =
    let e : second ≡ 0 + second = omega arith in
    subst (λ n. EachBelow (replicate n size) others) e rest
joined_below size zero second (v ∷ values) others below rest = absurd below
joined_below size (suc first) second [] others below rest = absurd below
joined_below size (suc first) second (v ∷ values) others below rest =
    let e : suc (first + second) ≡ suc first + second = omega arith in
    subst (λ n. EachBelow (replicate n size) (v ∷ (values ++ others))) e
    (below.0, joined_below size first second values others below.1 rest)

-- ---- constructors, where the guard or tag is that of all types

pub constructor-by_type : (m : Parts) → m.choices.marking ≡ ByType → (c : ℕ) (values : List ℕ) →
    (marked_in m).symbol_at (length m.normal.signature.symbols + c) values
    ≡ (typed_in m).constructor_at c values
constructor-by_type m by_type c values =
    sym (ap (λ (k : Marking). (lift_by k m.choices m.normal (all_numbers m.normal)
    (marked_in m)).constructor_at c values) by_type)

module _ (m : Parts) (ready : IsMarked m) (by_type : m.choices.marking ≡ ByType)
    (symbols : List Symbol) (symbols_are : symbols ≡ m.normal.signature.symbols) (c : ℕ)
    (table : List ℕ) (table_of : table ≡ table_in m (length symbols + c))
    (constructor : Constructor)
    (found : slice_get m.normal.signature.constructors c ≡ Some constructor)
  where
    abbrev own_number : ℕ
    own_number = length m.normal.signature.symbols + c

    table_read : table ≡ table_in m own_number
    table_read =
        table_of ∙ ap (λ (xs : List Symbol). table_in m (length xs + c)) symbols_are

    plain : is_tag m.choices m.normal own_number ≡ false
    plain =
        plain_number m.choices m.normal own_number
        (omega (arith, slice_get_within m.normal.signature.constructors c constructor found))

    entry_read : (values : List ℕ) → EachBelow (replicate constructor.arity (members_in m)) values →
        slice_index table (place (replicate constructor.arity (members_in m)) values)
        ≡ (typed_in m).constructor_at c values
    entry_read values below =
        let long = EachBelow-length constructor.arity (members_in m) values below in
        ap (λ n. slice_index table (place (replicate constructor.arity n) values))
        (members-by_type m by_type)
        ∙ ap (λ n. slice_index table (place (replicate n m.model.size) values)) long
        ∙ ap (λ t. slice_index t (place (replicate (length values) m.model.size) values)) table_read
        ∙ sym (entry_is m.choices m.normal m.model own_number values plain)
        ∙ constructor-by_type m by_type c values

    pub table-by_type : IsTableOver m c constructor.arity table
    table-by_type = record {
      fills = λ some.
          let same = ap length table_read in
          ap length table_read
          ∙ constructor_long m.choices m.normal m.model ready.well_formed c constructor found
          (omega (arith, same, some))
          ∙ ap (λ n. tuple_count (replicate constructor.arity n)) (sym (members-by_type m by_type));
      none = λ none values below.
          entry_none table (place (replicate constructor.arity (members_in m)) values) none
          ∙ entry_read values below;
      gives = entry_read;
    }

module _ (m : Parts) (ready : IsMarked m) (fits : IsStructure m.normal.signature (typed_in m)) where
  abbrev size : ℕ
  size = m.model.size

  abbrev count : ℕ
  count = members_in m

  abbrev signature : Signature
  signature = m.normal.signature

  pub count_is : length (typed_in m).sizes ≡ members_in m
  count_is = length-listed count 0 (λ n. count_below size (picks_in m n))

  give : (i : ℕ) (constructor : Constructor) (members : List ℕ) →
      slice_get m.normal.signature.constructors i ≡ Some constructor →
      EachBelow (replicate constructor.arity (members_in m)) members →
      (typed_in m).constructor_at i members < members_in m
  give i constructor members at below =
      subst (λ n. (typed_in m).constructor_at i members < n) count_is
      (fits.constructors i constructor members at
      (subst (λ n. EachBelow (replicate constructor.arity n) members) (sym count_is) below))

  pub member_small : (variables : ℕ) (members : List ℕ) (ty : Ty) →
      IsType m.normal.signature variables ty →
      EachBelow (replicate variables (members_in m)) members →
      member_of (typed_in m) members ty < members_in m
  member_small = type_value_below signature (typed_in m).constructor_at count give

  pub members_small : (variables : ℕ) (members : List ℕ) (types : List Ty) →
      AreTypes m.normal.signature variables types →
      EachBelow (replicate variables (members_in m)) members →
      EachBelow (replicate (length types) (members_in m))
      (map (member_of (typed_in m) members) types)
  members_small = type_values_below signature (typed_in m).constructor_at count give

  -- a constructor's table, as code reads it
  module _ (c : ℕ) (constructor : Constructor)
      (found : slice_get m.normal.signature.constructors c ≡ Some constructor)
      (table : List ℕ) (table_of : IsConstructorTable m c table) (members : List ℕ)
      (below : EachBelow (replicate constructor.arity (members_in m)) members)
    where
      over : IsTableOver m c constructor.arity table
      over = table_of constructor found

      long : constructor.arity ≡ length members
      long = EachBelow-length constructor.arity count members below

      pub constructor_fills : (length table ≡ 0 → ⊥) →
          length table ≡ tuple_count (replicate (length members) (members_in m))
      constructor_fills some =
          over.fills some ∙ ap (λ n. tuple_count (replicate n count)) long

      pub constructor_none : length table ≡ 0 → 0 ≡ (typed_in m).constructor_at c members
      constructor_none none = over.none none members below

      pub constructor_is : (at : ℕ) → at ≡ place (replicate (length members) (members_in m)) members →
          slice_index table at ≡ (typed_in m).constructor_at c members
      constructor_is at is =
          ap (slice_index table) is
          ∙ ap (λ n. slice_index table (place (replicate n count) members)) (sym long)
          ∙ over.gives members below

  -- the member that an application is
  module _ (variables : ℕ) (members : List ℕ) (ty : Ty) (c : ℕ) (types : List Ty)
      (is : ty ≡ type.Apply c types) (typed : IsType m.normal.signature variables ty)
    where
      pub applied_parts : (constructor : Constructor)
          × (slice_get m.normal.signature.constructors c ≡ Some constructor)
          × (length types ≡ constructor.arity) × AreTypes m.normal.signature variables types
      applied_parts = application_parts signature variables ty c types is typed

      applied_member : (typed_in m).constructor_at c (map (member_of (typed_in m) members) types)
          ≡ member_of (typed_in m) members ty
      applied_member =
          sym (ap (member_of (typed_in m) members) is
          ∙ type_value-apply (typed_in m).constructor_at members c types)

      module _ (below : EachBelow (replicate variables (members_in m)) members)
          (table : List ℕ) (table_of : IsConstructorTable m c table)
        where
          abbrev values : List ℕ
          values = map (member_of (typed_in m) members) types

          each_value : EachBelow (replicate applied_parts.0.arity count) values
          each_value =
              subst (λ n. EachBelow (replicate n count) values) applied_parts.2
              (members_small variables members types applied_parts.3 below)

          pub applied_fills : (length table ≡ 0 → ⊥) →
              length table ≡ tuple_count (replicate (length types) (members_in m))
          applied_fills some =
              constructor_fills c applied_parts.0 applied_parts.1 table table_of values each_value
              some
              ∙ ap (λ n. tuple_count (replicate n count)) (length-map _ _)

          pub applied_none : length table ≡ 0 → 0 ≡ member_of (typed_in m) members ty
          applied_none none =
              constructor_none c applied_parts.0 applied_parts.1 table table_of values each_value
              none
              ∙ applied_member

          pub applied_inside : (at : ℕ) → (length table ≡ 0 → ⊥) →
              IsPlaced (replicate (length types) (members_in m))
              (map (member_of (typed_in m) members) types) at →
              at < length table
          applied_inside at some placed =
              omega (
                arith,
                applied_fills some,
                placed_within (replicate (length types) count) values at placed,
              )

          pub applied_is : (at : ℕ) →
              IsPlaced (replicate (length types) (members_in m))
              (map (member_of (typed_in m) members) types) at →
              slice_index table at ≡ member_of (typed_in m) members ty
          applied_is at placed =
              constructor_is c applied_parts.0 applied_parts.1 table table_of values each_value at
              (placed.place_is
              ∙ ap (λ n. place (replicate n count) values) (sym (length-map _ _)))
              ∙ applied_member

  -- sizes of members
  pub size_is : (member : ℕ) → member < members_in m →
      size_of (typed_in m) member ≡ count_below m.model.size (picks_in m member)
  size_is member within =
      let e : 0 + member ≡ member = omega arith in
      listed-at count 0 member (λ n. count_below size (picks_in m n)) within
      ∙ ap (λ n. count_below size (picks_in m n)) e

  module _ (variables : ℕ) (members : List ℕ)
      (below : EachBelow (replicate variables (members_in m)) members)
    where
      abbrev lift : Lift
      lift = lift_in m

      element_small : (ty : Ty) (element : ℕ) → IsType m.normal.signature variables ty →
          element < size_of (typed_in m) (member_of (typed_in m) members ty) →
          element < count_below m.model.size (picks_in m (member_of (typed_in m) members ty))
      element_small ty element typed small =
          subst (λ n. element < n)
          (size_is (member_of (typed_in m) members ty) (member_small variables members ty typed below))
          small

      numbers_small : (types : List Ty) (elements : List ℕ) →
          AreTypes m.normal.signature variables types →
          EachBelow (map (λ ty. size_of (typed_in m) (member_of (typed_in m) members ty)) types)
          elements →
          EachBelow (replicate (length types) m.model.size)
          (numbers_of lift m.model.size (map (member_of (typed_in m) members) types) elements)
      numbers_small [] elements no_types each = tt
      numbers_small (ty ∷ types) [] typed each = absurd each
      numbers_small (ty ∷ types) (e ∷ elements) (more_types x others formed rest) each = (
        nth_below size e (picks_in m (member_of (typed_in m) members ty))
            (element_small ty e formed each.0),
        numbers_small types elements rest each.1,
      )

      element_below : (types : List Ty) (elements : List ℕ) (i : ℕ) (ty : Ty) →
          AreTypes m.normal.signature variables types →
          EachBelow (map (λ ty. size_of (typed_in m) (member_of (typed_in m) members ty)) types)
          elements →
          i < length types → ty ≡ get_or types i ty →
          get_or elements i 0
          < count_below m.model.size (picks_in m (member_of (typed_in m) members ty))
      element_below [] elements i ty typed each within is = absurd (omega (arith, within))
      element_below (t ∷ types) [] i ty typed each within is = absurd each
      element_below (t ∷ types) (e ∷ elements) zero ty (more_types x others formed rest) each within is =
          subst (λ one. e < count_below size (picks_in m (member_of (typed_in m) members one)))
          (sym is) (element_small t e formed each.0)
      element_below (t ∷ types) (e ∷ elements) (suc i) ty (more_types x others formed rest) each within is =
          element_below types elements i ty rest each.1 (omega (arith, within)) is

      numbers_at : (types : List Ty) (elements : List ℕ) (i : ℕ) (ty : Ty) → i < length types →
          i < length elements → ty ≡ get_or types i ty →
          get_or (numbers_of lift m.model.size (map (member_of (typed_in m) members) types)
          elements) i 0
          ≡ nth m.model.size (picks_in m (member_of (typed_in m) members ty))
          (get_or elements i 0)
      numbers_at [] elements i ty within inside is = absurd (omega (arith, within))
      numbers_at (t ∷ types) [] i ty within inside is = absurd (omega (arith, inside))
      numbers_at (t ∷ types) (e ∷ elements) zero ty within inside is =
          ap (λ one. nth size (picks_in m (member_of (typed_in m) members one)) e) (sym is)
      numbers_at (t ∷ types) (e ∷ elements) (suc i) ty within inside is =
          numbers_at types elements i ty (omega (arith, within)) (omega (arith, inside)) is

  pub constructor_members : (arity : ℕ) (members : List ℕ) →
      EachBelow (replicate arity (length (typed_in m).sizes)) members →
      (EachBelow (replicate (length members) (members_in m)) members)
      × (length members ≡ arity) × EachBelow (replicate arity (members_in m)) members
  constructor_members arity members below =
      let here : EachBelow (replicate arity count) members =
      subst (λ n. EachBelow (replicate arity n) members) count_is below in
      let long = EachBelow-length arity count members here in
      (subst (λ n. EachBelow (replicate n count) members) long here, sym long, here)

  -- members and elements for a symbol
  module _ (symbol : Symbol) (typed : IsSymbolIn m symbol)
      (members elements : List ℕ) (are : AreArguments (typed_in m) symbol members elements)
    where
      abbrev keeps : List Bool
      keeps = m.choices.keeps symbol

      pub members_below : EachBelow (replicate symbol.parameters (members_in m)) members
      members_below =
          subst (λ n. EachBelow (replicate symbol.parameters n) members) count_is are.for_parameters

      pub as_many_members : symbol.parameters ≡ length members
      as_many_members = EachBelow-length symbol.parameters count members members_below

      pub each_member : EachBelow (replicate (length members) (members_in m)) members
      each_member =
          subst (λ n. EachBelow (replicate n count) members) as_many_members members_below

      pub as_many_elements : length elements ≡ length symbol.arguments
      as_many_elements =
          sym (EachBelow-same_length _ elements are.for_arguments) ∙ length-map _ _

      pub argument_typed : (i : ℕ) (ty : Ty) → i < length symbol.arguments →
          ty ≡ get_or symbol.arguments i ty → IsType m.normal.signature (length members) ty
      argument_typed i ty within is =
          subst (λ n. IsType m.normal.signature n ty) as_many_members
          (type_at signature symbol.parameters i symbol.arguments ty within is typed.typed.arguments)

      pub argument_member : (i : ℕ) (ty : Ty) → i < length symbol.arguments →
          ty ≡ get_or symbol.arguments i ty → member_of (typed_in m) members ty < members_in m
      argument_member i ty within is =
          member_small (length members) members ty (argument_typed i ty within is) each_member

      pub argument_element : (i : ℕ) (ty : Ty) → i < length symbol.arguments →
          ty ≡ get_or symbol.arguments i ty →
          get_or elements i 0
          < count_below m.model.size (picks_in m (member_of (typed_in m) members ty))
      argument_element i ty within is =
          element_below symbol.parameters members members_below symbol.arguments elements i ty
          typed.typed.arguments are.for_arguments within is

      few : length keeps ≤ length members
      few = omega (arith, few_kept m.choices ready.kept_types symbol, as_many_members)

      -- the members that are kept

      pub kept_within : (i : ℕ) → i < length (m.choices.keeps symbol) → i < length members
      kept_within i within = omega (arith, within, few)

      kept_long : length (selected keeps members) ≡ kept_count m.choices symbol
      kept_long = length-selected keeps members few

      numbers_below : (k : Marking) → m.choices.marking ≡ k →
          EachBelow (replicate (length members) size) members
      numbers_below ByType is =
          subst (λ n. EachBelow (replicate (length members) n) members) (members-by_type m is)
          each_member
      numbers_below BySort is = none_below size members (sym as_many_members ∙ typed.plain is)

      kept_below : EachBelow (replicate (kept_count m.choices symbol) size) (selected keeps members)
      kept_below =
          subst (λ n. EachBelow (replicate n size) (selected keeps members)) kept_long
          (selected_below size keeps members (numbers_below m.choices.marking refl))

      pub each_number : EachBelow (bounds_in m symbol) (numbers_in m symbol members elements)
      each_number =
          joined_below size (kept_count m.choices symbol) (length symbol.arguments)
          (selected keeps members) _ kept_below
          (numbers_small symbol.parameters members members_below symbol.arguments elements
          typed.typed.arguments are.for_arguments)

      -- how many of the first type arguments are kept
      abbrev count_so_far : ℕ → ℕ
      count_so_far i = count_by (λ kept. kept) (take i (m.choices.keeps symbol))

      module _ (i : ℕ) (within : i < length (m.choices.keeps symbol))
          (kept : get_or (m.choices.keeps symbol) i false ≡ true)
        where
          pub kept_place : count_so_far i < kept_count m.choices symbol + length symbol.arguments
          kept_place =
              omega (arith, count_before keeps i within kept)

          pub number_of_member : get_or members i 0
              ≡ get_or (numbers_in m symbol members elements) (count_so_far i) 0
          number_of_member =
              sym (get_or_append_left (selected keeps members) _ 0 (count_so_far i)
              (omega (arith, kept_long, count_before keeps i within kept))
              ∙ get_or-selected keeps members i (kept_within i within) kept)

      pub number_of_element : (i : ℕ) (ty : Ty) → i < length symbol.arguments →
          ty ≡ get_or symbol.arguments i ty →
          nth m.model.size (picks_in m (member_of (typed_in m) members ty)) (get_or elements i 0)
          ≡ get_or (numbers_in m symbol members elements) (kept_count m.choices symbol + i) 0
      number_of_element i ty within is =
          let lift : Lift = lift_in m in
          let count : ℕ = kept_count m.choices symbol in
          let past : count ≤ count + i = omega arith in
          let behind : count + i - count ≡ i = omega arith in
          sym (get_or-append_right (selected keeps members) _ count (count + i) 0
          kept_long past
          ∙ ap (λ n. get_or (numbers_of lift size (map (member_of (typed_in m) members)
          symbol.arguments) elements) n 0) behind
          ∙ numbers_at symbol.parameters members members_below symbol.arguments elements i ty within
          (omega (arith, within, as_many_elements)) is)

      -- the table of the symbol, as code reads it
      module _ (f : ℕ) (found : slice_get m.normal.signature.symbols f ≡ Some symbol)
          (table : List ℕ) (table_of : table ≡ table_in m f)
        where
          as_many_numbers : length (numbers_in m symbol members elements)
              ≡ kept_count m.choices symbol + length symbol.arguments
          as_many_numbers =
              sym (EachBelow-same_length _ (numbers_in m symbol members elements) each_number)
              ∙ length-replicate (kept_count m.choices symbol + length symbol.arguments) size

          symbol_plain : is_tag m.choices m.normal f ≡ false
          symbol_plain =
              plain_number m.choices m.normal f
              (omega (arith, slice_get_within m.normal.signature.symbols f symbol found))

          symbol_occurs : (length table ≡ 0 → ⊥) → occurs_in m.choices m.normal f ≡ true
          symbol_occurs some =
              some_occurs (occurs_in m.choices m.normal f) _ (λ none. some (ap length table_of ∙ none))

          occurs_fills : occurs_in m.choices m.normal f ≡ true →
              length table ≡ tuple_count (bounds_in m symbol)
          occurs_fills is =
              ap length table_of
              ∙ symbol_long m.choices m.normal m.model ready.well_formed f symbol found
              is

          pub symbol_fills : (length table ≡ 0 → ⊥) →
              length table ≡ tuple_count (bounds_in m symbol)
          symbol_fills some = occurs_fills (symbol_occurs some)

          pub symbol_inside : (at : ℕ) → (length table ≡ 0 → ⊥) →
              IsPlaced (bounds_in m symbol) (numbers_in m symbol members elements) at →
              at < length table
          symbol_inside at some placed =
              omega (arith, symbol_fills some, placed_within (bounds_in m symbol) _ at placed)

          pub symbol_none : length table ≡ 0 → 0 ≡ entry_in m f symbol members elements
          symbol_none none =
              entry_none table _ none
              ∙ ap (λ t. slice_index t (place (replicate (length (numbers_in m symbol members elements))
              size) (numbers_in m symbol members elements))) table_of
              ∙ sym (entry_is m.choices m.normal m.model f
              (numbers_in m symbol members elements) symbol_plain)

          pub symbol_is : (at : ℕ) →
              IsPlaced (bounds_in m symbol) (numbers_in m symbol members elements) at →
              slice_index table at ≡ entry_in m f symbol members elements
          symbol_is at placed =
              ap (λ t. slice_index t at) table_of
              ∙ ap (slice_index (table_in m f))
              (placed.place_is
              ∙ ap (λ n. place (replicate n size) (numbers_in m symbol members elements))
              (sym as_many_numbers))
              ∙ sym (entry_is m.choices m.normal m.model f
              (numbers_in m symbol members elements) symbol_plain)

          placed_numbers : IsPlaced (bounds_in m symbol) (numbers_in m symbol members elements)
              (place (bounds_in m symbol) (numbers_in m symbol members elements))
          placed_numbers = record { place_is = refl; below = each_number }

          -- a function's entry is a number of the domain
          pub entry_small : (ty : Ty) → symbol.result ≡ Some ty → (length table ≡ 0 → ⊥) →
              entry_in m f symbol members elements < m.model.size
          entry_small ty gives some =
              let at : ℕ = place (bounds_in m symbol) (numbers_in m symbol members elements) in
              let inside : at < length (table_in m f) =
              subst (λ t. at < length t) table_of (symbol_inside at some placed_numbers) in
              subst (λ n. n < m.model.size)
              (ap (λ t. slice_index t at) (sym table_of) ∙ symbol_is at placed_numbers)
              (symbol_below m.choices m.normal m.model ready.well_formed f symbol found
              ty gives at inside)

          -- an absent symbol gives zeros
          pub absent_is : length table ≡ 0 → 0 ≡ (typed_in m).symbol_at f members elements
          absent_is none =
              ⊎_elim
              (λ is. absurd (omega (
                arith,
                none,
                occurs_fills is,
                placed_within (bounds_in m symbol) _ _ placed_numbers,
              )))
              (λ fails.
              sym (ap (λ (o : Option Symbol). lifted_at m.choices (all_numbers m.normal)
              (occurs_in m.choices m.normal) (marked_in m) (lift_in m) f o members elements) found
              ∙ ap (λ (b : Bool). cond b (lifted_value (lift_in m) members symbol.result
              ((marked_in m).symbol_at f
              (selected (m.choices.keeps symbol) members
              ++ numbers_of (lift_in m) size (map (member_of (typed_in m) members)
              symbol.arguments) elements))) 0) fails))
              (cases_Bool (occurs_in m.choices m.normal f))

          -- what the lifted structure gives where it occurs
          module _ (some : length table ≡ 0 → ⊥) where
            given_is : lifted_value (lift_in m) members symbol.result
                (entry_in m f symbol members elements)
                ≡ (typed_in m).symbol_at f members elements
            given_is =
                sym (ap (λ (o : Option Symbol). lifted_at m.choices (all_numbers m.normal)
                (occurs_in m.choices m.normal) (marked_in m) (lift_in m) f o members elements) found
                ∙ ap (λ (b : Bool). cond b (lifted_value (lift_in m) members symbol.result
                ((marked_in m).symbol_at f
                (selected (m.choices.keeps symbol) members
                ++ numbers_of (lift_in m) size (map (member_of (typed_in m) members)
                symbol.arguments) elements))) 0) (symbol_occurs some))

            pub truth_is : symbol.result ≡ None →
                entry_in m f symbol members elements ≡ (typed_in m).symbol_at f members elements
            truth_is gives =
                sym (ap (λ (o : Option Ty). lifted_value (lift_in m) members o
                (entry_in m f symbol members elements)) gives)
                ∙ given_is

            pub rank_is : (ty : Ty) → symbol.result ≡ Some ty →
                count_below ((lift_in m).into (member_of (typed_in m) members ty)
                (entry_in m f symbol members elements))
                (picks_in m (member_of (typed_in m) members ty))
                ≡ (typed_in m).symbol_at f members elements
            rank_is ty gives =
                sym (ap (λ (o : Option Ty). lifted_value (lift_in m) members o
                (entry_in m f symbol members elements)) gives)
                ∙ given_is

-- a symbol of the signature
pub symbol_in : (m : Parts) → IsMarked m → (f : ℕ) (symbol : Symbol) →
    slice_get m.normal.signature.symbols f ≡ Some symbol → IsSymbolIn m symbol
symbol_in m ready f symbol at = record {
  typed = symbol_typed m.normal.signature m.normal.signature.symbols f symbol at ready.signature;
  plain = λ by_sort. parameters_none m.normal (ready.monomorphic by_sort) f symbol at;
}

-- a symbol as code reads it
pub stated_is : (symbols found : List Symbol) (f : ℕ) (symbol stated : Symbol) →
    slice_get symbols f ≡ Some symbol → found ≡ symbols → stated ≡ get_or found f stated →
    symbol ≡ stated
stated_is symbols found f symbol stated at same is =
    sym (is
    ∙ ap (λ (xs : List Symbol). get_or xs f stated) same
    ∙ get_or_from_slice_get symbols f symbol stated at)
