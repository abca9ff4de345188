-- What is lifted by sort, over the list of sorts: how many numbers its tables hold, and what its
-- constructors give.
use Rattle.std.specs.Prelude.{ℕ, suc, ◌+◌, ◌<◌, ◌≤◌, ◌^◌, ◌≡◌, Bool, true, false, List, [], ◌∷◌, length, map, replicate, sum, sum_by, cond, ltb, get_or, slice_get, slice_index, unwrap_or, Some, None, IsTrue}
use Rattle.std.specs.List.{AllByRecursion, list_any}
use Rattle.std.proofs.Common.{refl, sym, ap, ◌∙◌, subst, arith}
use Rattle.std.proofs.lemmas.Bool.{lt-ltb, ltb-true, false≢true}
use Rattle.std.proofs.lemmas.List.{get_or_default}
use Rattle.std.proofs.lemmas.List.Sums.{sum_by-cons, passes_at_first}
use Rattle.enc_base.specs.Counts.{in_64_bits, most_entries}
use Rattle.enc_base.specs.Tables.{EachBelow, tuple_count, place, total}
use Rattle.enc_base.proofs.Tables.{place_within}
use Rattle.tf_core.specs.declared.ty.Ty.{Ty}
use Rattle.tf_core.specs.declared.ty.Ty.TheVariants as type
use Rattle.tf_core.specs.declared.signature.Constructor.{Constructor}
use Rattle.tf_core.specs.declared.signature.Symbol.{Symbol}
use Rattle.tf_core.specs.declared.signature.Signature.{Signature}
use Rattle.tf_core.specs.declared.normal.Normal.{Normal}
use Rattle.tf_core.specs.Sorts.{declared_types, result_types, sorts}
use Rattle.tf_core.specs.Sound.{is_monomorphic, IsSoundNormal}
use Rattle.tf_core.specs.Types.{same_type, type_value}
use Rattle.tf_core.specs.Structures.{Typed, member_of}
use Rattle.tf_core.proofs.Typed.{same_type-says}
use Rattle.tf_types.specs.Numbers.{IsOneToOne}
use Rattle.tf_naked.specs.SortLaws.{AreSorts}
use Rattle.tf_naked.proofs.HeldTypes.{declared_sorts, sort_arguments, sorts_front}
use Rattle.tf_naked.proofs.SortTypes.{stand_once}
use Rattle.structure_tables.specs.EntryCounts.{symbol_count, typed_count}
use Rattle.enc_marks.specs.declared.choices.Marking.{Marking}
use Rattle.enc_marks.specs.declared.choices.Marking.TheVariants.{BySort}
use Rattle.enc_marks.specs.Encoded.{all_numbers}
use Rattle.enc_marks.specs.Occurrence.{count_below}
use Rattle.enc_laws.specs.Lifted.{lift_by, formed_sort, sort_at}
use Rattle.enc_laws.proofs.Ranked.{length-listed}
use Rattle.enc_laws.proofs.SortsFormed.{number_within, some_sort, sort_value, parameters_none}
use Rattle.enc_models.specs.Calls.Lifting.{Parts, marked_in, members_in, picks_in, typed_in, IsTableOver, AreConstructorTables}
use Rattle.enc_models.specs.Calls.SortNumbers.{number_in, sizes_among, count_over_sorts, formed_of, listed_at, AreAmong, AreArgumentsAmong, IsEntered, AreEntered}
use Rattle.enc_models.proofs.OwnMarks.{members-by_sort}
use Rattle.enc_models.proofs.SortNumbers.{there_at}

-- ---- the list of sorts

pub sorts_once : (normal : Normal) → IsOneToOne (sorts normal)
sorts_once normal a b ty first second =
    sym (stand_once normal a ty first) ∙ stand_once normal b ty second

pub sorts_arguments : (normal : Normal) → AreArgumentsAmong (sorts normal)
sorts_arguments normal = sort_arguments normal

each_argument : (normal : Normal) (symbols : List Symbol) →
    AllByRecursion (λ (symbol : Symbol). AreSorts normal (declared_types symbol)) symbols →
    AllByRecursion (λ (symbol : Symbol). AreAmong (sorts normal) symbol.arguments) symbols
each_argument normal [] are = tt
each_argument normal (symbol ∷ symbols) are = (
  sorts_front normal symbol.arguments (result_types symbol.result) are.0,
  each_argument normal symbols are.1,
)

pub arguments_among : (normal : Normal) →
    AllByRecursion (λ (symbol : Symbol). AreAmong (sorts normal) symbol.arguments)
    normal.signature.symbols
arguments_among normal = each_argument normal normal.signature.symbols (declared_sorts normal)

-- ---- the sort that a constructor forms, as it is entered

module _ (normal : Normal) (c arity : ℕ) (table : List ℕ)
    (are : IsEntered (sorts normal) (length (sorts normal)) c arity table) (members : List ℕ)
    (below : EachBelow (replicate arity (length (sorts normal))) members)
  where
    abbrev listed : List Ty
    listed = sorts normal

    abbrev ty : Ty
    ty = formed_of (sorts normal) c members

    abbrev number : ℕ
    number = number_in (sorts normal) (formed_of (sorts normal) c members)

    by : (b : Bool) → ltb number (length listed) ≡ b →
        get_or table (place (replicate arity (length (sorts normal))) members) 0
        ≡ unwrap_or (cond b (Some number) None) 0
    by true is =
        let within : number < length listed = ltb-true number (length listed) is in
        are.formed members below number within
        (sym (same_type-says ty (listed_at listed number)
        (passes_at_first (same_type ty) listed (type.Var 0) within)))
    by false is =
        are.none members below
        (λ i within same.
        let there : IsTrue (list_any (same_type ty) listed) =
        subst (λ one. IsTrue (list_any (same_type one) listed)) same
        (there_at listed i (listed_at listed i) within (read i within)) in
        false≢true (sym is ∙ lt-ltb number (length listed)
        (number_within (same_type ty) listed there)))
      where
        read : (i : ℕ) → i < length listed → listed_at listed i ≡ get_or listed i (listed_at listed i)
        read i within = get_or_default listed i (type.Var 0) (listed_at listed i) within

    pub entered-formed : get_or table (place (replicate arity (length (sorts normal))) members) 0
        ≡ formed_sort normal c members
    entered-formed = by (ltb number (length listed)) refl

module _ (m : Parts) (by_sort : m.choices.marking ≡ BySort) where
  formed-by_sort : (c : ℕ) (members : List ℕ) →
      formed_sort m.normal c members ≡ (typed_in m).constructor_at c members
  formed-by_sort c members =
      sym (ap (λ (k : Marking). (lift_by k m.choices m.normal (all_numbers m.normal)
      (marked_in m)).constructor_at c members) by_sort)

  pub size_count : length (typed_in m).sizes ≡ length (sorts m.normal)
  size_count =
      length-listed (members_in m) 0 (λ n. count_below m.model.size (picks_in m n))
      ∙ members-by_sort m by_sort

  table_entered : (c arity : ℕ) (table : List ℕ) →
      IsEntered (sorts m.normal) (length (sorts m.normal)) c arity table →
      IsTableOver m c arity table
  table_entered c arity table are =
      let count = members-by_sort m by_sort in
      let shared : (members : List ℕ) → EachBelow (replicate arity (members_in m)) members →
      EachBelow (replicate arity (length (sorts m.normal))) members =
      (λ members below. subst (λ n. EachBelow (replicate arity n) members) count below) in
      record {
        fills = λ some.
            are.length_is ∙ ap (λ n. tuple_count (replicate arity n)) (sym count);
        none = λ none members below.
            absurd (omega (
              arith,
              none,
              are.length_is,
              place_within (replicate arity (length (sorts m.normal))) members
                  (shared members below),
            ));
        gives = λ members below.
            ap (λ n. slice_index table (place (replicate arity n) members)) count
            ∙ entered-formed m.normal c arity table are members (shared members below)
            ∙ formed-by_sort c members;
      }

  pub tables_entered : (tables : List (List ℕ)) →
      AreEntered m.normal.signature (sorts m.normal) (length (sorts m.normal)) tables →
      AreConstructorTables m tables
  tables_entered tables are = record {
    count = are.length_is;
    each = λ c constructor found.
        table_entered c constructor.arity (get_or tables c []) (are.each c constructor found);
  }

  -- ---- how many numbers the tables hold

  module _ (monomorphic : IsTrue (is_monomorphic m.normal)) (sound : IsSoundNormal m.normal) where
    abbrev typed : Typed
    typed = typed_in m

    member-by_sort : (ty : Ty) → IsTrue (list_any (same_type ty) (sorts m.normal)) →
        member_of typed [] ty ≡ number_in (sorts m.normal) ty
    member-by_sort ty is =
        ap (λ (k : Marking). type_value (lift_by k m.choices m.normal (all_numbers m.normal)
        (marked_in m)).constructor_at [] ty) by_sort
        ∙ sort_value m.normal monomorphic sound ty [] is

    arguments_sized : (types : List Ty) → AreAmong (sorts m.normal) types →
        map (λ ty. slice_index typed.sizes (member_of typed [] ty)) types
        ≡ sizes_among (sorts m.normal) typed.sizes types
    arguments_sized [] are = refl
    arguments_sized (ty ∷ types) are =
        ap (λ n. slice_index typed.sizes n
        ∷ map (λ one. slice_index typed.sizes (member_of typed [] one)) types)
        (member-by_sort ty are.0)
        ∙ ap (λ rest. slice_index typed.sizes (number_in (sorts m.normal) ty) ∷ rest)
        (arguments_sized types are.1)

    symbol_counted : (symbol : Symbol) → symbol.parameters ≡ 0 →
        AreAmong (sorts m.normal) symbol.arguments →
        symbol_count typed symbol
        ≡ tuple_count (sizes_among (sorts m.normal) typed.sizes symbol.arguments)
    symbol_counted symbol none are =
        ap (λ n. total (replicate n (length typed.sizes)) (λ members. tuple_count (map (λ ty.
        slice_index typed.sizes (member_of typed members ty)) symbol.arguments))) none
        ∙ ap tuple_count (arguments_sized symbol.arguments are)

    symbols_counted : (symbols : List Symbol) →
        ((f : ℕ) (symbol : Symbol) → slice_get symbols f ≡ Some symbol → symbol.parameters ≡ 0) →
        AllByRecursion (λ (symbol : Symbol). AreAmong (sorts m.normal) symbol.arguments) symbols →
        sum_by (symbol_count typed) symbols
        ≡ sum_by (λ (symbol : Symbol). tuple_count (sizes_among (sorts m.normal) typed.sizes
        symbol.arguments)) symbols
    symbols_counted [] plain are = refl
    symbols_counted (symbol ∷ symbols) plain are =
        let other : Symbol → ℕ = λ one. tuple_count (sizes_among (sorts m.normal) typed.sizes
        one.arguments) in
        sum_by-cons (symbol_count typed) symbol symbols
        ∙ ap (λ n. n + sum_by (symbol_count typed) symbols)
        (symbol_counted symbol (plain 0 symbol refl) are.0)
        ∙ ap (λ n. other symbol + n)
        (symbols_counted symbols (λ f one at. plain (f + 1) one (next f one at)) are.1)
        ∙ sym (sum_by-cons other symbol symbols)
      where
        next : (f : ℕ) (one : Symbol) → slice_get symbols f ≡ Some one →
            slice_get (symbol ∷ symbols) (f + 1) ≡ Some one
        next f one at =
            let e : f + 1 ≡ suc f = omega arith in
            ap (slice_get (symbol ∷ symbols)) e ∙ at

    pub counted-by_sort :
        count_over_sorts m.normal.signature (typed_in m).sizes (sorts m.normal)
        ≡ typed_count m.normal.signature (typed_in m)
    counted-by_sort =
        ap (λ n. sum typed.sizes
        + sum_by (λ (constructor : Constructor). tuple_count
        (replicate constructor.arity (length typed.sizes))) m.normal.signature.constructors
        + n)
        (sym (symbols_counted m.normal.signature.symbols (parameters_none m.normal monomorphic)
        (arguments_among m.normal)))

-- the constructors' entries are fewer than all
pub constructors_within : (g : Signature) (sizes : List ℕ) (listed : List Ty) →
    length sizes ≡ length listed → (entries : ℕ) →
    entries ≡ in_64_bits (count_over_sorts g sizes listed) → entries ≤ most_entries →
    sum_by (λ (constructor : Constructor). tuple_count
    (replicate constructor.arity (length listed))) g.constructors ≤ most_entries
constructors_within g sizes listed same entries exact within =
    subst (λ n. sum_by (λ (constructor : Constructor). tuple_count
    (replicate constructor.arity n)) g.constructors ≤ most_entries) same
    (omega (arith, exact, within))
