-- The tables of constructors over the types of a list, as these are entered one after another.
use Rattle.std.specs.Prelude.{ℕ, zero, suc, ◌+◌, ◌*◌, ◌^◌, ◌<◌, ◌≤◌, ◌≡◌, List, [], ◌∷◌, length, map, replicate, sum_by, take, get_or, set, slice_get, Some, None, option_map, IsTrue, Bool}
use Rattle.std.specs.List.{AllByRecursion, list_any}
use Rattle.std.proofs.Common.{refl, sym, ap, subst, ◌∙◌, arith, ⊎_elim}
use Rattle.std.proofs.lemmas.Bool.{cases_eq, cases_lt}
use Rattle.std.proofs.lemmas.Nat.{same_from_place}
use Rattle.std.proofs.lemmas.Option.{same_Some, slice_get-get_or, slice_get_within, slice_get-map, get_or_from_slice_get}
use Rattle.std.proofs.lemmas.List.{get_or-set_same, get_or-set_other, get_or_default, length-set, length-map, length-replicate, get_or-replicate}
use Rattle.std.proofs.lemmas.List.Sums.{sum_by_more, sum_by-take-le}
use Rattle.enc_base.specs.Counts.{most_entries}
use Rattle.enc_base.specs.Tables.{EachBelow, tuple_count, place}
use Rattle.enc_base.proofs.Tables.{place_within, EachBelow-length}
use Rattle.tf_core.specs.declared.ty.Ty.{Ty}
use Rattle.tf_core.specs.declared.ty.Ty.TheVariants as type
use Rattle.tf_core.specs.declared.signature.Constructor.{Constructor}
use Rattle.tf_core.specs.declared.signature.Signature.{Signature}
use Rattle.tf_core.specs.Types.{same_type}
use Rattle.tf_core.specs.Typing.{IsType}
use Rattle.tf_models.proofs.Inversion.{application_parts}
use Rattle.tf_types.specs.Numbers.{IsOneToOne}
use Rattle.tf_types.specs.Instances.{arguments_of}
use Rattle.tf_types.proofs.Instances.{arguments_of-apply}
use Rattle.enc_laws.proofs.SortsFormed.{number_within}
use Rattle.enc_models.specs.Calls.SortNumbers.{number_in, listed_at, formed_of, AreAmong, AreArgumentsAmong, IsEntered, AreEntered}
use Rattle.enc_models.proofs.SortNumbers.{listed-number, all_at, there_at}

-- ---- tuples are told apart by their places

pub same_from_places : (count bound : ℕ) (values others : List ℕ) →
    EachBelow (replicate count bound) values → EachBelow (replicate count bound) others →
    place (replicate count bound) values ≡ place (replicate count bound) others → values ≡ others
same_from_places zero bound [] [] first second same = refl
same_from_places zero bound [] (w ∷ others) first second same = absurd second
same_from_places zero bound (v ∷ values) others first second same = absurd first
same_from_places (suc count) bound [] others first second same = absurd first
same_from_places (suc count) bound (v ∷ values) [] first second same = absurd second
same_from_places (suc count) bound (v ∷ values) (w ∷ others) first second same =
    let bounds : List ℕ = replicate count bound in
    let parts = same_from_place v (place bounds values) w (place bounds others) (tuple_count bounds)
    (place_within bounds values first.1) (place_within bounds others second.1) same in
    ap (λ n. n ∷ values) parts.0
    ∙ ap (λ rest. w ∷ rest)
    (same_from_places count bound values others first.1 second.1 parts.1)

-- ---- types of a list, by their numbers

pub listed_at-there : (listed : List Ty) (i : ℕ) → i < length listed →
    slice_get listed i ≡ Some (listed_at listed i)
listed_at-there listed i within = slice_get-get_or listed i (type.Var 0) within

-- numbers of equal types are equal
listed_at-once : (listed : List Ty) → IsOneToOne listed → (i j : ℕ) → i < length listed →
    j < length listed → listed_at listed i ≡ listed_at listed j → i ≡ j
listed_at-once listed once i j first second same =
    once i j (listed_at listed j) (listed_at-there listed i first ∙ ap Some same)
    (listed_at-there listed j second)

types_once : (listed : List Ty) → IsOneToOne listed → (count : ℕ) (values others : List ℕ) →
    EachBelow (replicate count (length listed)) values →
    EachBelow (replicate count (length listed)) others →
    map (listed_at listed) values ≡ map (listed_at listed) others → values ≡ others
types_once listed once zero [] [] first second same = refl
types_once listed once zero [] (w ∷ others) first second same = absurd second
types_once listed once zero (v ∷ values) others first second same = absurd first
types_once listed once (suc count) [] others first second same = absurd first
types_once listed once (suc count) (v ∷ values) [] first second same = absurd second
types_once listed once (suc count) (v ∷ values) (w ∷ others) first second same =
    let heads : listed_at listed v ≡ listed_at listed w = cc in
    let tails : map (listed_at listed) values ≡ map (listed_at listed) others = cc in
    ap (λ n. n ∷ values) (listed_at-once listed once v w first.0 second.0 heads)
    ∙ ap (λ rest. w ∷ rest)
    (types_once listed once count values others first.1 second.1 tails)

-- the numbers of types that are of the list

pub numbers_below : (listed types : List Ty) → AreAmong listed types →
    EachBelow (replicate (length types) (length listed)) (map (number_in listed) types)
numbers_below listed [] are = tt
numbers_below listed (ty ∷ types) are =
    (number_within (same_type ty) listed are.0, numbers_below listed types are.1)

pub types_of_numbers : (listed types : List Ty) → AreAmong listed types →
    map (listed_at listed) (map (number_in listed) types) ≡ types
types_of_numbers listed [] are = refl
types_of_numbers listed (ty ∷ types) are =
    let own : listed_at listed (number_in listed ty) ≡ ty =
    get_or_from_slice_get listed (number_in listed ty) ty (type.Var 0)
    (listed-number listed ty are.0) in
    ap (λ first. first ∷ map (listed_at listed) (map (number_in listed) types)) own
    ∙ ap (λ rest. ty ∷ rest) (types_of_numbers listed types are.1)

-- ---- a table of zeros has nothing entered

pub none_entered : (listed : List Ty) (c arity : ℕ) →
    IsEntered listed 0 c arity (replicate (tuple_count (replicate arity (length listed))) 0)
none_entered listed c arity = record {
  length_is = length-replicate (tuple_count (replicate arity (length listed))) 0;
  formed = λ members below i within is. absurd (omega (arith, within));
  none = λ members below never.
      get_or-replicate (tuple_count (replicate arity (length listed)))
      (place (replicate arity (length listed)) members) 0 0
      (place_within (replicate arity (length listed)) members below);
}

-- ---- one type more

applied_types : (i j : ℕ) (types others : List Ty) →
    type.Apply i types ≡ type.Apply j others → types ≡ others
applied_types i j types others same =
    sym (arguments_of-apply i types) ∙ ap arguments_of same ∙ arguments_of-apply j others

module _ (listed : List Ty) (once : IsOneToOne listed) (count : ℕ) (within : count < length listed)
    (c arity : ℕ) (table : List ℕ) (are : IsEntered listed count c arity table)
  where
    abbrev bounds : List ℕ
    bounds = replicate arity (length listed)

    -- that this constructor doesn't form of types of the list
    pub entered-other : ((members : List ℕ) → EachBelow (replicate arity (length listed)) members →
        listed_at listed count ≡ formed_of listed c members → ⊥) →
        IsEntered listed (count + 1) c arity table
    entered-other never = record {
      length_is = are.length_is;
      formed = λ members below i inside is.
          ⊎_elim (λ before. are.formed members below i before is)
          (λ past.
          let same : i ≡ count = omega (arith, past, inside) in
          absurd (never members below (ap (listed_at listed) (sym same) ∙ is)))
          (cases_lt i count);
      none = λ members below rest.
          are.none members below (λ i before is. rest i (omega (arith, before)) is);
    }

    -- that it forms of these
    module _ (members : List ℕ) (below : EachBelow (replicate arity (length listed)) members)
        (formed : listed_at listed count ≡ formed_of listed c members)
      where
        abbrev at : ℕ
        at = place (replicate arity (length listed)) members

        inside : at < length table
        inside = omega (arith, place_within bounds members below, are.length_is)

        -- another tuple stands at another place, and forms another type
        apart : (others : List ℕ) → EachBelow (replicate arity (length listed)) others →
            (place (replicate arity (length listed)) others ≡ at → ⊥) →
            listed_at listed count ≡ formed_of listed c others → ⊥
        apart others each differs is =
            let types : map (listed_at listed) members ≡ map (listed_at listed) others =
            applied_types c c _ _ (sym formed ∙ is) in
            differs (ap (place bounds)
            (sym (types_once listed once arity members others below each types)))

        here : (others : List ℕ) → EachBelow (replicate arity (length listed)) others →
            place (replicate arity (length listed)) others ≡ at →
            get_or (set table at count) (place (replicate arity (length listed)) others) 0 ≡ count
        here others each same =
            ap (λ n. get_or (set table at count) n 0) same
            ∙ get_or-set_same table at count 0 inside

        there : (others : List ℕ) → EachBelow (replicate arity (length listed)) others →
            place (replicate arity (length listed)) others ≡ at →
            listed_at listed count ≡ formed_of listed c others
        there others each same =
            formed
            ∙ ap (formed_of listed c)
            (sym (same_from_places arity (length listed) others members each below same))

        pub entered-put : IsEntered listed (count + 1) c arity (set table at count)
        entered-put = record {
          length_is = length-set table at count ∙ are.length_is;
          formed = λ others each i before is.
              ⊎_elim
              (λ same.
              here others each same
              ∙ listed_at-once listed once count i within (omega (arith, before, within))
              (there others each same ∙ sym is))
              (λ differs.
              get_or-set_other table at (place bounds others) count 0 differs
              ∙ ⊎_elim (λ earlier. are.formed others each i earlier is)
              (λ past.
              let same : i ≡ count = omega (arith, past, before) in
              absurd (apart others each differs (ap (listed_at listed) (sym same) ∙ is)))
              (cases_lt i count))
              (cases_eq (place bounds others) at);
          none = λ others each rest.
              ⊎_elim
              (λ same. absurd (rest count (omega arith) (there others each same)))
              (λ differs.
              get_or-set_other table at (place bounds others) count 0 differs
              ∙ are.none others each (λ i earlier is. rest i (omega (arith, earlier)) is))
              (cases_eq (place bounds others) at);
        }

-- ---- the tables of all constructors

-- no number of tuples passes the sum
pub each_within : {A : Type 0} (f : A → ℕ) (items : List A) (i : ℕ) (item : A) →
    slice_get items i ≡ Some item → f item ≤ sum_by f items
each_within f items i item at =
    let inside = slice_get_within items i item at in
    let own : get_or items i item ≡ item = get_or_from_slice_get items i item item at in
    omega (
      arith,
      sum_by_more f items i item inside,
      ap f own,
      sum_by-take-le f items (i + 1),
    )

pub all_zeros : (g : Signature) (listed : List Ty) →
    AreEntered g listed 0 (map (λ (constructor : Constructor). replicate
    (tuple_count (replicate constructor.arity (length listed))) 0) g.constructors)
all_zeros g listed = record {
  length_is = length-map _ _;
  each = λ c constructor at.
      let zeros : Constructor → List ℕ = λ constructor. replicate
      (tuple_count (replicate constructor.arity (length listed))) 0 in
      subst (IsEntered listed 0 c constructor.arity)
      (sym (get_or_from_slice_get (map zeros g.constructors) c (zeros constructor) []
      (slice_get-map zeros g.constructors c ∙ ap (option_map zeros) at)))
      (none_entered listed c constructor.arity);
}

module _ (g : Signature) (listed : List Ty) (once : IsOneToOne listed) (count : ℕ)
    (within : count < length listed) (tables : List (List ℕ))
    (are : AreEntered g listed count tables)
  where
    -- a variable is formed by no constructor
    pub all-variable : (i : ℕ) → listed_at listed count ≡ type.Var i →
        AreEntered g listed (count + 1) tables
    all-variable i is = record {
      length_is = are.length_is;
      each = λ c constructor at.
          entered-other listed once count within c constructor.arity (get_or tables c [])
          (are.each c constructor at)
          (λ members below same. no_variable i c _ (sym is ∙ same));
    }
      where
        no_variable : (i c : ℕ) (types : List Ty) → type.Var i ≡ type.Apply c types → ⊥
        no_variable i c types same = cc

    -- a type that a constructor forms is entered in its table
    module _ (c : ℕ) (types : List Ty) (is : listed_at listed count ≡ type.Apply c types)
        (constructor : Constructor) (at : slice_get g.constructors c ≡ Some constructor)
        (arity : length types ≡ constructor.arity) (among : AreAmong listed types) (n : ℕ)
        (placed : n ≡ place (replicate (length types) (length listed))
        (map (number_in listed) types))
      where
        abbrev numbers : List ℕ
        numbers = map (number_in listed) types

        place_is : n ≡ place (replicate constructor.arity (length listed)) numbers
        place_is = placed ∙ ap (λ k. place (replicate k (length listed)) numbers) arity

        below : EachBelow (replicate constructor.arity (length listed)) numbers
        below =
            subst (λ k. EachBelow (replicate k (length listed)) numbers) arity
            (numbers_below listed types among)

        pub table_within : c < length tables
        table_within =
            omega (arith, slice_get_within g.constructors c constructor at, are.length_is)

        pub place_inside : n < length (get_or tables c [])
        place_inside =
            omega (
              arith,
              place_is,
              place_within (replicate constructor.arity (length listed)) numbers below,
              (are.each c constructor at).length_is,
            )

        formed_here : listed_at listed count ≡ formed_of listed c numbers
        formed_here = is ∙ ap (type.Apply c) (sym (types_of_numbers listed types among))

        entered_here : IsEntered listed (count + 1) c constructor.arity
            (set (get_or tables c []) n count)
        entered_here =
            subst (λ k. IsEntered listed (count + 1) c constructor.arity
            (set (get_or tables c []) k count)) (sym place_is)
            (entered-put listed once count within c constructor.arity (get_or tables c [])
            (are.each c constructor at) numbers below formed_here)

        each_one : (d : ℕ) (other : Constructor) → slice_get g.constructors d ≡ Some other →
            IsEntered listed (count + 1) d other.arity
            (get_or (set tables c (set (get_or tables c []) n count)) d [])
        each_one d other found =
            ⊎_elim
            (λ same.
            let own : constructor ≡ other =
            same_Some constructor other (sym at ∙ ap (slice_get g.constructors) (sym same) ∙ found) in
            subst (IsEntered listed (count + 1) d other.arity)
            (sym (ap (λ k. get_or (set tables c (set (get_or tables c []) n count)) k []) same
            ∙ get_or-set_same tables c (set (get_or tables c []) n count) [] table_within))
            (subst (λ k. IsEntered listed (count + 1) k other.arity
            (set (get_or tables c []) n count)) (sym same)
            (subst (λ (one : Constructor). IsEntered listed (count + 1) c one.arity
            (set (get_or tables c []) n count)) own entered_here)))
            (λ differs.
            subst (IsEntered listed (count + 1) d other.arity)
            (sym (get_or-set_other tables c d (set (get_or tables c []) n count) [] differs))
            (entered-other listed once count within d other.arity (get_or tables d [])
            (are.each d other found)
            (λ members each same. differs (sym (applied_by c d _ _ (sym is ∙ same))))))
            (cases_eq d c)
          where
            applied_by : (i j : ℕ) (types others : List Ty) →
                type.Apply i types ≡ type.Apply j others → i ≡ j
            applied_by i j types others same = cc

        pub all-applied : AreEntered g listed (count + 1)
            (set tables c (set (get_or tables c []) n count))
        all-applied = record {
          length_is = length-set tables c (set (get_or tables c []) n count) ∙ are.length_is;
          each = each_one;
        }

-- ---- a type of the list, as code reads it

pub read_at : (listed : List Ty) (i : ℕ) (ty : Ty) → i < length listed → ty ≡ get_or listed i ty →
    listed_at listed i ≡ ty
read_at listed i ty within is =
    sym (is ∙ get_or_default listed i ty (type.Var 0) within)

-- one that a constructor forms of types of the list, which has a place for each tuple of them
pub record IsFormedSort (g : Signature) (listed : List Ty) (i c : ℕ) (types : List Ty) : Type 0 where
  pub is : listed_at listed i ≡ type.Apply c types
  pub constructor : Constructor
  pub at : slice_get g.constructors c ≡ Some constructor
  pub arity : length types ≡ constructor.arity
  pub among : AreAmong listed types
  pub few : tuple_count (replicate (length types) (length listed)) < 2 ^ 64

pub formed_sort_at : (g : Signature) (listed : List Ty) →
    AllByRecursion (IsType g 0) listed → AreArgumentsAmong listed → (i : ℕ) (ty : Ty) →
    i < length listed → ty ≡ get_or listed i ty → (c : ℕ) (types : List Ty) →
    ty ≡ type.Apply c types → (read : List Ty) → read ≡ types →
    sum_by (λ (constructor : Constructor). tuple_count
    (replicate constructor.arity (length listed))) g.constructors ≤ most_entries →
    IsFormedSort g listed i c read
formed_sort_at g listed typed arguments i ty within is c types applied read same fits =
    let parts = application_parts g 0 ty c types applied
    (all_at (IsType g 0) listed i ty typed within is) in
    let entries : Constructor → ℕ =
    λ constructor. tuple_count (replicate constructor.arity (length listed)) in
    let arity : length read ≡ parts.0.arity = ap length same ∙ parts.2 in
    let long = ap (λ n. tuple_count (replicate n (length listed))) arity in
    record {
      is = read_at listed i ty within is ∙ applied ∙ ap (type.Apply c) (sym same);
      constructor = parts.0;
      at = parts.1;
      arity = arity;
      among =
          subst (AreAmong listed) (sym same)
          (arguments c types
          (subst (λ one. IsTrue (list_any (same_type one) listed)) applied
          (there_at listed i ty within is)));
      few = omega (arith, each_within entries g.constructors c parts.0 parts.1, fits, long);
    }
