-- Numbers that are put under symbols, and symbol instances that come to be known so.
use Rattle.std.specs.Prelude.{ℕ, zero, suc, ◌≡◌, ◌↔◌, ◌<◌, ◌≤◌, ◌+◌, ◌⊎◌, Bool, true, false, List, [], ◌∷◌, ◌++◌, map, length, take, get_or, set}
use Rattle.std.specs.List.{Contains}
use Rattle.std.proofs.Common.{refl, sym, ap, subst, ◌∙◌, arith, inl, inr}
use Rattle.std.proofs.lemmas.Bool.{cases_eq}
use Rattle.std.proofs.lemmas.List.{take_more, take_all, length-map, length-set, map-append, get_or_default}
use Rattle.std.proofs.Math.ListN.{get_or-map}
use Rattle.std.proofs.lemmas.List.Elements.{Contains-append_left, Contains-append_right, Contains-append_cases, Contains-push, Contains-push_cases}
use Rattle.std.proofs.lemmas.Option.{same_Some}
use Rattle.indexmap.specs.IndexSet.{IndexSet}
use Rattle.tf_core.specs.declared.ty.Ty.{Ty}
use Rattle.tf_core.specs.declared.ty.Ty.TheVariants as type
use Rattle.tf_types.specs.declared.node.TypeId.{TypeId}
use Rattle.tf_core.specs.Types.{instantiate}
use Rattle.tf_core.proofs.Types.{instantiate-apply}
use Rattle.tf_types.specs.Numbers.{Denotes, Extends, IsOneToOne, AreNumbers, type_at}
use Rattle.tf_types.proofs.Numbers.{Denotes-extended, Extends-itself, Extends-twice, type_at-Denotes, types_at-extended}
use Rattle.tf_types.proofs.Nodes.{apply_parts}
use Rattle.enc_mono.specs.declared.instances.Origin.{Origin}
use Rattle.enc_mono.specs.declared.known.Known.{Known}
use Rattle.enc_mono.specs.Instances.{instance_under}
use Rattle.enc_mono.specs.Calls.Matched.{denoted}
use Rattle.enc_mono.specs.Calls.Numbered.{as_type, numbers_of, keys_in, HasInstance, IsFiled}
use Rattle.enc_mono.specs.Calls.Searched.{IsPut}
use Rattle.enc_mono.specs.Calls.Known.{FilesId, index_in, IsKept, IsNamed, Files}
use Rattle.enc_mono.proofs.Extending.{only, alone}

-- one set of an index is changed

module _ {S : Type 0} (new : IndexSet TypeId S) where
  numbers-set_same : (index : List (IndexSet TypeId S)) (symbol : ℕ) → symbol < length index →
      numbers_of (keys_in (set index symbol new)) symbol ≡ new.keys
  numbers-set_same [] symbol within = absurd (omega (arith, within))
  numbers-set_same (first ∷ index) zero within = refl
  numbers-set_same (first ∷ index) (suc symbol) within =
      numbers-set_same index symbol (omega (arith, within))

  numbers-set_other : (index : List (IndexSet TypeId S)) (symbol f : ℕ) → (f ≡ symbol → ⊥) →
      numbers_of (keys_in (set index symbol new)) f ≡ numbers_of (keys_in index) f
  numbers-set_other [] symbol f other = refl
  numbers-set_other (first ∷ index) zero zero other = absurd (other refl)
  numbers-set_other (first ∷ index) zero (suc f) other = refl
  numbers-set_other (first ∷ index) (suc symbol) zero other = refl
  numbers-set_other (first ∷ index) (suc symbol) (suc f) other =
      numbers-set_other index symbol f (λ same. other (ap suc same))

numbers-read : {S : Type 0} (index : List (IndexSet TypeId S)) (symbol : ℕ)
    (default : IndexSet TypeId S) → symbol < length index →
    numbers_of (keys_in index) symbol ≡ (get_or index symbol default).keys
numbers-read [] symbol default within = absurd (omega (arith, within))
numbers-read (first ∷ index) zero default within = refl
numbers-read (first ∷ index) (suc symbol) default within =
    numbers-read index symbol default (omega (arith, within))

module _ {S : Type 0} (index : List (IndexSet TypeId S)) (symbol : ℕ)
    (default new : IndexSet TypeId S) (id : TypeId) (within : symbol < length index)
  where
    abbrev read : IndexSet TypeId S
    read = get_or index symbol default

    abbrev changed : List (List TypeId)
    changed = keys_in (set index symbol new)

    here : numbers_of changed symbol ≡ new.keys
    here = numbers-set_same new index symbol within

    before : numbers_of (keys_in index) symbol ≡ read.keys
    before = numbers-read index symbol default within

    module _ (there : Contains new.keys id)
        (kept : (other : TypeId) → Contains read.keys other → Contains new.keys other)
        (no_other : (other : TypeId) → Contains new.keys other →
        Contains read.keys other ⊎ (id ≡ other))
      where
        kept_at : (f : ℕ) (other : TypeId) → (f ≡ symbol) ⊎ (f ≡ symbol → ⊥) →
            Contains (numbers_of (keys_in index) f) other → Contains (numbers_of changed f) other
        kept_at f other (inl same) at =
            subst (λ g. Contains (numbers_of changed g) other) (sym same)
            (subst (λ list. Contains list other) (sym here)
            (kept other (subst (λ list. Contains list other) before
            (subst (λ g. Contains (numbers_of (keys_in index) g) other) same at))))
        kept_at f other (inr differs) at =
            subst (λ list. Contains list other) (sym (numbers-set_other new index symbol f differs))
            at

        no_other_at : (f : ℕ) (other : TypeId) → (f ≡ symbol) ⊎ (f ≡ symbol → ⊥) →
            Contains (numbers_of changed f) other →
            Contains (numbers_of (keys_in index) f) other ⊎ ((f ≡ symbol) × (other ≡ id))
        no_other_at f other (inl same) at =
            elim (no_other other (subst (λ list. Contains list other) here
            (subst (λ g. Contains (numbers_of changed g) other) same at))) [
              | inl was ↦ inl (subst (λ g. Contains (numbers_of (keys_in index) g) other) (sym same)
                  (subst (λ list. Contains list other) (sym before) was))
              | inr new_one ↦ inr (same, sym new_one)
            ]
        no_other_at f other (inr differs) at =
            inl (subst (λ list. Contains list other)
            (numbers-set_other new index symbol f differs) at)

        pub FilesId-changed : FilesId (keys_in index) changed symbol id
        FilesId-changed = record {
          count = length-map (set index symbol new) (λ (s : IndexSet TypeId S). s.keys)
              ∙ length-set index symbol new
              ∙ sym (length-map index (λ (s : IndexSet TypeId S). s.keys));
          there = subst (λ list. Contains list id) (sym here) there;
          kept = λ f other at. kept_at f other (cases_eq f symbol) at;
          no_other = λ f other at. no_other_at f other (cases_eq f symbol) at;
        }

    put_there : (added : Bool) → IsPut read.keys new.keys id added → Contains new.keys id
    put_there true put =
        subst (λ list. Contains list id) (sym put) (Contains-push read.keys id)
    put_there false put = subst (λ list. Contains list id) (sym put.0) put.1

    put_kept : (added : Bool) → IsPut read.keys new.keys id added → (other : TypeId) →
        Contains read.keys other → Contains new.keys other
    put_kept true put other at =
        subst (λ list. Contains list other) (sym put)
        (Contains-append_left read.keys (id ∷ []) other at)
    put_kept false put other at = subst (λ list. Contains list other) (sym put.0) at

    put_no_other : (added : Bool) → IsPut read.keys new.keys id added → (other : TypeId) →
        Contains new.keys other → Contains read.keys other ⊎ (id ≡ other)
    put_no_other true put other at =
        Contains-push_cases read.keys id other (subst (λ list. Contains list other) put at)
    put_no_other false put other at = inl (subst (λ list. Contains list other) put.0 at)

    pub FilesId-put : (added : Bool) → IsPut read.keys new.keys id added →
        FilesId (keys_in index) changed symbol id
    FilesId-put added put =
        FilesId-changed (put_there added put) (put_kept added put) (put_no_other added put)

-- symbol instances as types

pub as_type-same : (origin other : Origin) → as_type origin ≡ as_type other → origin ≡ other
as_type-same origin other same =
    let parts = apply_parts origin.symbol other.symbol origin.types other.types same in
    ap (λ f. record { symbol = f; types = origin.types }) parts.0
    ∙ ap (λ ts. record { symbol = other.symbol; types = ts }) parts.1

same_type_of : (types : List Ty) (id : TypeId) (ty other : Ty) → Denotes types id ty →
    Denotes types id other → ty ≡ other
same_type_of types id ty other first second = same_Some ty other (sym first ∙ second)

-- what comes to be known

module _ (old mid : Known) (kept : IsKept old) (grows : Extends old.table mid.table)
    (apart : IsOneToOne mid.table) (same : index_in mid ≡ index_in old)
  where
    filed_later : IsFiled mid.table (index_in mid)
    filed_later f id at =
        let was = kept.filed f id (subst (λ index. Contains (numbers_of index f) id) same at) in
        (was.0, Denotes-extended old.table mid.table grows id (type.Apply f was.0) was.1)

    was_known : (origin : Origin) → HasInstance mid.table (index_in mid) origin →
        HasInstance old.table (index_in old) origin
    was_known origin has =
        let at = subst (λ index. Contains (numbers_of index origin.symbol) has.0) same has.1 in
        let was = kept.filed origin.symbol has.0 at in
        let equal = same_type_of mid.table has.0 (type.Apply origin.symbol was.0) (as_type origin)
        (Denotes-extended old.table mid.table grows has.0 (type.Apply origin.symbol was.0) was.1)
        has.2 in
        (has.0, at, subst (Denotes old.table has.0) equal was.1)

    still_known : (origin : Origin) → HasInstance old.table (index_in old) origin →
        HasInstance mid.table (index_in mid) origin
    still_known origin has = (
      has.0,
      subst (λ index. Contains (numbers_of index origin.symbol) has.0) (sym same) has.1,
      Denotes-extended old.table mid.table grows has.0 (as_type origin) has.2,
    )

    pub Files-grown : Files [] old mid
    Files-grown = record {
      grown = grows;
      count = ap length same;
      kept = record { one_to_one = apart; filed = filed_later };
      exact = λ origin. (
        λ has. inl (was_known origin has),
        λ either. elim either [
          | inl has ↦ still_known origin has
          | inr nowhere ↦ absurd (let within : nowhere.0 < 0 = nowhere.1 in omega (arith, within))
        ],
      );
    }

module _ (old new : Known) (kept : IsKept old) (same : new.table ≡ old.table) (origin : Origin)
    (id : TypeId) (denotes : Denotes old.table id (as_type origin))
    (files : FilesId (index_in old) (index_in new) origin.symbol id)
  where
    filed_at : (f : ℕ) (other : TypeId) →
        Contains (numbers_of (index_in old) f) other ⊎ ((f ≡ origin.symbol) × (other ≡ id)) →
        (arguments : List Ty) × Denotes old.table other (type.Apply f arguments)
    filed_at f other (inl was) = kept.filed f other was
    filed_at f other (inr now) = (
      origin.types,
      subst (λ n. Denotes old.table n (type.Apply f origin.types)) (sym now.1)
          (subst (λ g. Denotes old.table id (type.Apply g origin.types)) (sym now.0) denotes),
    )

    known_by : (other : Origin) (number : TypeId) →
        Contains (numbers_of (index_in old) other.symbol) number
        ⊎ ((other.symbol ≡ origin.symbol) × (number ≡ id)) →
        Denotes old.table number (as_type other) →
        HasInstance old.table (index_in old) other ⊎ Contains (origin ∷ []) other
    known_by other number (inl was) is = inl (number, was, is)
    known_by other number (inr now) is =
        inr (subst (Contains (origin ∷ []))
        (as_type-same origin other (same_type_of old.table id (as_type origin) (as_type other)
        denotes (subst (λ n. Denotes old.table n (as_type other)) now.1 is)))
        (alone origin))

    back : (other : Origin) → HasInstance old.table (index_in old) other ⊎ Contains
        (origin ∷ []) other →
        HasInstance old.table (index_in new) other
    back other (inl has) = (has.0, files.kept other.symbol has.0 has.1, has.2)
    back other (inr one) =
        subst (HasInstance old.table (index_in new)) (only origin other one)
        (id, files.there, denotes)

    pub Files-one : Files (origin ∷ []) old new
    Files-one = record {
      grown = subst (Extends old.table) (sym same) (Extends-itself old.table);
      count = files.count;
      kept = record {
        one_to_one = subst IsOneToOne (sym same) kept.one_to_one;
        filed = subst (λ types. IsFiled types (index_in new)) (sym same)
            (λ f other at. filed_at f other (files.no_other f other at));
      };
      exact = λ other. subst (λ types. HasInstance types (index_in new) other
          ↔ (HasInstance old.table (index_in old) other ⊎ Contains (origin ∷ []) other)) (sym same) (
            λ has. known_by other has.0 (files.no_other other.symbol has.0 has.1) has.2,
            back other,
          );
    }

module _ (first second : List Origin) (old mid new : Known) (once : Files first old mid)
    (again : Files second mid new)
  where
    forward : (origin : Origin) →
        HasInstance mid.table (index_in mid) origin ⊎ Contains second origin →
        HasInstance old.table (index_in old) origin ⊎ Contains (first ++ second) origin
    forward origin (inl has) =
        elim ((once.exact origin).0 has) [
          | inl was ↦ inl was
          | inr at ↦ inr (Contains-append_left first second origin at)
        ]
    forward origin (inr at) = inr (Contains-append_right first second origin at)

    backward : (origin : Origin) →
        HasInstance old.table (index_in old) origin ⊎ Contains (first ++ second) origin →
        HasInstance new.table (index_in new) origin
    backward origin (inl was) = (again.exact origin).1 (inl ((once.exact origin).1 (inl was)))
    backward origin (inr at) =
        elim (Contains-append_cases first second origin at) [
          | inl front ↦ (again.exact origin).1 (inl ((once.exact origin).1 (inr front)))
          | inr behind ↦ (again.exact origin).1 (inr behind)
        ]

    pub Files-twice : Files (first ++ second) old new
    Files-twice = record {
      grown = Extends-twice old.table mid.table new.table once.grown again.grown;
      count = again.count ∙ once.count;
      kept = again.kept;
      exact = λ origin. (λ has. forward origin ((again.exact origin).0 has), backward origin);
    }

pub Files-nothing : (old : Known) → IsKept old → Files [] old old
Files-nothing old kept =
    Files-grown old old kept (Extends-itself old.table) kept.one_to_one refl

-- a number that denotes a symbol instance in a table that has grown was put under its symbol
module _ (old new : Known) (grown : List Ty) (kept : IsKept old)
    (grows : Extends old.table grown) (apart : IsOneToOne grown) (same : new.table ≡ grown)
    (origin : Origin) (id : TypeId) (denotes : Denotes grown id (as_type origin))
    (files : FilesId (index_in old) (index_in new) origin.symbol id)
  where
    abbrev mid : Known
    mid = record old { table = grown }

    pub Files-filed : Files (origin ∷ []) old new
    Files-filed =
        let first = Files-grown old mid kept grows apart refl in
        Files-twice [] (origin ∷ []) old mid new first
        (Files-one mid new first.kept same origin id denotes files)

-- what a symbol instance is under a substitution
pub instance_denoted-type : (types : List Ty) (origin : Origin) →
    instantiate types (as_type origin) ≡ as_type (instance_under types origin)
instance_denoted-type types origin = instantiate-apply types origin.symbol origin.types

pub instance_denoted : (first second third : List Ty) → Extends first second →
    (ids : List TypeId) → AreNumbers first ids → (pattern : Ty) (origin : Origin) →
    pattern ≡ as_type origin → (id : TypeId) → Denotes second id pattern → (made : TypeId) →
    Denotes third made (instantiate (map (type_at second) ids) (type_at second id)) →
    Denotes third made (as_type (instance_under (denoted first ids) origin))
instance_denoted first second third grows ids numbers pattern origin is id denotes made given =
    subst (Denotes third made)
    (ap (instantiate (map (type_at second) ids)) (type_at-Denotes second id pattern denotes ∙ is)
    ∙ ap (λ ts. instantiate ts (as_type origin)) (types_at-extended first second grows ids numbers)
    ∙ instance_denoted-type (denoted first ids) origin)
    given

-- as loops file them

pub named_still : (first later : ℕ) → later ≡ first → (ty : Ty) → IsNamed first ty →
    IsNamed later ty
named_still first later same ty = subst (λ n. IsNamed n ty) (sym same)

module _ (instances : List Ty) (k : ℕ) (ty : Ty) (within : k < length instances)
    (is : ty ≡ get_or instances k ty) (origins : List Origin)
    (are : instances ≡ map as_type origins)
  where
    inside : k < length origins
    inside =
        let long = ap length are ∙ length-map origins as_type in
        omega (arith, within, long)

    abbrev next_origin : Origin
    next_origin = get_or origins k (record { symbol = 0; types = [] })

    pub next_is : ty ≡ as_type next_origin
    next_is =
        is
        ∙ get_or_default instances k ty (as_type (record { symbol = 0; types = [] })) within
        ∙ ap (λ list. get_or list k (as_type (record { symbol = 0; types = [] }))) are
        ∙ get_or-map as_type origins k (record { symbol = 0; types = [] })

    pub next_taken : take (k + 1) origins ≡ take k origins ++ next_origin ∷ []
    next_taken = take_more origins k (record { symbol = 0; types = [] }) inside

pub Files-next : (instances : List Ty) (k : ℕ) (ty : Ty) (old mid new : Known) →
    k < length instances → ty ≡ get_or instances k ty →
    ((origins : List Origin) → instances ≡ map as_type origins →
    Files (take k origins) old mid) →
    ((origin : Origin) → ty ≡ as_type origin → Files (origin ∷ []) mid new) →
    (origins : List Origin) → instances ≡ map as_type origins →
    Files (take (k + 1) origins) old new
Files-next instances k ty old mid new within is so_far one origins are =
    subst (λ front. Files front old new)
    (sym (next_taken instances k ty within is origins are))
    (Files-twice (take k origins) _ old mid new (so_far origins are)
    (one (get_or origins k (record { symbol = 0; types = [] }))
    (next_is instances k ty within is origins are)))

pub Files-all : (instances : List Ty) (origins : List Origin) → instances ≡ map as_type origins →
    (k : ℕ) (old new : Known) → length instances ≤ k → Files (take k origins) old new →
    Files origins old new
Files-all instances origins are k old new all =
    subst (λ front. Files front old new)
    (take_all k origins (let long = ap length are ∙ length-map origins as_type in
    omega (arith, all, long)))

pub Files-next_under : (patterns : List Ty) (k : ℕ) (ty : Ty) (ids : List TypeId)
    (old mid new : Known) → AreNumbers old.table ids → Extends old.table mid.table →
    k < length patterns → ty ≡ get_or patterns k ty →
    ((origins : List Origin) → patterns ≡ map as_type origins →
    Files (map (instance_under (denoted old.table ids)) (take k origins)) old mid) →
    ((origin : Origin) → ty ≡ as_type origin →
    Files (instance_under (denoted mid.table ids) origin ∷ []) mid new) →
    (origins : List Origin) → patterns ≡ map as_type origins →
    Files (map (instance_under (denoted old.table ids)) (take (k + 1) origins)) old new
Files-next_under patterns k ty ids old mid new numbers grows within is so_far one origins are =
    let next : Origin = get_or origins k (record { symbol = 0; types = [] }) in
    let under : Origin → Origin = instance_under (denoted old.table ids) in
    let last = one next (next_is patterns k ty within is origins are) in
    subst (λ front. Files front old new)
    (sym (ap (map under) (next_taken patterns k ty within is origins are)
    ∙ map-append under (take k origins) (next ∷ [])))
    (Files-twice (map under (take k origins)) (under next ∷ []) old mid new (so_far origins are)
    (subst (λ types. Files (instance_under types next ∷ []) mid new)
    (types_at-extended old.table mid.table grows ids numbers) last))

pub Files-all_under : (patterns : List Ty) (origins : List Origin) →
    patterns ≡ map as_type origins → (ids : List TypeId) (k : ℕ) (old new : Known) →
    length patterns ≤ k →
    Files (map (instance_under (denoted old.table ids)) (take k origins)) old new →
    Files (map (instance_under (denoted old.table ids)) origins) old new
Files-all_under patterns origins are ids k old new all =
    subst (λ front. Files (map (instance_under (denoted old.table ids)) front) old new)
    (take_all k origins (let long = ap length are ∙ length-map origins as_type in
    omega (arith, all, long)))
