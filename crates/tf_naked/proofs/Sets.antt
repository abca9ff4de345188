-- Marks of numbers as the table grows, as marks are added, and as a type is put into the set.
use Rattle.std.specs.Prelude.{ℕ, ◌+◌, ◌-◌, ◌<◌, ◌≤◌, ◌≡◌, ◌⊎◌, Bool, true, false, ◌||◌, List, [], ◌∷◌, ◌++◌, length, get_or, set, slice_get, Some}
use Rattle.std.specs.List.{list_any}
use Rattle.std.proofs.Common.{refl, sym, ap, subst, ◌∙◌, arith, ⊎_elim, inl, inr, length-append}
use Rattle.std.proofs.Math.Bool.{or-false}
use Rattle.std.proofs.lemmas.Bool.{false≢true, or_cases, or_right, cases_eq, cases_lt}
use Rattle.std.proofs.lemmas.Option.{slice_get_within, slice_get-get_or, same_Some}
use Rattle.std.proofs.lemmas.List.{append_assoc, append-nil, get_or-set_same, get_or-set_other}
use Rattle.std.proofs.lemmas.List.Folds.{list_any-append}
use Rattle.tf_core.specs.declared.ty.Ty.{Ty}
use Rattle.tf_core.specs.Types.{same_type}
use Rattle.tf_core.proofs.Typed.{same_type-says, same_type-self}
use Rattle.tf_types.specs.declared.node.TypeId.{TypeId}
use Rattle.tf_types.specs.Numbers.{Denotes, IsOneToOne, Extends}
use Rattle.tf_types.proofs.Numbers.{Denotes-extended}
use Rattle.tf_naked.specs.declared.set.TypeSet.{TypeSet}
use Rattle.tf_naked.specs.Calls.Sets.{IsAmong, AreMarked, IsSetOf, Adds}

-- ---- lists of types

pub among-append : (types others : List Ty) (ty : Ty) →
    list_any (same_type ty) (types ++ others)
    ≡ (list_any (same_type ty) types || list_any (same_type ty) others)
among-append types others ty = list_any-append (same_type ty) types others

pub among-last : (types : List Ty) (one ty : Ty) →
    list_any (same_type ty) (types ++ one ∷ [])
    ≡ (list_any (same_type ty) types || same_type ty one)
among-last types one ty =
    among-append types (one ∷ []) ty
    ∙ ap (λ b. list_any (same_type ty) types || b) (or-false (same_type ty one))

-- ---- marks

pub not_true : (b : Bool) → (b ≡ true → ⊥) → b ≡ false
not_true true never = absurd (never refl)
not_true false never = refl

pub AreMarked-nothing : (table : List Ty) → IsOneToOne table → AreMarked table [] []
AreMarked-nothing table apart = record {
  one_to_one = apart;
  unused = λ i beyond. refl;
  marked = λ id ty is. refl;
  numbered = λ ty there. absurd (false≢true there);
}

-- marks of a list are those of another with the same types
pub AreMarked-same : (table : List Ty) (marks : List Bool) (types others : List Ty) →
    ((ty : Ty) → list_any (same_type ty) types ≡ list_any (same_type ty) others) →
    AreMarked table marks types → AreMarked table marks others
AreMarked-same table marks types others same are = record {
  one_to_one = are.one_to_one;
  unused = are.unused;
  marked = λ id ty is. are.marked id ty is ∙ same ty;
  numbered = λ ty there. are.numbered ty (same ty ∙ there);
}

-- as the table grows
module _ (old new : List Ty) (marks : List Bool) (types : List Ty) (grows : Extends old new)
    (apart : IsOneToOne new) (are : AreMarked old marks types)
  where
    longer : length new ≡ length old + length grows.0
    longer = ap length grows.1 ∙ length-append old grows.0

    -- a new type isn't one of the list
    new_type : (id : TypeId) (ty : Ty) → Denotes new id ty → length old ≤ id.index →
        IsAmong types ty → ⊥
    new_type id ty is beyond there =
        let known = are.numbered ty there in
        let before : known.0.index < length old = slice_get_within old known.0.index ty known.1 in
        let same : id.index ≡ known.0.index =
        apart id.index known.0.index ty is (Denotes-extended old new grows known.0 ty known.1) in
        omega (arith, before, same, beyond)

    -- a type of a number that stood is the same
    old_type : (id : TypeId) (ty : Ty) → Denotes new id ty → id.index < length old →
        Denotes old id ty
    old_type id ty is within =
        let there : slice_get old id.index ≡ Some (get_or old id.index ty) =
        slice_get-get_or old id.index ty within in
        there
        ∙ sym (Denotes-extended old new grows id (get_or old id.index ty) there)
        ∙ is

    grown_mark : (id : TypeId) (ty : Ty) → Denotes new id ty →
        (id.index < length old) ⊎ (length old ≤ id.index) →
        get_or marks id.index false ≡ list_any (same_type ty) types
    grown_mark id ty is (inl within) = are.marked id ty (old_type id ty is within)
    grown_mark id ty is (inr beyond) =
        are.unused id.index beyond
        ∙ sym (not_true (list_any (same_type ty) types) (new_type id ty is beyond))

    pub AreMarked-grown : AreMarked new marks types
    AreMarked-grown = record {
      one_to_one = apart;
      unused = λ i beyond. are.unused i (omega (arith, beyond, longer));
      marked = λ id ty is. grown_mark id ty is (cases_lt id.index (length old));
      numbered = λ ty there.
          let known = are.numbered ty there in
          (known.0, Denotes-extended old new grows known.0 ty known.1);
    }

-- as marks are added that aren't set
pub AreMarked-reached : (table : List Ty) (marks more : List Bool) (types : List Ty) →
    ((i : ℕ) → get_or more i false ≡ get_or marks i false) → AreMarked table marks types →
    AreMarked table more types
AreMarked-reached table marks more types same are = record {
  one_to_one = are.one_to_one;
  unused = λ i beyond. same i ∙ are.unused i beyond;
  marked = λ id ty is. same id.index ∙ are.marked id ty is;
  numbered = are.numbered;
}

-- as a type is put into the set
module _ (table : List Ty) (marks : List Bool) (types : List Ty) (id : TypeId) (ty : Ty)
    (is : Denotes table id ty) (within : id.index < length marks)
    (are : AreMarked table marks types)
  where
    abbrev changed : List Bool
    changed = set marks id.index true

    other_differs : (other : TypeId) (found : Ty) → Denotes table other found →
        (other.index ≡ id.index → ⊥) → same_type found ty ≡ false
    other_differs other found denotes differs =
        not_true (same_type found ty)
        (λ same. differs (are.one_to_one other.index id.index ty
        (subst (λ t. Denotes table other t) (same_type-says found ty same) denotes) is))

    put_mark : (other : TypeId) (found : Ty) → Denotes table other found →
        (other.index ≡ id.index) ⊎ (other.index ≡ id.index → ⊥) →
        get_or changed other.index false ≡ list_any (same_type found) (types ++ ty ∷ [])
    put_mark other found denotes (inl same) =
        let types_same : found ≡ ty =
        same_Some found ty (sym denotes ∙ ap (slice_get table) same ∙ is) in
        ap (λ i. get_or changed i false) same
        ∙ get_or-set_same marks id.index true false within
        ∙ sym (ap (λ t. list_any (same_type t) (types ++ ty ∷ [])) types_same
        ∙ among-last types ty ty
        ∙ or_right (list_any (same_type ty) types) (same_type ty ty) (same_type-self ty))
    put_mark other found denotes (inr differs) =
        get_or-set_other marks id.index other.index true false differs
        ∙ are.marked other found denotes
        ∙ sym (among-last types ty found
        ∙ ap (λ b. list_any (same_type found) types || b)
        (other_differs other found denotes differs)
        ∙ or-false (list_any (same_type found) types))

    pub AreMarked-put : AreMarked table changed (types ++ ty ∷ [])
    AreMarked-put = record {
      one_to_one = are.one_to_one;
      unused = λ i beyond.
          let number : id.index < length table = slice_get_within table id.index ty is in
          get_or-set_other marks id.index i true false (λ same. omega (arith, number, same, beyond))
          ∙ are.unused i beyond;
      marked = λ other found denotes.
          put_mark other found denotes (cases_eq other.index id.index);
      numbered = λ found there. ⊎_elim
          (λ known. are.numbered found known)
          (λ same. (id, subst (λ t. Denotes table id t) (sym (same_type-says found ty same)) is))
          (or_cases (list_any (same_type found) types) (same_type found ty)
          (sym (among-last types ty found) ∙ there));
    }

-- ---- what was added to a set

pub Adds-nothing : (set : TypeSet) → Adds set set []
Adds-nothing set types is = subst (IsSetOf set) (sym (append-nil types)) is

pub Adds-twice : (old mid new : TypeSet) (added others : List Ty) → Adds old mid added →
    Adds mid new others → Adds old new (added ++ others)
Adds-twice old mid new added others first second types is =
    subst (IsSetOf new) (append_assoc types added others)
    (second (types ++ added) (first types is))

pub Adds-none : (old new : TypeSet) (types : List Ty) → Adds old new [] → IsSetOf old types →
    IsSetOf new types
Adds-none old new types adds is = subst (IsSetOf new) (append-nil types) (adds types is)
