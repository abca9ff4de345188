-- Types that are listed each once: one list of types after another.
use Rattle.std.specs.Prelude.{ℕ, ◌+◌, ◌<◌, ◌≤◌, ◌≡◌, Bool, true, false, not, ◌||◌, List, [], ◌∷◌, ◌++◌, map, cond, length, take, get_or}
use Rattle.std.specs.Prelude.{Result, Ok, Err}
use Rattle.std.specs.Result.{OnOk, IfOk}
use Rattle.std.specs.List.{AllByRecursion, list_any}
use Rattle.std.proofs.Common.{refl, sym, ap, subst, ◌∙◌}
use Rattle.std.proofs.Math.Bool.{or-false}
use Rattle.std.proofs.lemmas.List.{append_assoc, append-nil, take_more, take_all}
use Rattle.tf_core.specs.declared.ty.Ty.{Ty}
use Rattle.tf_core.specs.declared.ty.Ty.TheVariants as type
use Rattle.tf_core.specs.Types.{same_type}
use Rattle.tf_core.specs.declared.signature.Symbol.{Symbol}
use Rattle.tf_core.specs.declared.normal.NormalFormula.{NormalFormula}
use Rattle.tf_core.specs.declared.normal.Normal.{Normal}
use Rattle.tf_core.specs.Sorts.{joined, parts_of, once, declared_types, binder_types, or_individuals, sorts}
use Rattle.tf_core.proofs.Induction.{type_induction}
use Rattle.tf_core.proofs.Typed.{same_type-says}
use Rattle.tf_naked.specs.declared.listing.Listing.{Listing}
use Rattle.tf_naked.specs.Calls.Sets.{IsAmong, IsSetOf}
use Rattle.tf_naked.specs.Calls.Listing.{IsClosed, with_types, IsListing, Lists}
use Rattle.tf_naked.proofs.HeldTypes.{parts_of-variable, parts_of-apply, closed_append, closed_joined, all_parts_closed}
use Rattle.tf_naked.proofs.Sets.{among-append}

-- ---- Booleans

absorbed : (x s b : Bool) → (x ≡ true → s ≡ true) → (s || (x || b)) ≡ (s || b)
absorbed true s b known =
    ap (λ z. z || true) (known refl) ∙ sym (ap (λ z. z || b) (known refl))
absorbed false s b known = refl

moved_first : (x s b : Bool) → (s || (x || b)) ≡ ((x || s) || b)
moved_first true true b = refl
moved_first true false b = refl
moved_first false s b = refl

-- ---- each type once

-- which types were seen matters, and not in which order
once-same : (types seen others : List Ty) →
    ((ty : Ty) → list_any (same_type ty) seen ≡ list_any (same_type ty) others) →
    once seen types ≡ once others types
once-same [] seen others same = refl
once-same (first ∷ types) seen others same =
    ap (λ b. cond b (once seen types) (first ∷ once (first ∷ seen) types)) (same first)
    ∙ ap (λ list. cond (list_any (same_type first) others) list
    (first ∷ once (first ∷ seen) types)) (once-same types seen others same)
    ∙ ap (λ list. cond (list_any (same_type first) others) (once others types) (first ∷ list))
    (once-same types (first ∷ seen) (first ∷ others)
    (λ ty. ap (λ b. same_type ty first || b) (same ty)))

module _ (first : Ty) (seen : List Ty) where
  -- a type that was seen adds nothing to what was seen
  seen_absorbed : list_any (same_type first) seen ≡ true → (ty : Ty) (b : Bool) →
      (list_any (same_type ty) seen || (same_type ty first || b))
      ≡ (list_any (same_type ty) seen || b)
  seen_absorbed was ty b =
      absorbed (same_type ty first) (list_any (same_type ty) seen) b
      (λ same. ap (λ t. list_any (same_type t) seen) (same_type-says ty first same) ∙ was)

-- what was seen and what is listed are together what was seen and the types
seen_once : (types seen : List Ty) (ty : Ty) →
    (list_any (same_type ty) seen || list_any (same_type ty) (once seen types))
    ≡ (list_any (same_type ty) seen || list_any (same_type ty) types)
seen_once [] seen ty = refl
seen_once (first ∷ types) seen ty =
    by (list_any (same_type first) seen) refl (λ before. seen_once types before ty)
  where
    by : (b : Bool) → list_any (same_type first) seen ≡ b →
        ((before : List Ty) →
        (list_any (same_type ty) before || list_any (same_type ty) (once before types))
        ≡ (list_any (same_type ty) before || list_any (same_type ty) types)) →
        (list_any (same_type ty) seen
        || list_any (same_type ty) (cond b (once seen types) (first ∷ once (first ∷ seen) types)))
        ≡ (list_any (same_type ty) seen || (same_type ty first || list_any (same_type ty) types))
    by true was rest =
        rest seen ∙ sym (seen_absorbed first seen was ty (list_any (same_type ty) types))
    by false was rest =
        moved_first (same_type ty first) (list_any (same_type ty) seen)
        (list_any (same_type ty) (once (first ∷ seen) types))
        ∙ rest (first ∷ seen)
        ∙ sym (moved_first (same_type ty first) (list_any (same_type ty) seen)
        (list_any (same_type ty) types))

pub once-append : (types others seen later : List Ty) →
    ((ty : Ty) → (list_any (same_type ty) seen || list_any (same_type ty) types)
    ≡ list_any (same_type ty) later) →
    once seen (types ++ others) ≡ once seen types ++ once later others
once-append [] others seen later same =
    once-same others seen later
    (λ ty. sym (or-false (list_any (same_type ty) seen)) ∙ same ty)
once-append (first ∷ types) others seen later same =
    by (list_any (same_type first) seen) refl
    (λ before rest. once-append types others before later rest)
  where
    by : (b : Bool) → list_any (same_type first) seen ≡ b →
        ((before : List Ty) →
        ((ty : Ty) → (list_any (same_type ty) before || list_any (same_type ty) types)
        ≡ list_any (same_type ty) later) →
        once before (types ++ others) ≡ once before types ++ once later others) →
        cond b (once seen (types ++ others)) (first ∷ once (first ∷ seen) (types ++ others))
        ≡ cond b (once seen types) (first ∷ once (first ∷ seen) types) ++ once later others
    by true was rest =
        rest seen
        (λ ty. sym (seen_absorbed first seen was ty (list_any (same_type ty) types)) ∙ same ty)
    by false was rest =
        ap (λ list. first ∷ list)
        (rest (first ∷ seen)
        (λ ty. sym (moved_first (same_type ty first) (list_any (same_type ty) seen)
        (list_any (same_type ty) types)) ∙ same ty))

-- nothing is listed of types that were seen
once-seen : (types seen : List Ty) → AllByRecursion (IsAmong seen) types → once seen types ≡ []
once-seen [] seen all = refl
once-seen (first ∷ types) seen all =
    ap (λ b. cond b (once seen types) (first ∷ once (first ∷ seen) types)) all.0
    ∙ once-seen types seen all.1

-- ---- lists with types and their parts

abbrev pub parts : List Ty → List Ty
parts types = joined (map parts_of types)

parts-append : (types others : List Ty) → parts (types ++ others) ≡ parts types ++ parts others
parts-append [] others = refl
parts-append (ty ∷ types) others =
    ap (λ list. parts_of ty ++ list) (parts-append types others)
    ∙ sym (append_assoc (parts_of ty) (parts types) (parts others))

pub among-with : (list types : List Ty) (ty : Ty) →
    list_any (same_type ty) (with_types list types)
    ≡ (list_any (same_type ty) list || list_any (same_type ty) (parts types))
among-with list types ty =
    among-append list (once list (parts types)) ty ∙ seen_once (parts types) list ty

pub with-nothing : (list : List Ty) → with_types list [] ≡ list
with-nothing list = append-nil list

pub with-append : (list types others : List Ty) →
    with_types list (types ++ others) ≡ with_types (with_types list types) others
with-append list types others =
    ap (λ all. list ++ once list all) (parts-append types others)
    ∙ ap (λ all. list ++ all)
    (once-append (parts types) (parts others) list (with_types list types)
    (λ ty. sym (among-with list types ty)))
    ∙ sym (append_assoc list (once list (parts types))
    (once (with_types list types) (parts others)))

-- a type after its arguments
pub with-itself : (list types : List Ty) (ty : Ty) → parts_of ty ≡ parts types ++ ty ∷ [] →
    with_types list types ++ once (with_types list types) (ty ∷ [])
    ≡ with_types list (ty ∷ [])
with-itself list types ty is =
    sym (ap (λ all. list ++ once list all) (append-nil (parts_of ty) ∙ is)
    ∙ ap (λ all. list ++ all)
    (once-append (parts types) (ty ∷ []) list (with_types list types)
    (λ other. sym (among-with list types other)))
    ∙ sym (append_assoc list (once list (parts types))
    (once (with_types list types) (ty ∷ []))))

-- ---- closed lists

each_among : (types list others : List Ty) → ((ty : Ty) → IsAmong list ty → IsAmong others ty) →
    AllByRecursion (IsAmong list) types → AllByRecursion (IsAmong others) types
each_among [] list others within all = tt
each_among (ty ∷ types) list others within all =
    (within ty all.0, each_among types list others within all.1)

pub closed_with : (list types : List Ty) → IsClosed list → IsClosed (with_types list types)
closed_with list types closed c arguments there =
    each_among arguments (list ++ parts types) (with_types list types)
    (λ ty among. among-with list types ty ∙ sym (among-append list (parts types) ty) ∙ among)
    (closed_append list (parts types) closed (closed_joined types (all_parts_closed types))
    c arguments
    (among-append list (parts types) (type.Apply c arguments)
    ∙ sym (among-with list types (type.Apply c arguments)) ∙ there))

all_append : {A : Type 0} (P : A → Type 0) (items others : List A) → AllByRecursion P items →
    AllByRecursion P others → AllByRecursion P (items ++ others)
all_append P [] others first second = second
all_append P (item ∷ items) others first second =
    (first.0, all_append P items others first.1 second)

-- the parts of a type of a closed list are of it too
module _ (list : List Ty) (closed : IsClosed list) where
  abbrev HasParts : Ty → Type 0
  HasParts ty = IsAmong list ty → AllByRecursion (IsAmong list) (parts_of ty)

  parts_among : (types : List Ty) → AllByRecursion HasParts types →
      AllByRecursion (IsAmong list) types → AllByRecursion (IsAmong list) (parts types)
  parts_among [] each among = tt
  parts_among (ty ∷ types) each among =
      all_append (IsAmong list) (parts_of ty) (parts types) (each.0 among.0)
      (parts_among types each.1 among.1)

  has_parts : (ty : Ty) → HasParts ty
  has_parts = type_induction HasParts
      (λ i among. subst (AllByRecursion (IsAmong list)) (sym (parts_of-variable i)) (among, tt))
      (λ c types each among. subst (AllByRecursion (IsAmong list)) (sym (parts_of-apply c types))
      (all_append (IsAmong list) (parts types) (type.Apply c types ∷ [])
      (parts_among types each (closed c types among)) (among, tt)))

  -- where a type is listed, nothing is left to list
  pub with-listed : (ty : Ty) → IsAmong list ty → with_types list (ty ∷ []) ≡ list
  with-listed ty among =
      ap (λ all. list ++ once list all) (append-nil (parts_of ty))
      ∙ ap (λ all. list ++ all) (once-seen (parts_of ty) list (has_parts ty among))
      ∙ append-nil list

-- ---- listings

pub Lists-nothing : (listing : Listing) → IsListing listing → Lists listing listing []
Lists-nothing listing is = record {
  listing = is;
  listed = sym (with-nothing listing.sorts);
}

pub Lists-none : (listing : Listing) (types : List Ty) → IsListing listing → types ≡ [] →
    Lists listing listing types
Lists-none listing types is none =
    subst (Lists listing listing) (sym none) (Lists-nothing listing is)

pub Lists-twice : (old mid new : Listing) (types others : List Ty) → Lists old mid types →
    Lists mid new others → Lists old new (types ++ others)
Lists-twice old mid new types others first second = record {
  listing = second.listing;
  listed = second.listed
      ∙ ap (λ sorts. with_types sorts others) first.listed
      ∙ sym (with-append old.sorts types others);
}

-- lists of types that items stand for, one after another
module _ {A : Type 0} (f : A → List Ty) (items : List A) (i : ℕ) (item : A)
    (within : i < length items) (is : item ≡ get_or items i item)
  where
    joined-push : (xs : List A) (x : A) →
        joined (map f (xs ++ x ∷ [])) ≡ joined (map f xs) ++ f x
    joined-push [] x = append-nil (f x)
    joined-push (y ∷ xs) x =
        ap (λ list. f y ++ list) (joined-push xs x)
        ∙ sym (append_assoc (f y) (joined (map f xs)) (f x))

    pub Lists-more : (old mid new : Listing) → Lists old mid (joined (map f (take i items))) →
        Lists mid new (f item) → Lists old new (joined (map f (take (i + 1) items)))
    Lists-more old mid new first second =
        subst (Lists old new)
        (sym (ap (λ list. joined (map f list))
        (take_more items i item within ∙ ap (λ x. take i items ++ x ∷ []) (sym is))
        ∙ joined-push (take i items) item))
        (Lists-twice old mid new (joined (map f (take i items))) (f item) first second)

-- types, one after another
pub Lists-one_more : (types : List Ty) (i : ℕ) (ty : Ty) (old mid new : Listing) →
    i < length types → ty ≡ get_or types i ty → Lists old mid (take i types) →
    Lists mid new (ty ∷ []) → Lists old new (take (i + 1) types)
Lists-one_more types i ty old mid new within is first second =
    subst (Lists old new)
    (sym (take_more types i ty within ∙ ap (λ x. take i types ++ x ∷ []) (sym is)))
    (Lists-twice old mid new (take i types) (ty ∷ []) first second)

pub Lists-whole : (types : List Ty) (i : ℕ) (old new : Listing) → length types ≤ i →
    Lists old new (take i types) → Lists old new types
Lists-whole types i old new ends lists = subst (Lists old new) (take_all i types ends) lists

pub Lists-end : {A : Type 0} (f : A → List Ty) (items : List A) (i : ℕ) (old new : Listing) →
    length items ≤ i → Lists old new (joined (map f (take i items))) →
    Lists old new (joined (map f items))
Lists-end f items i old new ends lists =
    subst (λ list. Lists old new (joined (map f list))) (take_all i items ends) lists

-- a type that is listed already
pub Lists-listed : (old new : Listing) (ty : Ty) → IsListing old → IsAmong old.sorts ty →
    IsSetOf new.set new.sorts → new.sorts ≡ old.sorts → Lists old new (ty ∷ [])
Lists-listed old new ty is among set same = record {
  listing = record { set = set; closed = subst IsClosed (sym same) is.closed };
  listed = same ∙ sym (with-listed old.sorts is.closed ty among);
}

-- a type after its arguments
pub Lists-itself : (old new : Listing) (mid types : List Ty) (ty : Ty) →
    IsListing old → parts_of ty ≡ parts types ++ ty ∷ [] →
    mid ≡ with_types old.sorts types → IsSetOf new.set new.sorts →
    new.sorts ≡ mid ++ once mid (ty ∷ []) → Lists old new (ty ∷ [])
Lists-itself old new mid types ty is after first set listed = record {
  listing = record {
    set = set;
    closed = subst IsClosed (sym all) (closed_with old.sorts (ty ∷ []) is.closed);
  };
  listed = all;
}
  where
    all : new.sorts ≡ with_types old.sorts (ty ∷ [])
    all =
        listed
        ∙ ap (λ sorts. sorts ++ once sorts (ty ∷ [])) first
        ∙ with-itself old.sorts types ty after

-- a type of a list may be added to it again
pub among-again : (types : List Ty) (ty : Ty) → IsAmong types ty → (other : Ty) →
    list_any (same_type other) (types ++ ty ∷ []) ≡ list_any (same_type other) types
among-again types ty there other =
    among-append types (ty ∷ []) other
    ∙ seen_absorbed ty types there other false
    ∙ or-false (list_any (same_type other) types)

pub not_false : (b : Bool) → not b ≡ false → b ≡ true
not_false true is = refl
not_false false is = sym is

-- what holds where there is an answer, by what holds there
pub on_ok : {T E : Type 0} (r : Result T E) (P Q : Type 0) → OnOk r P → (P → Q) → OnOk r Q
on_ok (Ok value) P Q holds changed = changed holds
on_ok (Err error) P Q holds changed = tt

pub on_both : {T E : Type 0} (r : Result T E) (P Q R : Type 0) → OnOk r P → OnOk r Q →
    (P → Q → R) → OnOk r R
on_both (Ok value) P Q R first second changed = changed first second
on_both (Err error) P Q R first second changed = tt

pub if_ok : {T E : Type 0} (r : Result T E) (one other : T) → one ≡ other →
    IfOk r (λ found. found ≡ one) → IfOk r (λ found. found ≡ other)
if_ok (Ok value) one other same is = is ∙ same
if_ok (Err error) one other same is = tt

-- ---- the list of sorts

module _ (normal : Normal) (first mid last : Listing) (symbols : List Symbol)
    (formulas : List NormalFormula)
  where
    abbrev bound : List NormalFormula → List Ty
    bound them = joined (map (λ (formula : NormalFormula). binder_types formula.body) them)

    pub sorts-listed : symbols ≡ normal.signature.symbols → formulas ≡ normal.formulas →
        first.sorts ≡ [] → Lists first mid (joined (map declared_types symbols)) →
        Lists mid last (bound formulas) → or_individuals last.sorts ≡ sorts normal
    sorts-listed same_symbols same_formulas empty declared binders =
        ap or_individuals
        ((Lists-twice first mid last (joined (map declared_types symbols)) (bound formulas) declared
        binders).listed
        ∙ ap (λ list. with_types list (joined (map declared_types symbols) ++ bound formulas)) empty
        ∙ ap (λ them. with_types [] (joined (map declared_types them) ++ bound formulas))
        same_symbols
        ∙ ap (λ them. with_types []
        (joined (map declared_types normal.signature.symbols) ++ bound them)) same_formulas)
