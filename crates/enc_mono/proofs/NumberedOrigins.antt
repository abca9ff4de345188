-- Symbol instances once each: which are there, and under which number.
use Rattle.std.specs.Prelude.{ℕ, ◌≡◌, Bool, true, false, ◌||◌, List, [], ◌∷◌, map, cond, eqb, slice_get, Some, IsTrue}
use Rattle.std.specs.List.{AllByRecursion, list_any, position_or_len, find}
use Rattle.std.proofs.Common.{refl, sym, ap, ◌∙◌, subst}
use Rattle.std.proofs.lemmas.Bool.{and_parts, and_from, eqb-true, eq-eqb, false≢true}
use Rattle.std.proofs.lemmas.List.Folds.{find_at}
use Rattle.tf_core.specs.declared.ty.Ty.{Ty}
use Rattle.tf_core.specs.Types.{same_type, pass_in_order}
use Rattle.tf_core.proofs.Typed.{same_type-says, same_type-self}
use Rattle.enc_mono.specs.declared.instances.Origin.{Origin}
use Rattle.enc_mono.specs.Monomorphised.{same_origin, once, number_among}
use Rattle.enc_mono.proofs.Listed.{all-same}

types_equal : (types others : List Ty) → IsTrue (pass_in_order (map same_type types) others) →
    types ≡ others
types_equal [] [] holds = refl
types_equal [] (other ∷ others) holds = absurd (false≢true holds)
types_equal (ty ∷ types) [] holds = absurd (false≢true holds)
types_equal (ty ∷ types) (other ∷ others) holds =
    let parts = and_parts (same_type ty other) (pass_in_order (map same_type types) others) holds in
    ap (λ x. x ∷ types) (same_type-says ty other parts.0)
    ∙ ap (λ xs. other ∷ xs) (types_equal types others parts.1)

types_self : (types : List Ty) → IsTrue (pass_in_order (map same_type types) types)
types_self [] = refl
types_self (ty ∷ types) =
    and_from (same_type ty ty) (pass_in_order (map same_type types) types) (same_type-self ty)
    (types_self types)

pub same_origin-says : (origin other : Origin) → IsTrue (same_origin origin other) → origin ≡ other
same_origin-says origin other holds =
    let parts = and_parts (eqb origin.symbol other.symbol)
    (pass_in_order (map same_type origin.types) other.types) holds in
    ap (λ (f : ℕ). let made : Origin = record { symbol = f; types = origin.types } in made)
    (eqb-true origin.symbol other.symbol parts.0)
    ∙ ap (λ (types : List Ty).
    let made : Origin = record { symbol = other.symbol; types = types } in made)
    (types_equal origin.types other.types parts.1)

pub same_origin-self : (origin : Origin) → IsTrue (same_origin origin origin)
same_origin-self origin =
    and_from (eqb origin.symbol origin.symbol)
    (pass_in_order (map same_type origin.types) origin.types)
    (eq-eqb origin.symbol origin.symbol refl) (types_self origin.types)

-- an instance that stands in a list has the number of its place there
found : (origin : Origin) (origins : List Origin) → IsTrue (list_any (same_origin origin) origins) →
    find (same_origin origin) origins ≡ Some origin
found origin [] holds = absurd (false≢true holds)
found origin (first ∷ origins) holds =
    by (λ stands. found origin origins stands) (same_origin origin first) refl holds
  where
    by : (IsTrue (list_any (same_origin origin) origins) →
        find (same_origin origin) origins ≡ Some origin) →
        (b : Bool) → same_origin origin first ≡ b →
        IsTrue (b || list_any (same_origin origin) origins) →
        cond b (Some first) (find (same_origin origin) origins) ≡ Some origin
    by later true is stands = ap Some (sym (same_origin-says origin first is))
    by later false is stands = later stands

pub numbered : (origin : Origin) (origins : List Origin) →
    IsTrue (list_any (same_origin origin) origins) →
    slice_get origins (position_or_len (same_origin origin) origins) ≡ Some origin
numbered origin origins stands =
    sym (find_at (same_origin origin) origins) ∙ found origin origins stands

-- lists without repetitions

abbrev pub StandsIn : List Origin → Origin → Type 0
StandsIn origins origin = IsTrue (list_any (same_origin origin) origins)

or_shuffled : (same seen later : Bool) → same ≡ false → IsTrue ((same || seen) || later) →
    IsTrue (seen || (same || later))
or_shuffled true seen later is holds = absurd (false≢true (sym is))
or_shuffled false true later is holds = refl
or_shuffled false false later is holds = holds

or_first : (same seen later : Bool) → same ≡ true → IsTrue (seen || (same || later))
or_first true true later is = refl
or_first true false later is = refl
or_first false seen later is = absurd (false≢true is)

or_left : (seen later : Bool) → IsTrue seen → IsTrue (seen || later)
or_left true later holds = refl
or_left false later holds = absurd (false≢true holds)

-- what is in a list is in it once, or was seen before
module _ (origin : Origin) where
  abbrev stands : List Origin → Bool
  stands origins = list_any (same_origin origin) origins

  pub once-keeps : (seen origins : List Origin) → StandsIn origins origin →
      IsTrue (stands seen || stands (once seen origins))
  once-keeps seen [] holds = absurd (false≢true holds)
  once-keeps seen (first ∷ origins) holds =
      by (λ old. once-keeps old origins) (same_origin origin first)
      (list_any (same_origin first) seen) refl refl holds
    where
      by : ((old : List Origin) → IsTrue (stands origins) →
          IsTrue (stands old || stands (once old origins))) →
          (same old : Bool) → same_origin origin first ≡ same →
          list_any (same_origin first) seen ≡ old → IsTrue (same || stands origins) →
          IsTrue (stands seen
          || stands (cond old (once seen origins) (first ∷ once (first ∷ seen) origins)))
      by later true true is old holds =
          or_left (stands seen) (stands (once seen origins))
          (subst (λ o. IsTrue (list_any (same_origin o) seen))
          (sym (same_origin-says origin first is)) old)
      by later true false is old holds =
          or_first (same_origin origin first) (stands seen) (stands (once
          (first ∷ seen) origins)) is
      by later false true is old holds = later seen holds
      by later false false is old holds =
          or_shuffled (same_origin origin first) (stands seen)
          (stands (once (first ∷ seen) origins)) is (later (first ∷ seen) holds)

-- each item of a list stands in it
stands_behind : (first : Origin) (origins : List Origin) (origin : Origin) →
    StandsIn origins origin →
    StandsIn (first ∷ origins) origin
stands_behind first origins origin holds = by (same_origin origin first)
  where
    by : (same : Bool) → IsTrue (same || list_any (same_origin origin) origins)
    by true = refl
    by false = holds

all_stand : (origins : List Origin) → AllByRecursion (StandsIn origins) origins
all_stand [] = tt
all_stand (first ∷ origins) = (
  or_left (same_origin first first) (list_any (same_origin first) origins) (same_origin-self first),
  all-same (StandsIn origins) (StandsIn (first ∷ origins)) (stands_behind first origins) origins
      (all_stand origins),
)

-- the number of an instance is the place at which it stands
abbrev pub IsNumbered : List Origin → Origin → Type 0
IsNumbered origins origin =
    slice_get origins (number_among origins origin.symbol origin.types) ≡ Some origin

pub all_numbered : (origins : List Origin) →
    AllByRecursion (IsNumbered (once [] origins)) origins
all_numbered origins =
    all-same (StandsIn origins) (IsNumbered (once [] origins))
    (λ origin stands. numbered origin (once [] origins) (once-keeps origin [] origins stands))
    origins (all_stand origins)

-- what holds of each of a list holds of each that is listed once
pub all_once : (P : Origin → Type 0) (seen origins : List Origin) → AllByRecursion P origins →
    AllByRecursion P (once seen origins)
all_once P seen [] all = tt
all_once P seen (first ∷ origins) all =
    by (all_once P seen origins all.1) (all_once P (first ∷ seen) origins all.1)
    (list_any (same_origin first) seen)
  where
    by : AllByRecursion P (once seen origins) → AllByRecursion P (once (first ∷ seen) origins) →
        (old : Bool) →
        AllByRecursion P (cond old (once seen origins) (first ∷ once (first ∷ seen) origins))
    by without beside true = without
    by without beside false = (all.0, beside)
