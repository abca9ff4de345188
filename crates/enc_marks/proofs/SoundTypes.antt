-- Instances of types are types, and the types that a symbol keeps.
use Rattle.std.specs.Prelude.{ℕ, zero, suc, ◌+◌, ◌≡◌, ◌<◌, ◌≤◌, Bool, true, false, List, [], ◌∷◌, map, length, cond, get_or, count_by}
use Rattle.std.specs.List.{AllByRecursion, range_with_len}
use Rattle.std.specs.Prelude.{slice_get, Some}
use Rattle.std.proofs.Common.{refl, sym, ◌∙◌, subst, arith}
use Rattle.std.proofs.lemmas.List.{length-map}
use Rattle.std.proofs.lemmas.List.Sums.{sum_by-cons}
use Rattle.tf_core.specs.declared.ty.Ty.{Ty}
use Rattle.tf_core.specs.declared.ty.Ty.TheVariants as type
use Rattle.tf_core.specs.declared.signature.Signature.{Signature}
use Rattle.tf_core.specs.Types.{instantiate}
use Rattle.tf_core.specs.Typing.{IsType, type_variable, type_apply, AreTypes, no_types, more_types}
use Rattle.tf_core.proofs.Types.{instantiate-variable, instantiate-apply}
use Rattle.enc_marks.specs.Translation.{selected}

AreTypes-at : (g : Signature) (variables : ℕ) (types : List Ty) (i : ℕ) (d : Ty) →
    AreTypes g variables types → i < length types → IsType g variables (get_or types i d)
AreTypes-at g variables types i d no_types within = absurd (omega (arith, within))
AreTypes-at g variables types zero d (more_types ty others first rest) within = first
AreTypes-at g variables types (suc i) d (more_types ty others first rest) within =
    AreTypes-at g variables others i d rest (omega (arith, within))

-- a type at types is a type
module _ (g : Signature) (variables : ℕ) (types : List Ty) (formed : AreTypes g variables types)
  where
    mutual
      pub IsType-instantiate : (ty : Ty) → IsType g (length types) ty →
          IsType g variables (instantiate types ty)
      IsType-instantiate ty (type_variable i within) =
          subst (IsType g variables) (sym (instantiate-variable types i))
          (AreTypes-at g variables types i (type.Var i) formed within)
      IsType-instantiate ty (type_apply c constructor arguments at count are) =
          subst (IsType g variables) (sym (instantiate-apply types c arguments))
          (type_apply c constructor (map (instantiate types) arguments) at
          (length-map arguments (instantiate types) ∙ count)
          (AreTypes-instantiate arguments are))

      pub AreTypes-instantiate : (list : List Ty) → AreTypes g (length types) list →
          AreTypes g variables (map (instantiate types) list)
      AreTypes-instantiate list no_types = no_types
      AreTypes-instantiate list (more_types ty others first rest) =
          more_types (instantiate types ty) (map (instantiate types) others)
          (IsType-instantiate ty first) (AreTypes-instantiate others rest)

pub AreTypes-selected : (g : Signature) (variables : ℕ) (tests : List Bool) (types : List Ty) →
    AreTypes g variables types → AreTypes g variables (selected tests types)
AreTypes-selected g variables [] types formed = no_types
AreTypes-selected g variables (true ∷ tests) types no_types = no_types
AreTypes-selected g variables (false ∷ tests) types no_types = no_types
AreTypes-selected g variables (true ∷ tests) types (more_types ty others formed rest) =
    more_types ty (selected tests others) formed (AreTypes-selected g variables tests others rest)
AreTypes-selected g variables (false ∷ tests) types (more_types ty others formed rest) =
    AreTypes-selected g variables tests others rest

-- as many as tests are true, where each test has an item
pub length-selected : {A : Type 0} (tests : List Bool) (items : List A) →
    length tests ≤ length items →
    length (selected tests items) ≡ count_by (λ keeps. keeps) tests
length-selected [] items few = refl
length-selected (test ∷ tests) [] few = absurd (omega (arith, few))
length-selected (true ∷ tests) (item ∷ items) few =
    omega (
      arith,
      length-selected tests items (omega (arith, few)),
      sum_by-cons (λ (b : Bool). cond b 1 0) true tests,
    )
length-selected (false ∷ tests) (item ∷ items) few =
    omega (
      arith,
      length-selected tests items (omega (arith, few)),
      sum_by-cons (λ (b : Bool). cond b 1 0) false tests,
    )

pub count_by-few : (tests : List Bool) → count_by (λ keeps. keeps) tests ≤ length tests
count_by-few [] = omega arith
count_by-few (true ∷ tests) =
    omega (arith, sum_by-cons (λ (b : Bool). cond b 1 0) true tests, count_by-few tests)
count_by-few (false ∷ tests) =
    omega (arith, sum_by-cons (λ (b : Bool). cond b 1 0) false tests, count_by-few tests)

-- a symbol's parameters as types
pub AreTypes-own : (g : Signature) (variables first count : ℕ) → first + count ≤ variables →
    AreTypes g variables (map type.Var (range_with_len first count))
AreTypes-own g variables first zero within = no_types
AreTypes-own g variables first (suc count) within =
    more_types (type.Var first) (map type.Var (range_with_len (first + 1) count))
    (type_variable first (omega (arith, within)))
    (AreTypes-own g variables (first + 1) count (omega (arith, within)))

-- what is a type of some variables is one of more
module _ (g : Signature) (variables more : ℕ) (fits : variables ≤ more) where
  mutual
    pub IsType-more : (ty : Ty) → IsType g variables ty → IsType g more ty
    IsType-more ty (type_variable i within) = type_variable i (omega (arith, within, fits))
    IsType-more ty (type_apply c constructor arguments at count are) =
        type_apply c constructor arguments at count (AreTypes-more arguments are)

    pub AreTypes-more : (types : List Ty) → AreTypes g variables types → AreTypes g more types
    AreTypes-more types no_types = no_types
    AreTypes-more types (more_types ty others first rest) =
        more_types ty others (IsType-more ty first) (AreTypes-more others rest)

pub all_at : {A : Type 0} (P : A → Type 0) (items : List A) (i : ℕ) (item : A) →
    AllByRecursion P items → slice_get items i ≡ Some item → P item
all_at P [] i item all at = cc
all_at P (first ∷ items) zero item all at = let same : first ≡ item = cc in subst P same all.0
all_at P (first ∷ items) (suc i) item all at = all_at P items i item all.1 at
