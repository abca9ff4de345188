-- Sorts by their numbers: a sort's value in a structure whose members are the sorts is its number.
use Rattle.std.specs.Prelude.{ℕ, zero, suc, ◌+◌, ◌<◌, ◌≡◌, Bool, true, false, not, ◌||◌, List, [], ◌∷◌, map, length, cond, eqb, ltb, get_or, position, slice_get, unwrap_or, Some, None, IsTrue}
use Rattle.std.specs.List.{AllByRecursion, list_all, list_any, position_or_len}
use Rattle.std.proofs.Common.{refl, sym, ap, ◌∙◌, subst, arith, ⊎_elim}
use Rattle.std.proofs.lemmas.Bool.{false≢true, and_parts, or_cases, eqb-true, lt-ltb, ltb-true}
use Rattle.std.proofs.lemmas.List.Sums.{passes_at_first}
use Rattle.tf_core.specs.declared.ty.Ty.{Ty}
use Rattle.tf_core.specs.declared.ty.Ty.TheVariants as type
use Rattle.tf_core.specs.declared.nnf.Nnf.{Nnf}
use Rattle.tf_core.specs.declared.signature.Symbol.{Symbol}
use Rattle.tf_core.specs.declared.normal.NormalFormula.{NormalFormula}
use Rattle.tf_core.specs.declared.normal.Normal.{Normal}
use Rattle.tf_core.specs.Types.{same_type, type_value}
use Rattle.tf_core.specs.Typing.{IsType, type_variable, type_apply, AreTypes, no_types, more_types}
use Rattle.tf_core.specs.Sorts.{joined, binder_types, or_individuals, sorts}
use Rattle.tf_core.specs.Sound.{is_monomorphic, IsSoundNormal}
use Rattle.tf_core.proofs.Typed.{same_type-says}
use Rattle.tf_core.proofs.Types.{type_value-apply}
use Rattle.tf_naked.specs.SortLaws.{IsSort, AreSorts}
use Rattle.tf_naked.proofs.HeldTypes.{sorts_listed, sort_arguments, sorts_front, sorts_back}
use Rattle.tf_naked.proofs.SortTypes.{sorts_formed}
use Rattle.enc_laws.specs.Lifted.{sort_at, formed_sort}

-- ---- a type of a list

pub number_within : (test : Ty → Bool) (types : List Ty) → IsTrue (list_any test types) →
    position_or_len test types < length types
number_within test [] is = absurd (false≢true is)
number_within test (ty ∷ types) is =
    by (test ty) is (λ there. number_within test types there)
  where
    by : (b : Bool) → IsTrue (b || list_any test types) →
        (IsTrue (list_any test types) → position_or_len test types < length types) →
        cond (not b) (1 + position_or_len test types) 0 < suc (length types)
    by true is rest = omega arith
    by false is rest = let less = rest is in omega (arith, less)

position-there : (test : Ty → Bool) (types : List Ty) → IsTrue (list_any test types) →
    position test types ≡ Some (position_or_len test types)
position-there test types is =
    ap (λ b. cond b (Some (position_or_len test types)) None)
    (lt-ltb (position_or_len test types) (length types) (number_within test types is))

-- what holds of each type of a list holds of one that is there
pub holds_there : (P : Ty → Type 0) (types : List Ty) (ty : Ty) → AllByRecursion P types →
    IsTrue (list_any (same_type ty) types) → P ty
holds_there P [] ty all is = absurd (false≢true is)
holds_there P (first ∷ types) ty all is =
    ⊎_elim
    (λ here. subst P (sym (same_type-says ty first here)) all.0)
    (λ there. holds_there P types ty all.1 there)
    (or_cases (same_type ty first) (list_any (same_type ty) types) is)

all_get : (P : Ty → Type 0) (types : List Ty) (m : ℕ) (other : Ty) → AllByRecursion P types →
    m < length types → P (get_or types m other)
all_get P [] m other all within = absurd (omega (arith, within))
all_get P (ty ∷ types) zero other all within = all.0
all_get P (ty ∷ types) (suc m) other all within =
    all_get P types m other all.1 (omega (arith, within))

passes_there : {A : Type 0} (test : A → Bool) (items : List A) (i : ℕ) (item : A) →
    IsTrue (list_all test items) → slice_get items i ≡ Some item → IsTrue (test item)
passes_there test [] i item all at = cc
passes_there test (first ∷ items) zero item all at =
    let same : first ≡ item = cc in
    ap test (sym same) ∙ (and_parts (test first) (list_all test items) all).0
passes_there test (first ∷ items) (suc i) item all at =
    passes_there test items i item (and_parts (test first) (list_all test items) all).1 at

some_individuals : (types : List Ty) → 0 < length (or_individuals types)
some_individuals [] = omega arith
some_individuals (ty ∷ types) = omega arith

-- ---- the sorts of a problem

module _ (normal : Normal) where
  pub some_sort : 0 < length (sorts normal)
  some_sort = some_individuals _

  -- a sort's number
  abbrev pub sort_number : Ty → ℕ
  sort_number ty = position_or_len (same_type ty) (sorts normal)

  pub sort_at-number : (ty : Ty) → IsSort normal ty → sort_at normal (sort_number ty) ≡ ty
  sort_at-number ty is =
      sym (same_type-says ty (sort_at normal (sort_number ty))
      (passes_at_first (same_type ty) (sorts normal) (type.Var 0)
      (number_within (same_type ty) (sorts normal) is)))

  -- what a constructor forms is a member
  pub formed_within : (i : ℕ) (members : List ℕ) →
      formed_sort normal i members < length (sorts normal)
  formed_within i members =
      let n : ℕ = sort_number (type.Apply i (map (sort_at normal) members)) in
      by n (ltb n (length (sorts normal))) refl
    where
      by : (n : ℕ) (b : Bool) → ltb n (length (sorts normal)) ≡ b →
          unwrap_or (cond b (Some n) None) 0 < length (sorts normal)
      by n true is = ltb-true n (length (sorts normal)) is
      by n false is = some_sort

  formed_number : (i : ℕ) (types : List Ty) (members : List ℕ) →
      IsSort normal (type.Apply i types) → map (sort_at normal) members ≡ types →
      formed_sort normal i members ≡ sort_number (type.Apply i types)
  formed_number i types members is same =
      ap (λ list. unwrap_or (position (same_type (type.Apply i list)) (sorts normal)) 0) same
      ∙ ap (λ found. unwrap_or found 0)
      (position-there (same_type (type.Apply i types)) (sorts normal) is)

  mutual
    value_number : (ty : Ty) (formed : IsType normal.signature 0 ty) → IsSort normal ty →
        (members : List ℕ) → type_value (formed_sort normal) members ty ≡ sort_number ty
    value_number ty (type_variable i within) is members = absurd (omega (arith, within))
    value_number ty (type_apply i constructor types at count formed) is members =
        type_value-apply (formed_sort normal) members i types
        ∙ formed_number i types (map (type_value (formed_sort normal) members) types) is
        (values_read types formed (sort_arguments normal i types is) members)

    values_read : (types : List Ty) (formed : AreTypes normal.signature 0 types) →
        AreSorts normal types → (members : List ℕ) →
        map (sort_at normal) (map (type_value (formed_sort normal) members) types) ≡ types
    values_read types no_types are members = refl
    values_read types (more_types ty others first rest) are members =
        ap (λ x. x ∷ map (sort_at normal) (map (type_value (formed_sort normal) members) others))
        (ap (sort_at normal) (value_number ty first are.0 members) ∙ sort_at-number ty are.0)
        ∙ ap (λ xs. ty ∷ xs) (values_read others rest are.1 members)

  module _ (monomorphic : IsTrue (is_monomorphic normal)) (sound : IsSoundNormal normal) where
    pub sort_value : (ty : Ty) (members : List ℕ) → IsSort normal ty →
        type_value (formed_sort normal) members ty ≡ sort_number ty
    sort_value ty members is =
        value_number ty (holds_there (IsType normal.signature 0) (sorts normal) ty
        (sorts_formed normal monomorphic sound) is) is members

    pub value_within : (ty : Ty) (members : List ℕ) → IsSort normal ty →
        type_value (formed_sort normal) members ty < length (sorts normal)
    value_within ty members is =
        subst (λ n. n < length (sorts normal)) (sym (sort_value ty members is))
        (number_within (same_type ty) (sorts normal) is)

    pub sort_at-value : (ty : Ty) (members : List ℕ) → IsSort normal ty →
        sort_at normal (type_value (formed_sort normal) members ty) ≡ ty
    sort_at-value ty members is =
        ap (sort_at normal) (sort_value ty members is) ∙ sort_at-number ty is

  -- a symbol has no parameters
  pub parameters_none : IsTrue (is_monomorphic normal) → (f : ℕ) (symbol : Symbol) →
      slice_get normal.signature.symbols f ≡ Some symbol → symbol.parameters ≡ 0
  parameters_none monomorphic f symbol at =
      eqb-true symbol.parameters 0
      (passes_there (λ (one : Symbol). eqb one.parameters 0) normal.signature.symbols f symbol
      (and_parts (list_all (λ (one : Symbol). eqb one.parameters 0) normal.signature.symbols)
      (list_all (λ (one : NormalFormula). eqb one.type_variables 0) normal.formulas)
      monomorphic).0 at)

  -- each member is a sort
  pub sort_at-sort : (m : ℕ) → m < length (sorts normal) → IsSort normal (sort_at normal m)
  sort_at-sort m within =
      all_get (IsSort normal) (sorts normal) m (type.Var 0) (sorts_listed normal) within

  -- the binders of a formula's parts have sorts where its own have
  pub parts_sorted : (parts : List Nnf) → AreSorts normal (joined (map binder_types parts)) →
      AllByRecursion (λ p. AreSorts normal (binder_types p)) parts
  parts_sorted [] are = tt
  parts_sorted (part ∷ parts) are = (
    sorts_front normal (binder_types part) (joined (map binder_types parts)) are,
    parts_sorted parts
        (sorts_back normal (binder_types part) (joined (map binder_types parts)) are),
  )
