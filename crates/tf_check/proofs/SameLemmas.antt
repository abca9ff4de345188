-- The test of types is true exactly of equal types.
use Rattle.std.proofs.Common.{◌≡◌, ℕ, Bool, true, false, ◌&&◌, List, [], ◌∷◌, map, refl, sym, ap, ◌∙◌, subst, arith, Option, Some, None, eqb, ◌≤◌, nat_le}
use Rattle.std.proofs.lemmas.Bool.{and_parts, and_from, false≢true}
use Rattle.std.proofs.lemmas.Bool.Decides.{nat_tests}
use Rattle.std.specs.List.{AllByRecursion}
use Rattle.tf_core.specs.declared.ty.Ty.{Ty, roll-Ty, out-Ty}
use Rattle.tf_core.specs.declared.ty.Ty.TheVariants as type
use Rattle.tf_core.specs.declared.ty.Ty.TheOpen.{Ty-F}
use Rattle.tf_core.specs.declared.ty.Ty.TheOpen as layer
use Rattle.tf_core.specs.declared.ty.Ty.TheFolds.{fold-roll-Ty, ind-Ty, map-Ty}
use Rattle.tf_core.specs.declared.ty.Ty.TheViews.{out-roll-Ty, roll-out-Ty}
use Rattle.tf_core.specs.declared.signature.Symbol.{Symbol}
use Rattle.tf_core.specs.Types.{same_type, same_type_step, pass_in_order, is_variable, is_application}
use Rattle.tf_check.specs.Equal.{same_types, same_result, same_profile}

pub equal_test : (m n : ℕ) → m ≡ n → eqb m n ≡ true
equal_test m n same = grind (arith, nat_tests)

pub tested_equal : (m n : ℕ) → eqb m n ≡ true → m ≡ n
tested_equal m n same = grind (arith, nat_tests)

pub differs_test : (m n : ℕ) → (m ≡ n → ⊥) → eqb m n ≡ false
differs_test m n differs = grind (arith, nat_tests)

pub within_test : (m n : ℕ) → m ≤ n → nat_le m n ≡ true
within_test m n within = grind (arith, nat_tests)

pub tested_within : (m n : ℕ) → nat_le m n ≡ true → m ≤ n
tested_within m n within = grind (arith, nat_tests)

-- ---- induction over types

pub all_of_pairs : {A : Type 0} (P : A → Type 0) (pairs : List ((a : A) × P a)) →
    AllByRecursion P (map (λ pair. pair.0) pairs)
all_of_pairs P [] = tt
all_of_pairs P (pair ∷ pairs) = (pair.1, all_of_pairs P pairs)

module _ (P : Ty → Type 0) (variable : (i : ℕ) → P (type.Var i))
    (apply : (c : ℕ) (types : List Ty) → AllByRecursion P types → P (type.Apply c types))
  where
    type_step : (x : Ty-F Ty) (y : Ty-F ((t : Ty) × P t)) →
        map-Ty ((t : Ty) × P t) Ty (λ pair. pair.0) y ≡ x → P (roll-Ty x)
    type_step x (layer.Var i) is =
        subst (λ z. P (roll-Ty z)) is (subst P (sym (type.rolls-Var i)) (variable i))
    type_step x (layer.Apply c pairs) is =
        subst (λ z. P (roll-Ty z)) is
        (subst P (sym (type.rolls-Apply c (map (λ pair. pair.0) pairs)))
        (apply c (map (λ pair. pair.0) pairs) (all_of_pairs P pairs)))

    pub core_induction : (t : Ty) → P t
    core_induction = ind-Ty P (λ x y is. type_step x y is)

-- ---- the test of types

same_type-var : (i : ℕ) (b : Ty) → same_type (type.Var i) b ≡ is_variable i (out-Ty b)
unfolding same_type
same_type-var i b =
    ap (λ (test : Ty → Bool). test b)
    (ap same_type (sym (type.rolls-Var i)) ∙ fold-roll-Ty (Ty → Bool) same_type_step (layer.Var i))

same_type-apply : (c : ℕ) (types : List Ty) (b : Ty) →
    same_type (type.Apply c types) b ≡ is_application c (map same_type types) (out-Ty b)
unfolding same_type
same_type-apply c types b =
    ap (λ (test : Ty → Bool). test b)
    (ap same_type (sym (type.rolls-Apply c types))
    ∙ fold-roll-Ty (Ty → Bool) same_type_step (layer.Apply c types))

out-var : (i : ℕ) → out-Ty (type.Var i) ≡ layer.Var i
out-var i = ap out-Ty (sym (type.rolls-Var i)) ∙ out-roll-Ty (layer.Var i)

out-apply : (c : ℕ) (types : List Ty) → out-Ty (type.Apply c types) ≡ layer.Apply c types
out-apply c types = ap out-Ty (sym (type.rolls-Apply c types)) ∙ out-roll-Ty (layer.Apply c types)

selves_pass : (types : List Ty) → AllByRecursion (λ a. same_type a a ≡ true) types →
    pass_in_order (map same_type types) types ≡ true
selves_pass [] all = refl
selves_pass (a ∷ types) all =
    and_from (same_type a a) (pass_in_order (map same_type types) types) all.0
    (selves_pass types all.1)

-- a type is equal to itself
pub same_type-self : (a : Ty) → same_type a a ≡ true
same_type-self =
    core_induction (λ a. same_type a a ≡ true)
    (λ i. same_type-var i (type.Var i) ∙ ap (is_variable i) (out-var i) ∙ equal_test i i refl)
    (λ c types all.
    same_type-apply c types (type.Apply c types)
    ∙ ap (is_application c (map same_type types)) (out-apply c types)
    ∙ and_from (eqb c c) (pass_in_order (map same_type types) types) (equal_test c c refl)
    (selves_pass types all))

passed_equal : (types others : List Ty) →
    AllByRecursion (λ a. (b : Ty) → same_type a b ≡ true → a ≡ b) types →
    pass_in_order (map same_type types) others ≡ true → types ≡ others
passed_equal [] [] all same = refl
passed_equal [] (b ∷ others) all same = absurd (false≢true same)
passed_equal (a ∷ types) [] all same = absurd (false≢true same)
passed_equal (a ∷ types) (b ∷ others) all same =
    let parts = and_parts (same_type a b) (pass_in_order (map same_type types) others) same in
    let one = all.0 b parts.0 in
    let rest = passed_equal types others all.1 parts.1 in
    cc

same_at_variable : (i : ℕ) (x : Ty-F Ty) → is_variable i x ≡ true → type.Var i ≡ roll-Ty x
same_at_variable i (layer.Var j) same =
    ap type.Var (tested_equal i j same) ∙ sym (type.rolls-Var j)
same_at_variable i (layer.Apply c types) same = absurd (false≢true same)

same_at_application : (c : ℕ) (types : List Ty) (x : Ty-F Ty) →
    AllByRecursion (λ a. (b : Ty) → same_type a b ≡ true → a ≡ b) types →
    is_application c (map same_type types) x ≡ true → type.Apply c types ≡ roll-Ty x
same_at_application c types (layer.Var j) all same = absurd (false≢true same)
same_at_application c types (layer.Apply d others) all same =
    let parts = and_parts (eqb c d) (pass_in_order (map same_type types) others) same in
    let one = tested_equal c d parts.0 in
    let rest = passed_equal types others all parts.1 in
    ap (λ n. type.Apply n types) one ∙ ap (type.Apply d) rest ∙ sym (type.rolls-Apply d others)

-- types that pass the test are equal
pub same_type-equal : (a b : Ty) → same_type a b ≡ true → a ≡ b
same_type-equal =
    core_induction (λ a. (b : Ty) → same_type a b ≡ true → a ≡ b)
    (λ i b same.
    same_at_variable i (out-Ty b) (sym (same_type-var i b) ∙ same) ∙ roll-out-Ty b)
    (λ c types all b same.
    same_at_application c types (out-Ty b) all (sym (same_type-apply c types b) ∙ same)
    ∙ roll-out-Ty b)

-- ---- symbols

same_types-self : (types : List Ty) → same_types types types ≡ true
same_types-self [] = refl
same_types-self (a ∷ types) =
    and_from (same_type a a) (same_types types types) (same_type-self a) (same_types-self types)

same_types-equal : (types others : List Ty) → same_types types others ≡ true → types ≡ others
same_types-equal [] [] same = refl
same_types-equal [] (b ∷ others) same = absurd (false≢true same)
same_types-equal (a ∷ types) [] same = absurd (false≢true same)
same_types-equal (a ∷ types) (b ∷ others) same =
    let parts = and_parts (same_type a b) (same_types types others) same in
    let one = same_type-equal a b parts.0 in
    let rest = same_types-equal types others parts.1 in
    cc

same_result-self : (result : Option Ty) → same_result result result ≡ true
same_result-self None = refl
same_result-self (Some ty) = same_type-self ty

same_result-equal : (a b : Option Ty) → same_result a b ≡ true → a ≡ b
same_result-equal None None same = refl
same_result-equal None (Some b) same = absurd (false≢true same)
same_result-equal (Some a) None same = absurd (false≢true same)
same_result-equal (Some a) (Some b) same = ap Some (same_type-equal a b same)

pub same_profile-self : (a : Symbol) → same_profile a a ≡ true
same_profile-self a =
    and_from (eqb a.parameters a.parameters && same_types a.arguments a.arguments) (same_result a.result a.result)
    (and_from (eqb a.parameters a.parameters) (same_types a.arguments a.arguments)
    (equal_test a.parameters a.parameters refl) (same_types-self a.arguments))
    (same_result-self a.result)

-- symbols of one name and one type are equal
pub same_profile-equal : (a b : Symbol) → a.name ≡ b.name → same_profile a b ≡ true → a ≡ b
same_profile-equal a b named same =
    let parts = and_parts (eqb a.parameters b.parameters && same_types a.arguments b.arguments)
    (same_result a.result b.result) same in
    let front = and_parts (eqb a.parameters b.parameters) (same_types a.arguments b.arguments) parts.0 in
    let one = tested_equal a.parameters b.parameters front.0 in
    let two = same_types-equal a.arguments b.arguments front.1 in
    let three = same_result-equal a.result b.result parts.1 in
    λ i. record { name = named i; parameters = one i; arguments = two i; result = three i }
