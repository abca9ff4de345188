-- The typing relations and their tests say the same.
use Rattle.std.specs.Prelude.{ℕ, ◌≡◌, ◌↔◌, Bool, List, [], ◌∷◌, map, length, eqb, slice_get, Option, Some, None, IsTrue}
use Rattle.std.specs.List.{AllByRecursion, list_all}
use Rattle.std.proofs.Common.{refl, sym, ap, ◌∙◌}
use Rattle.std.proofs.lemmas.Bool.{and_parts, and_from, eqb-true, eq-eqb, ltb-true, lt-ltb, false≢true}
use Rattle.tf_core.specs.declared.ty.Ty.{Ty, out-Ty, roll-Ty}
use Rattle.tf_core.specs.declared.ty.Ty.TheVariants as type
use Rattle.tf_core.specs.declared.ty.Ty.TheViews.{outs-Var, outs-Apply, roll-out-Ty}
use Rattle.tf_core.specs.declared.ty.Ty.TheOpen.{Ty-F}
use Rattle.tf_core.specs.declared.ty.Ty.TheOpen as type_layer
use Rattle.tf_core.specs.declared.signature.Constructor.{Constructor}
use Rattle.tf_core.specs.declared.signature.Symbol.{Symbol}
use Rattle.tf_core.specs.declared.signature.Signature.{Signature}
use Rattle.tf_core.specs.Types.{same_type, pass_in_order, is_variable, is_application}
use Rattle.tf_core.specs.Typing.{IsType, type_variable, type_apply, AreTypes, no_types, more_types, IsResult, IsSymbol, IsSignature}
use Rattle.tf_core.specs.TypingTests.{takes, is_type, are_types, is_result, is_symbol, is_signature}
use Rattle.tf_core.proofs.Types.{same_type-variable, same_type-apply}
use Rattle.tf_core.proofs.TypingTests.{is_type-variable, is_type-apply}
use Rattle.tf_core.proofs.Induction.{type_induction}

module _ (g : Signature) (variables : ℕ) where
  -- types

  takes_says : (found : Option Constructor) (count : ℕ) → IsTrue (takes found count) →
      (constructor : Constructor) × (found ≡ Some constructor) × (count ≡ constructor.arity)
  takes_says None count holds = absurd (false≢true holds)
  takes_says (Some constructor) count holds =
      (constructor, refl, eqb-true count constructor.arity holds)

  types_from : (types : List Ty) →
      AllByRecursion (λ ty. IsTrue (is_type g variables ty) → IsType g variables ty) types →
      IsTrue (are_types g variables types) → AreTypes g variables types
  types_from [] each holds = no_types
  types_from (ty ∷ types) each holds =
      let parts = and_parts (is_type g variables ty) (are_types g variables types) holds in
      more_types ty types (each.0 parts.0) (types_from types each.1 parts.1)

  pub IsType-from : (ty : Ty) → IsTrue (is_type g variables ty) → IsType g variables ty
  IsType-from = type_induction (λ ty. IsTrue (is_type g variables ty) → IsType g variables ty)
      (λ i holds. type_variable i (ltb-true i variables (sym (is_type-variable g variables i) ∙ holds)))
      (λ c types each holds.
      let parts = and_parts (takes (slice_get g.constructors c) (length types)) (are_types g variables types)
      (sym (is_type-apply g variables c types) ∙ holds) in
      let found = takes_says (slice_get g.constructors c) (length types) parts.0 in
      type_apply c found.0 types found.1 found.2 (types_from types each parts.1))

  mutual
    pub is_type-from : (ty : Ty) → IsType g variables ty → IsTrue (is_type g variables ty)
    is_type-from ty (type_variable i within) = is_type-variable g variables i ∙ lt-ltb i variables within
    is_type-from ty (type_apply c constructor types at count formed) =
        is_type-apply g variables c types
        ∙ and_from (takes (slice_get g.constructors c) (length types)) (are_types g variables types)
        (ap (λ found. takes found (length types)) at ∙ eq-eqb (length types) constructor.arity count)
        (are_types-from types formed)

    pub are_types-from : (types : List Ty) → AreTypes g variables types → IsTrue (are_types g variables types)
    are_types-from types no_types = refl
    are_types-from types (more_types ty others formed rest) =
        and_from (is_type g variables ty) (are_types g variables others)
        (is_type-from ty formed) (are_types-from others rest)

  pub AreTypes-from : (types : List Ty) → IsTrue (are_types g variables types) → AreTypes g variables types
  AreTypes-from types holds = types_from types (each types) holds
    where
      each : (types : List Ty) → AllByRecursion (λ ty. IsTrue (is_type g variables ty) → IsType g variables ty) types
      each [] = tt
      each (ty ∷ types) = (IsType-from ty, each types)

-- signatures

pub is_result-says : (g : Signature) (parameters : ℕ) (result : Option Ty) →
    IsTrue (is_result g parameters result) ↔ IsResult g parameters result
is_result-says g parameters None = (λ holds. tt, λ formed. refl)
is_result-says g parameters (Some ty) = (IsType-from g parameters ty, is_type-from g parameters ty)

pub is_symbol-says : (g : Signature) (symbol : Symbol) → IsTrue (is_symbol g symbol) ↔ IsSymbol g symbol
is_symbol-says g symbol = (
  λ holds.
      let parts = and_parts (are_types g symbol.parameters symbol.arguments) (is_result g symbol.parameters symbol.result) holds in
      record {
        arguments = AreTypes-from g symbol.parameters symbol.arguments parts.0;
        result = (is_result-says g symbol.parameters symbol.result).0 parts.1;
      },
  λ formed.
      and_from (are_types g symbol.parameters symbol.arguments) (is_result g symbol.parameters symbol.result)
      (are_types-from g symbol.parameters symbol.arguments formed.arguments)
      ((is_result-says g symbol.parameters symbol.result).1 formed.result),
)

-- a test of each item says what each test says
pub list_all-says : {A : Type 0} (test : A → Bool) (P : A → Type 0) →
    ((item : A) → IsTrue (test item) ↔ P item) → (items : List A) →
    IsTrue (list_all test items) ↔ AllByRecursion P items
list_all-says test P says [] = (λ holds. tt, λ all. refl)
list_all-says test P says (item ∷ items) =
    let rest = list_all-says test P says items in (
      λ holds.
          let parts = and_parts (test item) (list_all test items) holds in
          ((says item).0 parts.0, rest.0 parts.1),
      λ all. and_from (test item) (list_all test items) ((says item).1 all.0) (rest.1 all.1),
    )

pub is_signature-says : (g : Signature) → IsTrue (is_signature g) ↔ IsSignature g
is_signature-says g = list_all-says (is_symbol g) (IsSymbol g) (is_symbol-says g) g.symbols

-- equality of types

pass_same : (types others : List Ty) → AllByRecursion (λ ty. (other : Ty) → IsTrue (same_type ty other) → ty ≡ other) types →
    IsTrue (pass_in_order (map same_type types) others) → types ≡ others
pass_same [] [] each holds = refl
pass_same [] (other ∷ others) each holds = absurd (false≢true holds)
pass_same (ty ∷ types) [] each holds = absurd (false≢true holds)
pass_same (ty ∷ types) (other ∷ others) each holds =
    let parts = and_parts (same_type ty other) (pass_in_order (map same_type types) others) holds in
    ap (λ x. x ∷ types) (each.0 other parts.0) ∙ ap (λ xs. other ∷ xs) (pass_same types others each.1 parts.1)

pub same_type-says : (ty other : Ty) → IsTrue (same_type ty other) → ty ≡ other
same_type-says = type_induction (λ ty. (other : Ty) → IsTrue (same_type ty other) → ty ≡ other)
    (λ i other holds. variable i (out-Ty other) (sym (same_type-variable i other) ∙ holds) ∙ roll-out-Ty other)
    (λ c types each other holds.
    apply c types each (out-Ty other) (sym (same_type-apply c types other) ∙ holds) ∙ roll-out-Ty other)
  where
    variable : (i : ℕ) (x : Ty-F Ty) → IsTrue (is_variable i x) → type.Var i ≡ roll-Ty x
    variable i (type_layer.Var j) holds = ap type.Var (eqb-true i j holds) ∙ sym (type.rolls-Var j)
    variable i (type_layer.Apply c types) holds = absurd (false≢true holds)

    apply : (c : ℕ) (types : List Ty) → AllByRecursion (λ ty. (other : Ty) → IsTrue (same_type ty other) → ty ≡ other) types →
        (x : Ty-F Ty) → IsTrue (is_application c (map same_type types) x) → type.Apply c types ≡ roll-Ty x
    apply c types each (type_layer.Var j) holds = absurd (false≢true holds)
    apply c types each (type_layer.Apply d others) holds =
        let parts = and_parts (eqb c d) (pass_in_order (map same_type types) others) holds in
        ap (λ n. type.Apply n types) (eqb-true c d parts.0)
        ∙ ap (type.Apply d) (pass_same types others each parts.1)
        ∙ sym (type.rolls-Apply d others)

pass_self : (types : List Ty) → AllByRecursion (λ ty. IsTrue (same_type ty ty)) types →
    IsTrue (pass_in_order (map same_type types) types)
pass_self [] each = refl
pass_self (ty ∷ types) each =
    and_from (same_type ty ty) (pass_in_order (map same_type types) types) each.0 (pass_self types each.1)

pub same_type-self : (ty : Ty) → IsTrue (same_type ty ty)
same_type-self = type_induction (λ ty. IsTrue (same_type ty ty))
    (λ i. same_type-variable i (type.Var i) ∙ ap (is_variable i) (outs-Var i) ∙ eq-eqb i i refl)
    (λ c types each.
    same_type-apply c types (type.Apply c types)
    ∙ ap (is_application c (map same_type types)) (outs-Apply c types)
    ∙ and_from (eqb c c) (pass_in_order (map same_type types) types) (eq-eqb c c refl) (pass_self types each))
