-- Each sort stands once in the list of sorts, and is a type without variables.
use Rattle.std.specs.Prelude.{ℕ, zero, suc, ◌+◌, ◌≡◌, Bool, true, false, not, List, [], ◌∷◌, ◌++◌, map, cond, eqb, slice_get, Option, Some, None, IsTrue}
use Rattle.std.specs.List.{AllByRecursion, list_all, list_any, position_or_len}
use Rattle.std.proofs.Common.{refl, sym, ap, ◌∙◌, subst, arith}
use Rattle.std.proofs.lemmas.Bool.{and_parts, or_parts, eqb-true}
use Rattle.tf_core.specs.declared.ty.Ty.{Ty}
use Rattle.tf_core.specs.declared.ty.Ty.TheVariants as type
use Rattle.tf_core.specs.declared.nnf.Nnf.{Nnf}
use Rattle.tf_core.specs.declared.signature.Symbol.{Symbol}
use Rattle.tf_core.specs.declared.signature.Signature.{Signature}
use Rattle.tf_core.specs.declared.normal.NormalFormula.{NormalFormula}
use Rattle.tf_core.specs.Types.{same_type}
use Rattle.tf_core.specs.Typing.{IsType, type_variable, type_apply, AreTypes, no_types, more_types, IsNnf, nnf_true, nnf_false, nnf_atom, nnf_equation, nnf_and, nnf_or, nnf_for_all, nnf_exists, AreNnf, no_parts, more_parts, IsResult, IsSymbol}
use Rattle.tf_core.specs.Sorts.{joined, parts_of, result_types, declared_types, binder_types, once, types_in_order, or_individuals}
use Rattle.tf_core.specs.Sound.{individuals, IsSoundFormula}
use Rattle.tf_core.proofs.Typed.{same_type-self}
use Rattle.tf_naked.specs.SortLaws.{SortsStandOnce, SortsAreTypes}
use Rattle.tf_naked.proofs.HeldTypes.{parts_of-apply}
use Rattle.tf_naked.proofs.BinderTypes.{binder_types-true, binder_types-false, binder_types-atom, binder_types-equation, binder_types-and, binder_types-or, binder_types-for_all, binder_types-exists}

-- ---- once

-- a type of the list that isn't among those seen, and that stands there for the first time
record StandsAt (list seen : List Ty) (ty : Ty) (i : ℕ) : Type 0 where
  unseen : list_any (same_type ty) seen ≡ false
  first : position_or_len (same_type ty) list ≡ i

once-at : (types seen : List Ty) (i : ℕ) (ty : Ty) → slice_get (once seen types) i ≡ Some ty →
    StandsAt (once seen types) seen ty i
once-at [] seen i ty at = cc
once-at (one ∷ types) seen i ty at =
    by (list_any (same_type one) seen) refl i at (λ before j. once-at types before j ty)
  where
    by : (b : Bool) → list_any (same_type one) seen ≡ b → (i : ℕ) →
        slice_get (cond b (once seen types) (one ∷ once (one ∷ seen) types)) i ≡ Some ty →
        ((before : List Ty) (j : ℕ) → slice_get (once before types) j ≡ Some ty →
        StandsAt (once before types) before ty j) →
        StandsAt (cond b (once seen types) (one ∷ once (one ∷ seen) types)) seen ty i
    by true was i at later = later seen i at
    by false was zero at later =
        let same : one ≡ ty = cc in
        let rest = once (one ∷ seen) types in
        record {
          unseen = ap (λ other. list_any (same_type other) seen) (sym same) ∙ was;
          first = ap (λ other. cond (not (same_type ty other))
              (1 + position_or_len (same_type ty) rest) 0) same
              ∙ ap (λ b. cond (not b) (1 + position_or_len (same_type ty) rest) 0)
              (same_type-self ty);
        }
    by false was (suc i) at later =
        let found = later (one ∷ seen) i at in
        let rest = once (one ∷ seen) types in
        let parts = or_parts (same_type ty one) (list_any (same_type ty) seen) found.unseen in
        let next : 1 + i ≡ suc i = omega arith in
        record {
          unseen = parts.1;
          first = ap (λ b. cond (not b) (1 + position_or_len (same_type ty) rest) 0) parts.0
              ∙ ap (λ n. 1 + n) found.first ∙ next;
        }

individuals-at : (types : List Ty) (i : ℕ) (ty : Ty) →
    ((j : ℕ) → slice_get types j ≡ Some ty → position_or_len (same_type ty) types ≡ j) →
    slice_get (or_individuals types) i ≡ Some ty →
    position_or_len (same_type ty) (or_individuals types) ≡ i
individuals-at [] zero ty each at =
    let same : type.Apply 0 [] ≡ ty = cc in
    ap (λ other. cond (not (same_type ty other)) (1 + 0) 0) same
    ∙ ap (λ b. cond (not b) (1 + 0) 0) (same_type-self ty)
individuals-at [] (suc i) ty each at = cc
individuals-at (first ∷ types) i ty each at = each i at

pub stand_once : SortsStandOnce
stand_once normal i ty at =
    let types = joined (map parts_of (types_in_order normal)) in
    individuals-at (once [] types) i ty (λ j there. (once-at types [] j ty there).first) at

-- ---- types without variables

all_append : {A : Type 0} (P : A → Type 0) (items others : List A) → AllByRecursion P items →
    AllByRecursion P others → AllByRecursion P (items ++ others)
all_append P [] others first second = second
all_append P (item ∷ items) others first second =
    (first.0, all_append P items others first.1 second)

all_once : (P : Ty → Type 0) (types seen : List Ty) → AllByRecursion P types →
    AllByRecursion P (once seen types)
all_once P [] seen all = tt
all_once P (ty ∷ types) seen all =
    by (list_any (same_type ty) seen) (λ before. all_once P types before all.1)
  where
    by : (b : Bool) → ((before : List Ty) → AllByRecursion P (once before types)) →
        AllByRecursion P (cond b (once seen types) (ty ∷ once (ty ∷ seen) types))
    by true rest = rest seen
    by false rest = (all.0, rest (ty ∷ seen))

module _ (g : Signature) where
  abbrev AreFormed : ℕ → List Ty → Type 0
  AreFormed variables = AllByRecursion (IsType g variables)

  each_formed : (variables : ℕ) (types : List Ty) → AreTypes g variables types →
      AreFormed variables types
  each_formed variables types no_types = tt
  each_formed variables types (more_types ty others first rest) =
      (first, each_formed variables others rest)

  mutual
    parts_formed : (ty : Ty) → IsType g 0 ty → AreFormed 0 (parts_of ty)
    parts_formed ty (type_variable i within) = absurd (omega (arith, within))
    parts_formed ty (type_apply c constructor arguments at count are) =
        subst (AreFormed 0) (sym (parts_of-apply c arguments))
        (all_append (IsType g 0) (joined (map parts_of arguments)) (type.Apply c arguments ∷ [])
        (arguments_formed arguments are) (type_apply c constructor arguments at count are, tt))

    arguments_formed : (types : List Ty) → AreTypes g 0 types →
        AreFormed 0 (joined (map parts_of types))
    arguments_formed types no_types = tt
    arguments_formed types (more_types ty others first rest) =
        all_append (IsType g 0) (parts_of ty) (joined (map parts_of others)) (parts_formed ty first)
        (arguments_formed others rest)

  all_parts_formed : (types : List Ty) → AreFormed 0 types →
      AreFormed 0 (joined (map parts_of types))
  all_parts_formed [] formed = tt
  all_parts_formed (ty ∷ types) formed =
      all_append (IsType g 0) (parts_of ty) (joined (map parts_of types))
      (parts_formed ty formed.0) (all_parts_formed types formed.1)

  -- the types at binders
  module _ (variables : ℕ) where
    mutual
      binders_formed : (context : List Ty) (p : Nnf) → IsNnf g variables context p →
          AreFormed variables (binder_types p)
      binders_formed context p (nnf_true _) =
          subst (AreFormed variables) (sym binder_types-true) tt
      binders_formed context p (nnf_false _) =
          subst (AreFormed variables) (sym binder_types-false) tt
      binders_formed context p (nnf_atom _ positive f symbol types terms is) =
          subst (AreFormed variables) (sym (binder_types-atom positive f types terms)) tt
      binders_formed context p (nnf_equation _ positive ty left right is) =
          subst (AreFormed variables) (sym (binder_types-equation positive ty left right)) tt
      binders_formed context p (nnf_and _ parts each) =
          subst (AreFormed variables) (sym (binder_types-and parts))
          (all_binders_formed context parts each)
      binders_formed context p (nnf_or _ parts each) =
          subst (AreFormed variables) (sym (binder_types-or parts))
          (all_binders_formed context parts each)
      binders_formed context p (nnf_for_all _ ty body formed inner) =
          subst (AreFormed variables) (sym (binder_types-for_all ty body))
          (formed, binders_formed (ty ∷ context) body inner)
      binders_formed context p (nnf_exists _ ty body formed inner) =
          subst (AreFormed variables) (sym (binder_types-exists ty body))
          (formed, binders_formed (ty ∷ context) body inner)

      all_binders_formed : (context : List Ty) (parts : List Nnf) →
          AreNnf g variables context parts → AreFormed variables (joined (map binder_types parts))
      all_binders_formed context parts (no_parts _) = tt
      all_binders_formed context parts (more_parts _ part others first rest) =
          all_append (IsType g variables) (binder_types part) (joined (map binder_types others))
          (binders_formed context part first) (all_binders_formed context others rest)

  result_formed : (variables : ℕ) (result : Option Ty) → IsResult g variables result →
      AreFormed variables (result_types result)
  result_formed variables None is = tt
  result_formed variables (Some ty) is = (is, tt)

  symbols_formed : (symbols : List Symbol) →
      IsTrue (list_all (λ (symbol : Symbol). eqb symbol.parameters 0) symbols) →
      AllByRecursion (IsSymbol g) symbols → AreFormed 0 (joined (map declared_types symbols))
  symbols_formed [] none typed = tt
  symbols_formed (symbol ∷ symbols) none typed =
      let parts = and_parts (eqb symbol.parameters 0)
      (list_all (λ (one : Symbol). eqb one.parameters 0) symbols) none in
      let zero_of = eqb-true symbol.parameters 0 parts.0 in
      all_append (IsType g 0) (declared_types symbol) (joined (map declared_types symbols))
      (all_append (IsType g 0) symbol.arguments (result_types symbol.result)
      (each_formed 0 symbol.arguments
      (subst (λ n. AreTypes g n symbol.arguments) zero_of typed.0.arguments))
      (result_formed 0 symbol.result
      (subst (λ n. IsResult g n symbol.result) zero_of typed.0.result)))
      (symbols_formed symbols parts.1 typed.1)

  formulas_formed : (formulas : List NormalFormula) →
      IsTrue (list_all (λ (formula : NormalFormula). eqb formula.type_variables 0) formulas) →
      AllByRecursion (IsSoundFormula g) formulas →
      AreFormed 0 (joined (map (λ (formula : NormalFormula). binder_types formula.body) formulas))
  formulas_formed [] none sound = tt
  formulas_formed (formula ∷ formulas) none sound =
      let parts = and_parts (eqb formula.type_variables 0)
      (list_all (λ (one : NormalFormula). eqb one.type_variables 0) formulas) none in
      let zero_of = eqb-true formula.type_variables 0 parts.0 in
      all_append (IsType g 0) (binder_types formula.body)
      (joined (map (λ (one : NormalFormula). binder_types one.body) formulas))
      (binders_formed 0 [] formula.body
      (subst (λ n. IsNnf g n [] formula.body) zero_of sound.0.typed))
      (formulas_formed formulas parts.1 sound.1)

  individuals_formed : (types : List Ty) → slice_get g.constructors 0 ≡ Some individuals →
      AreFormed 0 types → AreFormed 0 (or_individuals types)
  individuals_formed [] first formed = (type_apply 0 individuals [] first refl no_types, tt)
  individuals_formed (ty ∷ types) first formed = formed

pub sorts_formed : SortsAreTypes
sorts_formed normal monomorphic sound =
    let g = normal.signature in
    let parts = and_parts (list_all (λ (symbol : Symbol). eqb symbol.parameters 0) g.symbols)
    (list_all (λ (formula : NormalFormula). eqb formula.type_variables 0) normal.formulas)
    monomorphic in
    individuals_formed g (once [] (joined (map parts_of (types_in_order normal))))
    sound.signature.first
    (all_once (IsType g 0) (joined (map parts_of (types_in_order normal))) []
    (all_parts_formed g (types_in_order normal)
    (all_append (IsType g 0) (joined (map declared_types g.symbols))
    (joined (map (λ (formula : NormalFormula). binder_types formula.body) normal.formulas))
    (symbols_formed g g.symbols parts.0 sound.signature.typed)
    (formulas_formed g normal.formulas parts.1 sound.formulas))))
