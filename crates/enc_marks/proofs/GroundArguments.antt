-- Without type variables, instances of the types of arguments are these types.
use Rattle.std.specs.Prelude.{ℕ, zero, suc, ◌≡◌, ◌&&◌, Bool, List, [], ◌∷◌, map, eqb, slice_get, Some, IsTrue}
use Rattle.std.specs.List.{list_all}
use Rattle.std.proofs.Common.{refl, sym, ap, subst, ◌∙◌}
use Rattle.std.proofs.lemmas.Bool.{and_parts, eqb-true}
use Rattle.tf_core.specs.declared.ty.Ty.{Ty}
use Rattle.tf_core.specs.declared.signature.Symbol.{Symbol}
use Rattle.tf_core.specs.declared.signature.Signature.{Signature}
use Rattle.tf_core.specs.declared.normal.NormalFormula.{NormalFormula}
use Rattle.tf_core.specs.declared.normal.Normal.{Normal}
use Rattle.tf_core.specs.Sound.{is_monomorphic, IsSoundNormal}
use Rattle.tf_core.specs.Types.{instantiate, same_type}
use Rattle.tf_core.specs.Typing.{IsType, AreTypes, IsSymbol, more_types, no_types}
use Rattle.tf_core.proofs.Compared.{instantiate-none}
use Rattle.tf_core.proofs.Typed.{same_type-self}
use Rattle.tf_core.proofs.TypingKept.{at_all, instantiate-instantiate}
use Rattle.enc_marks.specs.declared.choices.Marking.{Marking}
use Rattle.enc_marks.specs.declared.choices.Marking.TheVariants.{BySort}
use Rattle.enc_marks.specs.Calls.Slots.{AreGround, HaveGroundArguments}

-- a type without variables
type_ground : (g : Signature) (ty : Ty) → IsType g 0 ty → (instances : List Ty) →
    instantiate instances ty ≡ ty
type_ground g ty typed instances =
    ap (instantiate instances) (sym (instantiate-none ty))
    ∙ sym (instantiate-instantiate g instances [] 0 refl ty typed)
    ∙ instantiate-none ty

type_at : (g : Signature) (variables : ℕ) (types : List Ty) (i : ℕ) (ty : Ty) →
    AreTypes g variables types → slice_get types i ≡ Some ty → IsType g variables ty
type_at g variables [] i ty typed at = cc
type_at g variables (first ∷ types) zero ty (more_types _ _ formed rest) at =
    let same : first ≡ ty = cc in subst (IsType g variables) same formed
type_at g variables (first ∷ types) (suc i) ty (more_types _ _ formed rest) at =
    type_at g variables types i ty rest at

passes_at : {A : Type 0} (test : A → Bool) (items : List A) (i : ℕ) (item : A) →
    IsTrue (list_all test items) → slice_get items i ≡ Some item → IsTrue (test item)
passes_at test [] i item all at = cc
passes_at test (first ∷ items) zero item all at =
    let same : first ≡ item = cc in
    ap test (sym same) ∙ (and_parts (test first) (list_all test items) all).0
passes_at test (first ∷ items) (suc i) item all at =
    passes_at test items i item (and_parts (test first) (list_all test items) all).1 at

pub arguments_ground : (normal : Normal) (marking : Marking) → IsSoundNormal normal →
    (marking ≡ BySort → IsTrue (is_monomorphic normal)) →
    HaveGroundArguments marking normal.signature.symbols
arguments_ground normal marking sound monomorphic f symbol at i ty here by_sort instances =
    let none : symbol.parameters ≡ 0 = eqb-true symbol.parameters 0
    (passes_at (λ (one : Symbol). eqb one.parameters 0) normal.signature.symbols f symbol
    (and_parts (list_all (λ (one : Symbol). eqb one.parameters 0) normal.signature.symbols)
    (list_all (λ (one : NormalFormula). eqb one.type_variables 0) normal.formulas)
    (monomorphic by_sort)).0 at) in
    let typed = at_all (IsSymbol normal.signature) normal.signature.symbols f symbol
    sound.signature.typed at in
    let ground = type_ground normal.signature ty
    (subst (λ n. IsType normal.signature n ty) none
    (type_at normal.signature symbol.parameters symbol.arguments i ty typed.arguments here))
    instances in
    subst (λ one. IsTrue (same_type one ty)) (sym ground) (same_type-self ty)
