-- The normal problem of a sound problem is sound.
use Rattle.std.proofs.Common.{ℕ, zero, suc, ◌+◌, ◌-◌, ◌^◌, ◌<◌, ◌≤◌, ◌≡◌, List, [], ◌∷◌, ◌++◌, map, length, drop, sym, ap, subst, ◌∙◌, arith, refl, lit<}
use Rattle.std.specs.Prelude.{slice_get, Some}
use Rattle.std.proofs.Math.Seq.{drop-append_seam}
use Rattle.std.specs.List.{sum_by, range_with_len, AllByRecursion}
use Rattle.std.proofs.lemmas.List.Sums.{sum_by-cons}
use Rattle.std.proofs.lemmas.Option.{slice_get_within}
use Rattle.tf_core.specs.declared.ty.Ty.{Ty}
use Rattle.tf_core.specs.declared.ty.Ty.TheVariants as type
use Rattle.tf_core.specs.declared.nnf.Nnf.{Nnf}
use Rattle.tf_core.specs.declared.signature.Constructor.{Constructor}
use Rattle.tf_core.specs.declared.signature.Symbol.{Symbol}
use Rattle.tf_core.specs.declared.signature.Signature.{Signature}
use Rattle.tf_core.specs.declared.problem.Role.{Role}
use Rattle.tf_core.specs.declared.problem.Role.TheVariants.{Hypothesis, Conjecture}
use Rattle.tf_core.specs.declared.problem.Stated.{Stated}
use Rattle.tf_core.specs.declared.problem.Problem.{Problem}
use Rattle.tf_core.specs.declared.normal.NormalFormula.{NormalFormula}
use Rattle.tf_core.specs.Typing.{AreTypes, no_types, more_types, type_apply, IsSymbol, IsSignature}
use Rattle.tf_core.specs.Sound.{individuals, IsSound, IsSoundBelow, IsSoundFormula, IsSoundStated, IsBounded, IsSoundNormal}
use Rattle.tf_core.specs.Substitution.{substitute_types}
use Rattle.tf_nnf.specs.Forms.{positive_form, negative_form}
use Rattle.tf_nnf.specs.Nodes.{nnf_nodes, normal_nodes}
use Rattle.tf_nnf.specs.NormalForm.{conjecture_of, variables_of, fresh_count, fresh_constructor, fresh_types, with_fresh, normal_by_role, normal_formula, normal_of}
use Rattle.tf_nnf.proofs.Fresh.{slice_get-left, length-with_fresh, fresh-at, all_map, only_conjecture}
use Rattle.tf_nnf.proofs.FreshTypes.{length-fresh_types}
use Rattle.tf_nnf.proofs.NormalProblem.{fresh_bounded}
use Rattle.tf_nnf.proofs.TypingKept.{Extends, symbol-extended, nnf-substituted}
use Rattle.tf_nnf.proofs.Pairs.{forms_have_pairs, pairs-substitute_types}
use Rattle.tf_nnf.proofs.SortCount.{length-sorts}
use Rattle.tf_nnf.proofs.SoundForms.{forms-typed, normal_sum_within}

-- items of two lists, and of what a map makes

pub all_append : {A : Type 0} (P : A → Type 0) (items more : List A) → AllByRecursion P items →
    AllByRecursion P more → AllByRecursion P (items ++ more)
all_append P [] more all others = others
all_append P (item ∷ items) more all others = (all.0, all_append P items more all.1 others)

all_made : {A B : Type 0} (P : B → Type 0) (make : A → B) → ((a : A) → P (make a)) →
    (items : List A) → AllByRecursion P (map make items)
all_made P make each [] = tt
all_made P make each (item ∷ items) = (each item, all_made P make each items)

-- the signature

extends-with_fresh : (g : Signature) (count : ℕ) → Extends g (with_fresh g count)
extends-with_fresh g count = record {
  constructors = λ c constructor at.
      slice_get-left g.constructors (map fresh_constructor (range_with_len 0 count)) c constructor at;
  symbols = refl;
}

typed-with_fresh : (g : Signature) (count : ℕ) → IsSignature g → IsSignature (with_fresh g count)
typed-with_fresh g count typed =
    all_map (IsSymbol g) (IsSymbol (with_fresh g count))
    (symbol-extended g (with_fresh g count) (extends-with_fresh g count)) g.symbols typed

bounded-with_fresh : (symbol : Symbol) → IsBounded (2 ^ 27) symbol → IsBounded (2 ^ 28) symbol
bounded-with_fresh symbol is = record {
  parameters = omega (arith, is.parameters);
  arguments = omega (arith, is.arguments);
}

sound-with_fresh : (g : Signature) (count : ℕ) → IsSoundBelow (2 ^ 27) g → count < 2 ^ 27 →
    IsSoundBelow (2 ^ 28) (with_fresh g count)
sound-with_fresh g count sound few = record {
  typed = typed-with_fresh g count sound.typed;
  first =
      slice_get-left g.constructors (map fresh_constructor (range_with_len 0 count)) 0 _ sound.first;
  constructor_count = omega (arith, few, sound.constructor_count, length-with_fresh g count);
  symbol_count = omega (arith, sound.symbol_count);
  arities =
      all_append (λ (constructor : Constructor). constructor.arity < 2 ^ 28)
      g.constructors (map fresh_constructor (range_with_len 0 count))
      (all_map (λ (constructor : Constructor). constructor.arity < 2 ^ 27)
      (λ (constructor : Constructor). constructor.arity < 2 ^ 28)
      (λ constructor below. omega (arith, below)) g.constructors sound.arities)
      (all_made (λ (constructor : Constructor). constructor.arity < 2 ^ 28) fresh_constructor
      (λ i. lit< tt) (range_with_len 0 count));
  symbols = all_map (IsBounded (2 ^ 27)) (IsBounded (2 ^ 28)) bounded-with_fresh g.symbols sound.symbols;
}

-- the fresh constructors are types
fresh_types-formed : (g : Signature) (first offset count : ℕ) →
    ((i : ℕ) → i < count →
    slice_get g.constructors (first + i) ≡ Some (fresh_constructor (offset + i))) →
    AreTypes g 0 (fresh_types first count)
fresh_types-formed g first offset zero at = no_types
fresh_types-formed g first offset (suc count) at =
    let here : slice_get g.constructors first ≡ Some (fresh_constructor offset) =
    ap (slice_get g.constructors) (let same : first ≡ first + 0 = omega arith in same)
    ∙ at 0 (omega arith)
    ∙ ap (λ i. Some (fresh_constructor i)) (let same : offset + 0 ≡ offset = omega arith in same) in
    more_types (type.Apply first []) (fresh_types (first + 1) count)
    (type_apply first (fresh_constructor offset) [] here refl no_types)
    (fresh_types-formed g (first + 1) (offset + 1) count
    (λ i within.
    ap (slice_get g.constructors) (let same : first + 1 + i ≡ first + suc i = omega arith in same)
    ∙ at (suc i) (omega (arith, within))
    ∙ ap (λ n. Some (fresh_constructor n))
    (let same : offset + suc i ≡ offset + 1 + i = omega arith in same)))

-- the formulas

module _ (g : Signature) (typed : IsSignature g) (count : ℕ) where
  abbrev types : List Ty
  types = fresh_types (length g.constructors) count

  types-formed : AreTypes (with_fresh g count) 0 (fresh_types (length g.constructors) count)
  types-formed =
      fresh_types-formed (with_fresh g count) (length g.constructors) 0 count
      (λ i within. fresh-at g count i within
      ∙ ap (λ n. Some (fresh_constructor n)) (let same : i ≡ 0 + i = omega arith in same))

  formula_sound : (stated : Stated) (role : Role) → IsSoundStated g stated →
      (role ≡ Conjecture → stated.type_variables ≡ count) →
      nnf_nodes (normal_by_role types stated role).body ≤ 4194304 →
      IsSoundFormula (with_fresh g count) (normal_by_role types stated role)
  formula_sound stated Hypothesis sound only few =
      let both = forms-typed g (with_fresh g count) (extends-with_fresh g count)
      stated.type_variables [] stated.body sound.typed in
      record {
        typed = both.positive;
        pairs = (forms_have_pairs stated.body sound.pairs).positive;
        type_variables = omega (arith, sound.type_variables);
        binders =
            omega (
              arith,
              few,
              normal_sum_within 1 0 (omega arith) (omega arith) (positive_form stated.body),
            );
        equations =
            omega (
              arith,
              few,
              normal_sum_within 0 1 (omega arith) (omega arith) (positive_form stated.body),
            );
      }
  formula_sound stated Conjecture sound only few =
      let both = forms-typed g (with_fresh g count) (extends-with_fresh g count)
      stated.type_variables [] stated.body sound.typed in
      let made : Nnf = substitute_types types (negative_form stated.body) in
      record {
        typed = nnf-substituted (with_fresh g count) (typed-with_fresh g count typed)
            stated.type_variables 0 types types-formed
            (length-fresh_types (length g.constructors) count ∙ sym (only refl))
            [] (negative_form stated.body) both.negative;
        pairs = pairs-substitute_types types (negative_form stated.body)
            ∙ (forms_have_pairs stated.body sound.pairs).negative;
        type_variables = lit< tt;
        binders = omega (arith, few, normal_sum_within 1 0 (omega arith) (omega arith) made);
        equations = omega (arith, few, normal_sum_within 0 1 (omega arith) (omega arith) made);
      }

  formulas_sound : (formulas : List Stated) → AllByRecursion (IsSoundStated g) formulas →
      AllByRecursion (λ x. x.role ≡ Conjecture → x.type_variables ≡ count) formulas →
      sum_by (λ formula. nnf_nodes formula.body) (map (normal_formula types) formulas) ≤ 4194304 →
      AllByRecursion (IsSoundFormula (with_fresh g count)) (map (normal_formula types) formulas)
  formulas_sound [] sound only few = tt
  formulas_sound (stated ∷ formulas) sound only few =
      let nodes = sum_by-cons (λ (formula : NormalFormula). nnf_nodes formula.body)
      (normal_formula types stated) (map (normal_formula types) formulas) in (
        formula_sound stated stated.role sound.0 only.0 (omega (arith, few, nodes)),
        formulas_sound formulas sound.1 only.1 (omega (arith, few, nodes)),
      )

conjecture_variables : (problem : Problem) → IsSound problem →
    AllByRecursion (λ x. x.role ≡ Conjecture → x.type_variables ≡ fresh_count problem) problem.formulas
conjecture_variables problem sound =
    all_map (λ (x : Stated). x.role ≡ Conjecture → conjecture_of problem.formulas ≡ Some x)
    (λ (x : Stated). x.role ≡ Conjecture → x.type_variables ≡ fresh_count problem)
    (λ x found is. sym (ap variables_of (found is)))
    problem.formulas (only_conjecture problem.formulas sound.conjectures)

-- the signature and the formulas of a normal problem that isn't too large are sound
pub normal_parts_sound : (problem : Problem) → IsSound problem →
    normal_nodes (normal_of problem) ≤ 4194304 →
    IsSoundBelow (2 ^ 28) (normal_of problem).signature
    × AllByRecursion (IsSoundFormula (normal_of problem).signature) (normal_of problem).formulas
normal_parts_sound problem sound few = (
  sound-with_fresh problem.signature (fresh_count problem) sound.signature
      (fresh_bounded problem.signature problem.formulas sound.formulas),
  formulas_sound problem.signature sound.signature.typed (fresh_count problem) problem.formulas
      sound.formulas (conjecture_variables problem sound) few,
)

-- the fresh constructors stand last
fresh-last : (g : Signature) (count : ℕ) →
    drop (length (with_fresh g count).constructors - count) (with_fresh g count).constructors
    ≡ map fresh_constructor (range_with_len 0 count)
fresh-last g count =
    let fresh : List Constructor = map fresh_constructor (range_with_len 0 count) in
    let first : length (with_fresh g count).constructors - count ≡ length g.constructors =
    omega (arith, length-with_fresh g count) in
    ap (λ n. drop n (g.constructors ++ fresh)) first ∙ drop-append_seam g.constructors fresh

-- the normal problem that isn't too large is sound
pub normal_sound : (problem : Problem) → IsSound problem →
    normal_nodes (normal_of problem) ≤ 4194304 → IsSoundNormal (normal_of problem)
normal_sound problem sound few =
    let parts = normal_parts_sound problem sound few in
    record {
      signature = parts.0;
      formulas = parts.1;
      fresh =
          omega (
            arith,
            length-with_fresh problem.signature (fresh_count problem),
            slice_get_within problem.signature.constructors 0 individuals sound.signature.first,
          );
      fresh_arities =
          subst (AllByRecursion (λ (constructor : Constructor). constructor.arity ≡ 0))
          (sym (fresh-last problem.signature (fresh_count problem)))
          (all_made (λ (constructor : Constructor). constructor.arity ≡ 0) fresh_constructor (λ i. refl)
          (range_with_len 0 (fresh_count problem)));
      sort_count = λ _. omega (arith, length-sorts problem, sound.nodes);
    }
