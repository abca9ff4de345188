-- The steps of a check of the type of a symbol.
use Rattle.std.proofs.Common.{◌≡◌, ℕ, ◌+◌, ◌<◌, ◌≤◌, true, false, List, [], ◌∷◌, ◌++◌, length, map, sum, take, drop, get_or, slice_get, Option, Some, None, option_map, Result, Ok, Err, IsErr, IsErrAnd, refl, sym, ap, ◌∙◌, subst, arith, append_assoc}
use Rattle.std.proofs.lemmas.List.{append-nil}
use Rattle.std.proofs.lemmas.List.Sums.{sum-map, sum_by-cons}
use Rattle.tptp_syntax.specs.declared.types.TypeExpr.{TypeExpr}
use Rattle.tptp_syntax.specs.declared.types.Bound.{Bound}
use Rattle.tptp_syntax.specs.declared.types.TypeExpr.TheVariants as e
use Rattle.tptp_syntax.specs.declared.types.TypeExpr.TheFolds.{fold-roll-Bound}
use Rattle.tptp_syntax.specs.FileSizes.{type_nodes, type_nodes_at, bound_nodes_at}
use Rattle.tf_core.specs.declared.ty.Ty.{Ty}
use Rattle.tf_core.specs.declared.signature.Constructor.{Constructor}
use Rattle.tf_core.specs.declared.signature.Symbol.{Symbol}
use Rattle.tf_check.specs.declared.error.TypeError.{TypeError}
use Rattle.tf_check.specs.declared.error.TypeError.TheVariants.{BadDeclaration}
use Rattle.tf_check.specs.Answers.{Answers, IsFirst, appended, with_value, map_ok}
use Rattle.tf_check.specs.Kinds.{kind, is_type_kind}
use Rattle.tf_check.specs.Scope.{Scope, TypeVariable, type_variables}
use Rattle.tf_check.specs.Visited.{Visited, good, bad, expect, ◌>>=◌, ◌>>◌}
use Rattle.tf_check.specs.Types.{Reading, BoundReading, reading, bound_reading, is_bound_type, bind_parameters, arguments_of_all, symbol_of}
use Rattle.tf_check.proofs.AnswerLemmas.{first_stays, answers-good, answers-bind, answers-stop, split_at, taken_next}
use Rattle.tf_check.proofs.Variants.{IsVariant, is_variable, is_apply, is_individuals, is_truth, is_types, is_product, is_map, is_quantified, variant}
use Rattle.tf_check.proofs.KindLemmas as k
use Rattle.tf_check.proofs.TypeLemmas as l

-- ---- errors that are handed on

pub answers-on_value : {A B : Type 0} (visit : Visited B) (result : Result A TypeError) (b : B)
    (fault : TypeError) → IsErr result × IsErrAnd result (λ error. error ≡ fault) →
    Answers visit (Err fault) → Answers visit (with_value result b)
answers-on_value visit (Ok a) b fault on answers = absurd on.1
answers-on_value visit (Err error) b fault on answers =
    subst (λ e. Answers visit (Err e)) (sym on.1) answers

pub answers-on_map : {A B : Type 0} (visit : Visited B) (result : Result A TypeError) (f : A → B)
    (fault : TypeError) → IsErr result × IsErrAnd result (λ error. error ≡ fault) →
    Answers visit (Err fault) → Answers visit (map_ok f result)
answers-on_map visit (Ok a) f fault on answers = absurd on.1
answers-on_map visit (Err error) f fault on answers =
    subst (λ e. Answers visit (Err e)) (sym on.1) answers

-- what stands behind nothing
pub answers-first : {A : Type 0} (visit : Visited (List A)) (result : Result (List A) TypeError) →
    Answers (appended [] visit) result → Answers visit result
unfolding ◌>>=◌ good
answers-first visit (Ok all) answers =
    record {
      exact = (sym (append-nil visit.faults) ∙ answers.exact.0, answers.exact.1);
      refused =
          tt;
    }
answers-first visit (Err fault) answers =
    record {
      exact = tt;
      refused = subst (λ fs. IsFirst fs fault) (append-nil visit.faults)
          answers.refused;
    }

-- ---- results and arguments that are types of terms

module _ (entry : ℕ) (constructors : List Constructor) (scope : Scope) where
  abbrev pub type_visit : TypeExpr → Visited Ty
  type_visit x = (reading entry constructors x).as_type scope

  result_other_by : (x : TypeExpr) (r : Reading) → reading entry constructors x ≡ r →
      r.as_result scope ≡ (r.as_type scope >>= λ ty. good (Some ty)) →
      (reading entry constructors x).as_result scope ≡ (type_visit x >>= λ ty. good (Some ty))
  result_other_by x r is own =
      subst (λ (q : Reading). q.as_result scope ≡ (q.as_type scope >>= λ ty. good (Some ty)))
      (sym is) own

  result_other : (x : TypeExpr) → IsVariant x → (x ≡ e.Truth → ⊥) →
      (reading entry constructors x).as_result scope ≡ (type_visit x >>= λ ty. good (Some ty))
  result_other _ (is_variable n) other = result_other_by _ _
      (l.reading-variable entry constructors n) refl
  result_other _ (is_apply n parts) other = result_other_by _ _
      (l.reading-apply entry constructors n parts) refl
  result_other _ is_individuals other = result_other_by _ _
      (l.reading-individuals entry constructors) refl
  result_other _ is_truth other = absurd (other refl)
  result_other _ is_types other = result_other_by _ _ (l.reading-types entry constructors) refl
  result_other _ (is_product parts) other = result_other_by _ _
      (l.reading-product entry constructors parts) refl
  result_other _ (is_map left right) other = result_other_by _ _
      (l.reading-map entry constructors left right) refl
  result_other _ (is_quantified bounds body) other = result_other_by _ _
      (l.reading-quantified entry constructors bounds body) refl

  pub result_truth : Answers ((reading entry constructors e.Truth).as_result scope) (Ok None)
  result_truth = rw (l.reading-truth entry constructors) (answers-good None)

  pub result_is : (x : TypeExpr) (ty : Ty) → (x ≡ e.Truth → ⊥) → Answers (type_visit x) (Ok ty) →
      Answers ((reading entry constructors x).as_result scope) (Ok (Some ty))
  result_is x ty other one =
      rw (result_other x (variant x) other)
      (answers-bind (type_visit x) (λ ty. good (Some ty)) ty (Ok (Some ty)) one
      (answers-good (Some ty)))

  pub result_stop : (x : TypeExpr) (fault : TypeError) → (x ≡ e.Truth → ⊥) →
      Answers (type_visit x) (Err fault) →
      Answers ((reading entry constructors x).as_result scope) (Err fault)
  result_stop x fault other one =
      rw (result_other x (variant x) other)
      (answers-stop (type_visit x) (λ ty. good (Some ty)) fault one)

  argument_other_by : (x : TypeExpr) (r : Reading) → reading entry constructors x ≡ r →
      r.as_arguments scope ≡ (r.as_type scope >>= λ ty. good (ty ∷ [])) →
      (reading entry constructors x).as_arguments scope ≡ (type_visit x >>= λ ty. good (ty ∷ []))
  argument_other_by x r is own =
      subst (λ (q : Reading). q.as_arguments scope ≡ (q.as_type scope >>= λ ty. good (ty ∷ [])))
      (sym is) own

  argument_other : (x : TypeExpr) → IsVariant x →
      ((parts : List TypeExpr) → x ≡ e.Product parts → ⊥) →
      (reading entry constructors x).as_arguments scope ≡ (type_visit x >>= λ ty. good (ty ∷ []))
  argument_other _ (is_variable n) other = argument_other_by _ _
      (l.reading-variable entry constructors n) refl
  argument_other _ (is_apply n parts) other = argument_other_by _ _
      (l.reading-apply entry constructors n parts) refl
  argument_other _ is_individuals other = argument_other_by _ _
      (l.reading-individuals entry constructors) refl
  argument_other _ is_truth other = argument_other_by _ _ (l.reading-truth entry constructors) refl
  argument_other _ is_types other = argument_other_by _ _ (l.reading-types entry constructors) refl
  argument_other _ (is_product parts) other = absurd (other parts refl)
  argument_other _ (is_map left right) other = argument_other_by _ _
      (l.reading-map entry constructors left right) refl
  argument_other _ (is_quantified bounds body) other = argument_other_by _ _
      (l.reading-quantified entry constructors bounds body) refl

  pub argument_is : (x : TypeExpr) (front : List Ty) (ty : Ty) →
      ((parts : List TypeExpr) → x ≡ e.Product parts → ⊥) → Answers (type_visit x) (Ok ty) →
      Answers (appended front ((reading entry constructors x).as_arguments scope))
      (Ok (front ++ ty ∷ []))
  argument_is x front ty other one =
      rw (argument_other x (variant x) other)
      (answers-bind (type_visit x >>= λ ty. good (ty ∷ [])) (λ back. good (front ++ back))
      (ty ∷ [])
      (Ok (front ++ ty ∷ []))
      (answers-bind (type_visit x) (λ ty. good (ty ∷ [])) ty (Ok (ty ∷ [])) one
      (answers-good (ty ∷ [])))
      (answers-good (front ++ ty ∷ [])))

  pub argument_stop : (x : TypeExpr) (front : List Ty) (fault : TypeError) →
      ((parts : List TypeExpr) → x ≡ e.Product parts → ⊥) → Answers (type_visit x) (Err fault) →
      Answers (appended front ((reading entry constructors x).as_arguments scope)) (Err fault)
  argument_stop x front fault other one =
      rw (argument_other x (variant x) other)
      (answers-stop (type_visit x >>= λ ty. good (ty ∷ [])) (λ back. good (front ++ back)) fault
      (answers-stop (type_visit x) (λ ty. good (ty ∷ [])) fault one))

-- ---- several arguments

module _ (scope : Scope) where
  abbrev faults_all : List Reading → List TypeError
  faults_all parts = (arguments_of_all parts scope).faults

  abbrev value_all : List Reading → List Ty
  value_all parts = (arguments_of_all parts scope).value

  faults_all-cons : (x : Reading) (xs : List Reading) →
      faults_all (x ∷ xs) ≡ (x.as_arguments scope).faults ++ faults_all xs
  unfolding ◌>>=◌ good
  faults_all-cons x xs = ap (λ fs. (x.as_arguments scope).faults ++ fs)
      (append-nil (faults_all xs))

  value_all-cons : (x : Reading) (xs : List Reading) →
      value_all (x ∷ xs) ≡ (x.as_arguments scope).value ++ value_all xs
  unfolding ◌>>=◌ good
  value_all-cons x xs = refl

  none_all : (faults_all [] ≡ []) × (value_all [] ≡ [])
  unfolding good
  none_all = (refl, refl)

  faults_all-append : (xs ys : List Reading) → faults_all (xs ++ ys) ≡ faults_all xs
      ++ faults_all ys
  faults_all-append [] ys = ap (λ fs. fs ++ faults_all ys) (sym none_all.0)
  faults_all-append (x ∷ xs) ys =
      faults_all-cons x (xs ++ ys)
      ∙ ap (λ fs. (x.as_arguments scope).faults ++ fs) (faults_all-append xs ys)
      ∙ sym (append_assoc (x.as_arguments scope).faults (faults_all xs) (faults_all ys))
      ∙ ap (λ fs. fs ++ faults_all ys) (sym (faults_all-cons x xs))

  value_all-append : (xs ys : List Reading) → value_all (xs ++ ys) ≡ value_all xs ++ value_all ys
  value_all-append [] ys = ap (λ vs. vs ++ value_all ys) (sym none_all.1)
  value_all-append (x ∷ xs) ys =
      value_all-cons x (xs ++ ys)
      ∙ ap (λ vs. (x.as_arguments scope).value ++ vs) (value_all-append xs ys)
      ∙ sym (append_assoc (x.as_arguments scope).value (value_all xs) (value_all ys))
      ∙ ap (λ vs. vs ++ value_all ys) (sym (value_all-cons x xs))

  pub arguments_none : (types : List Ty) →
      Answers (appended types (arguments_of_all [] scope)) (Ok types)
  unfolding ◌>>=◌ good
  arguments_none types = record { exact = (refl, append-nil types); refused = tt }

  pub arguments_more : (front : List Reading) (x : Reading) (old now new : List Ty) →
      Answers (appended old (arguments_of_all front scope)) (Ok now) →
      Answers (appended now (x.as_arguments scope)) (Ok new) →
      Answers (appended old (arguments_of_all (front ++ x ∷ []) scope)) (Ok new)
  unfolding ◌>>=◌ good
  arguments_more front x old now new before one =
      record {
        exact = (
          append-nil (faults_all (front ++ x ∷ []))
              ∙ faults_all-append front (x ∷ [])
              ∙ ap (λ fs. fs ++ faults_all (x ∷ []))
              (sym (append-nil (faults_all front)) ∙ before.exact.0)
              ∙ faults_all-cons x []
              ∙ one.exact.0,
          ap (λ vs. old ++ vs) (value_all-append front (x ∷ []))
              ∙ ap (λ vs. old ++ (value_all front ++ vs))
              (value_all-cons x [] ∙ append-nil (x.as_arguments scope).value)
              ∙ sym (append_assoc old (value_all front) (x.as_arguments scope).value)
              ∙ ap (λ vs. vs ++ (x.as_arguments scope).value) before.exact.1
              ∙ one.exact.1,
        );
        refused = tt;
      }

  pub arguments_stop : (front : List Reading) (x : Reading) (back : List Reading)
      (old now : List Ty)
      (fault : TypeError) → Answers (appended old (arguments_of_all front scope)) (Ok now) →
      Answers (appended now (x.as_arguments scope)) (Err fault) →
      Answers (appended old (arguments_of_all (front ++ x ∷ back) scope)) (Err fault)
  unfolding ◌>>=◌ good
  arguments_stop front x back old now fault before one =
      let first : IsFirst (x.as_arguments scope).faults fault =
      subst (λ fs. IsFirst fs fault) (append-nil (x.as_arguments scope).faults) one.refused in
      record {
        exact = tt;
        refused = subst (λ fs. IsFirst fs fault)
            (sym (append-nil (faults_all (front ++ x ∷ back))
            ∙ faults_all-append front (x ∷ back)
            ∙ ap (λ fs. fs ++ faults_all (x ∷ back))
            (sym (append-nil (faults_all front)) ∙ before.exact.0)
            ∙ faults_all-cons x back))
            (first_stays (x.as_arguments scope).faults (faults_all back) fault first);
      }

module _ (entry : ℕ) (constructors : List Constructor) (scope : Scope) (old now : List Ty)
    (xs : List TypeExpr) (i : ℕ) (x : TypeExpr) (within : i < length xs) (is : x ≡ get_or xs i x)
    (before : Answers (appended old
    (arguments_of_all (map (reading entry constructors) (take i xs)) scope)) (Ok now))
  where
    pub arguments_next : (new : List Ty) →
        Answers (appended now ((reading entry constructors x).as_arguments scope)) (Ok new) →
        Answers (appended old
        (arguments_of_all (map (reading entry constructors) (take (i + 1) xs)) scope)) (Ok new)
    arguments_next new one =
        rw (taken_next (reading entry constructors) xs i x within is)
        (arguments_more scope (map (reading entry constructors) (take i xs))
        (reading entry constructors x) old now
        new before one)

    pub arguments_break : (fault : TypeError) →
        Answers (appended now ((reading entry constructors x).as_arguments scope)) (Err fault) →
        Answers (appended old (arguments_of_all (map (reading entry constructors) xs) scope))
        (Err fault)
    arguments_break fault one =
        rw (split_at (reading entry constructors) xs i x within is)
        (arguments_stop scope (map (reading entry constructors) (take i xs))
        (reading entry constructors x)
        (map (reading entry constructors) (drop (i + 1) xs)) old now fault before one)

-- ---- parameters

module _ (entry : ℕ) where
  abbrev bound_by : List BoundReading → Scope → Visited Scope
  bound_by = bind_parameters entry

  bound-none : (scope : Scope) → (bound_by [] scope).faults ≡ []
  unfolding good
  bound-none scope = refl

  pub parameters_none : (scope : Scope) → Answers (bind_parameters entry [] scope) (Ok scope)
  parameters_none scope = answers-good scope

  -- variables behind others
  bound-append : (xs ys : List BoundReading) (scope : Scope) →
      ((bound_by (xs ++ ys) scope).faults
      ≡ (bound_by xs scope).faults ++ (bound_by ys (bound_by xs scope).value).faults)
      × ((bound_by (xs ++ ys) scope).value ≡ (bound_by ys (bound_by xs scope).value).value)
  unfolding good ◌>>◌
  bound-append [] ys scope = (refl, refl)
  bound-append (x ∷ xs) ys scope =
      let rest = bound-append xs ys (TypeVariable x.name ∷ scope) in
      let fault : List TypeError = (expect x.is_type (BadDeclaration entry)).faults in (
        ap (λ fs. fault ++ fs) rest.0
            ∙ sym (append_assoc fault (bound_by xs (TypeVariable x.name ∷ scope)).faults
            (bound_by ys (bound_by xs (TypeVariable x.name ∷ scope)).value).faults),
        rest.1,
      )

  bound_type : (x : BoundReading) (ys : List BoundReading) (scope : Scope) → x.is_type ≡ true →
      (bound_by (x ∷ ys) scope).faults ≡ (bound_by ys (TypeVariable x.name ∷ scope)).faults
  unfolding ◌>>◌ expect good
  bound_type x ys scope is =
      ap (λ b. (expect b (BadDeclaration entry)).faults
      ++ (bound_by ys (TypeVariable x.name ∷ scope)).faults) is

  bound_other : (x : BoundReading) (ys : List BoundReading) (scope : Scope) → x.is_type ≡ false →
      (bound_by (x ∷ ys) scope).faults
      ≡ BadDeclaration entry ∷ (bound_by ys (TypeVariable x.name ∷ scope)).faults
  unfolding ◌>>◌ expect bad
  bound_other x ys scope is =
      ap (λ b. (expect b (BadDeclaration entry)).faults
      ++ (bound_by ys (TypeVariable x.name ∷ scope)).faults) is

  bound_value : (x : BoundReading) (scope : Scope) →
      (bound_by (x ∷ []) scope).value ≡ TypeVariable x.name ∷ scope
  unfolding ◌>>◌ good
  bound_value x scope = refl

  pub parameters_more : (front : List BoundReading) (x : BoundReading) (old now : Scope) →
      Answers (bind_parameters entry front old) (Ok now) → x.is_type ≡ true →
      Answers (bind_parameters entry (front ++ x ∷ []) old) (Ok (TypeVariable x.name ∷ now))
  parameters_more front x old now before is =
      let whole = bound-append front (x ∷ []) old in
      record {
        exact = (
          whole.0 ∙ ap (λ fs. fs ++ (bound_by (x ∷ []) (bound_by front old).value).faults)
              before.exact.0
              ∙ bound_type x [] (bound_by front old).value is
              ∙ bound-none (TypeVariable x.name ∷ (bound_by front old).value),
          whole.1 ∙ bound_value x (bound_by front old).value
              ∙ ap (λ s. TypeVariable x.name ∷ s) before.exact.1,
        );
        refused = tt;
      }

  pub parameters_stop : (front : List BoundReading) (x : BoundReading) (back : List BoundReading)
      (old now : Scope) → Answers (bind_parameters entry front old) (Ok now) → x.is_type ≡ false →
      Answers (bind_parameters entry (front ++ x ∷ back) old) (Err (BadDeclaration entry))
  parameters_stop front x back old now before is =
      let whole = bound-append front (x ∷ back) old in
      record {
        exact = tt;
        refused = λ other. ap (λ fs. slice_get fs 0)
            (whole.0 ∙ ap (λ fs. fs ++ (bound_by (x ∷ back) (bound_by front old).value).faults)
            before.exact.0
            ∙ bound_other x back (bound_by front old).value is);
      }

  pub length-bound : (xs : List BoundReading) (scope : Scope) →
      length (bind_parameters entry xs scope).value ≡ length scope + length xs
  unfolding good ◌>>◌
  length-bound [] scope = omega arith
  length-bound (x ∷ xs) scope = omega (arith, length-bound xs (TypeVariable x.name ∷ scope))

module _ (entry : ℕ) (constructors : List Constructor) where
  types_alike : (x : TypeExpr) → IsVariant x → (reading entry constructors x).is_types
      ≡ (kind x).is_types
  types_alike _ (is_variable name) = rw
      (l.reading-variable entry constructors name, k.kind-variable name) refl
  types_alike _ (is_apply name parts) =
      rw (l.reading-apply entry constructors name parts, k.kind-apply name parts) refl
  types_alike _ is_individuals = rw (l.reading-individuals entry constructors, k.kind-individuals)
      refl
  types_alike _ is_truth = rw (l.reading-truth entry constructors, k.kind-truth) refl
  types_alike _ is_types = rw (l.reading-types entry constructors, k.kind-types) refl
  types_alike _ (is_product parts) = rw
      (l.reading-product entry constructors parts, k.kind-product parts) refl
  types_alike _ (is_map left right) =
      rw (l.reading-map entry constructors left right, k.kind-map left right) refl
  types_alike _ (is_quantified bounds body) =
      rw (l.reading-quantified entry constructors bounds body, k.kind-quantified bounds body) refl

  bound_alike : (kind : Option TypeExpr) →
      is_bound_type (option_map (reading entry constructors) kind) ≡ is_type_kind kind
  bound_alike None = refl
  bound_alike (Some x) = types_alike x (variant x)

  -- the reading of a bound variable
  pub bound_read : (b : Bound) →
      bound_reading entry constructors b ≡ record { name = b.name; is_type = is_type_kind b.kind }
  bound_read b =
      l.bound_reading-record entry constructors b.name b.kind
      ∙ ap (λ t. record { name = b.name; is_type = t }) (bound_alike b.kind)

  module _ (old now : Scope) (xs : List Bound) (i : ℕ) (x : Bound) (within : i < length xs)
      (is : x ≡ get_or xs i x)
      (before : Answers (bind_parameters entry
      (map (bound_reading entry constructors) (take i xs)) old) (Ok now))
    where
      pub parameters_next : is_type_kind x.kind ≡ true →
          Answers (bind_parameters entry
          (map (bound_reading entry constructors) (take (i + 1) xs)) old)
          (Ok (TypeVariable x.name ∷ now))
      parameters_next typed =
          rw (taken_next (bound_reading entry constructors) xs i x within is)
          (subst (λ (b : BoundReading). Answers
          (bind_parameters entry (map (bound_reading entry constructors) (take i xs) ++ b ∷ [])
          old)
          (Ok (TypeVariable x.name ∷ now)))
          (sym (bound_read x))
          (parameters_more entry (map (bound_reading entry constructors) (take i xs))
          (record { name = x.name; is_type = is_type_kind x.kind }) old now before typed))

      pub parameters_break : is_type_kind x.kind ≡ false →
          Answers (bind_parameters entry (map (bound_reading entry constructors) xs) old)
          (Err (BadDeclaration entry))
      parameters_break other =
          rw (split_at (bound_reading entry constructors) xs i x within is)
          (subst (λ (b : BoundReading). Answers
          (bind_parameters entry (map (bound_reading entry constructors) (take i xs)
          ++ b ∷ map (bound_reading entry constructors) (drop (i + 1) xs)) old)
          (Err (BadDeclaration entry)))
          (sym (bound_read x))
          (parameters_stop entry (map (bound_reading entry constructors) (take i xs))
          (record { name = x.name; is_type = is_type_kind x.kind })
          (map (bound_reading entry constructors) (drop (i + 1) xs)) old now before other))

-- ---- nodes

nodes-record : (name : List ℕ) (kind : Option TypeExpr) →
    1 ≤ k.nodes_of_bound (record { name = name; kind = kind })
unfolding type_nodes
nodes-record name None =
    let is : k.nodes_of_bound (record { name = name; kind = None }) ≡ 1 + 0 =
    fold-roll-Bound ℕ ℕ type_nodes_at bound_nodes_at (record { name = name; kind = None }) in
    omega (arith, is)
nodes-record name (Some x) =
    let is : k.nodes_of_bound (record { name = name; kind = Some x }) ≡ 1 + type_nodes x =
    fold-roll-Bound ℕ ℕ type_nodes_at bound_nodes_at (record { name = name; kind = Some x }) in
    omega (arith, is)

nodes-bound : (b : Bound) → 1 ≤ k.nodes_of_bound b
nodes-bound b = nodes-record b.name b.kind

nodes-bounds : (bounds : List Bound) → length bounds ≤ sum (map k.nodes_of_bound bounds)
nodes-bounds [] = omega arith
nodes-bounds (b ∷ bounds) =
    let whole = sum-map k.nodes_of_bound (b ∷ bounds) in
    let rest = sum-map k.nodes_of_bound bounds in
    let step = sum_by-cons k.nodes_of_bound b bounds in
    omega (arith, nodes-bound b, nodes-bounds bounds, whole, rest, step)

-- the nodes of the body that parameters stand before
pub nodes-quantified : (bounds : List Bound) (body : TypeExpr) →
    1 + (length bounds + type_nodes body) ≤ type_nodes (e.Quantified bounds body)
nodes-quantified bounds body =
    omega (arith, k.type_nodes-quantified bounds body, nodes-bounds bounds)

-- ---- symbols

module _ (entry : ℕ) (constructors : List Constructor) (name : List ℕ) (scope : Scope) where
  abbrev pub made : List Ty → Option Ty → Symbol
  made arguments result =
      record {
        name = name;
        parameters = type_variables scope;
        arguments = arguments;
        result =
            result;
      }

  pub symbol_no_parameters : (bounds : List Bound) (body : TypeExpr) (fault : TypeError) →
      Answers (bind_parameters entry (map (bound_reading entry constructors) bounds) scope)
      (Err fault) →
      Answers ((reading entry constructors (e.Quantified bounds body)).as_symbol name scope)
      (Err fault)
  symbol_no_parameters bounds body fault one =
      rw (l.reading-quantified entry constructors bounds body)
      (answers-stop (bind_parameters entry (map (bound_reading entry constructors) bounds) scope)
      ((reading entry constructors body).as_symbol name) fault one)

  pub symbol_inside : (bounds : List Bound) (body : TypeExpr) (inner : Scope)
      (result : Result Symbol TypeError) →
      Answers (bind_parameters entry (map (bound_reading entry constructors) bounds) scope)
      (Ok inner) →
      Answers ((reading entry constructors body).as_symbol name inner) result →
      Answers ((reading entry constructors (e.Quantified bounds body)).as_symbol name scope) result
  symbol_inside bounds body inner result one other =
      rw (l.reading-quantified entry constructors bounds body)
      (answers-bind (bind_parameters entry (map (bound_reading entry constructors) bounds) scope)
      ((reading entry constructors body).as_symbol name) inner result one other)

  symbol_made : (left : Visited (List Ty)) (right : Visited (Option Ty)) (arguments : List Ty)
      (result : Option Ty) → Answers left (Ok arguments) → Answers right (Ok result) →
      Answers (symbol_of name scope left right) (Ok (made arguments result))
  symbol_made left right arguments result one other =
      answers-bind left (λ arguments. right >>= λ result. good (made arguments result)) arguments
      (Ok (made arguments result)) one
      (answers-bind right (λ result. good (made arguments result)) result
      (Ok (made arguments result)) other
      (answers-good (made arguments result)))

  symbol_no_result : (left : Visited (List Ty)) (right : Visited (Option Ty)) (arguments : List Ty)
      (fault : TypeError) → Answers left (Ok arguments) → Answers right (Err fault) →
      Answers (symbol_of name scope left right) (Err fault)
  symbol_no_result left right arguments fault one other =
      answers-bind left (λ arguments. right >>= λ result. good (made arguments result)) arguments
      (Err fault) one
      (answers-stop right (λ result. good (made arguments result)) fault other)

  module _ (left right : TypeExpr) where
    pub map_no_arguments : (fault : TypeError) →
        Answers ((reading entry constructors left).as_arguments scope) (Err fault) →
        Answers ((reading entry constructors (e.Map left right)).as_symbol name scope) (Err fault)
    map_no_arguments fault one =
        rw (l.reading-map entry constructors left right)
        (answers-stop ((reading entry constructors left).as_arguments scope)
        (λ arguments. (reading entry constructors right).as_result scope >>= λ result. good
        (made arguments result))
        fault one)

    pub map_no_result : (arguments : List Ty) (fault : TypeError) →
        Answers ((reading entry constructors left).as_arguments scope) (Ok arguments) →
        Answers ((reading entry constructors right).as_result scope) (Err fault) →
        Answers ((reading entry constructors (e.Map left right)).as_symbol name scope) (Err fault)
    map_no_result arguments fault one other =
        rw (l.reading-map entry constructors left right)
        (symbol_no_result ((reading entry constructors left).as_arguments scope)
        ((reading entry constructors right).as_result scope) arguments fault one other)

    pub map_is : (arguments : List Ty) (result : Option Ty) →
        Answers ((reading entry constructors left).as_arguments scope) (Ok arguments) →
        Answers ((reading entry constructors right).as_result scope) (Ok result) →
        Answers ((reading entry constructors (e.Map left right)).as_symbol name scope)
        (Ok (made arguments result))
    map_is arguments result one other =
        rw (l.reading-map entry constructors left right)
        (symbol_made ((reading entry constructors left).as_arguments scope)
        ((reading entry constructors right).as_result scope) arguments result one other)

  constant_other_by : (x : TypeExpr) (r : Reading) → reading entry constructors x ≡ r →
      r.as_symbol name scope ≡ symbol_of name scope (good []) (r.as_result scope) →
      (reading entry constructors x).as_symbol name scope
      ≡ symbol_of name scope (good []) ((reading entry constructors x).as_result scope)
  constant_other_by x r is own =
      subst (λ (q : Reading). q.as_symbol name scope
      ≡ symbol_of name scope (good []) (q.as_result scope))
      (sym is) own

  constant_other : (x : TypeExpr) → IsVariant x →
      ((bounds : List Bound) (body : TypeExpr) → x ≡ e.Quantified bounds body → ⊥) →
      ((left right : TypeExpr) → x ≡ e.Map left right → ⊥) →
      (reading entry constructors x).as_symbol name scope
      ≡ symbol_of name scope (good []) ((reading entry constructors x).as_result scope)
  constant_other _ (is_variable n) other mapped = constant_other_by _ _
      (l.reading-variable entry constructors n) refl
  constant_other _ (is_apply n parts) other mapped = constant_other_by _ _
      (l.reading-apply entry constructors n parts) refl
  constant_other _ is_individuals other mapped = constant_other_by _ _
      (l.reading-individuals entry constructors) refl
  constant_other _ is_truth other mapped = constant_other_by _ _
      (l.reading-truth entry constructors) refl
  constant_other _ is_types other mapped = constant_other_by _ _
      (l.reading-types entry constructors) refl
  constant_other _ (is_product parts) other mapped = constant_other_by _ _
      (l.reading-product entry constructors parts) refl
  constant_other _ (is_map left right) other mapped = absurd (mapped left right refl)
  constant_other _ (is_quantified bounds body) other mapped = absurd (other bounds body refl)

  module _ (x : TypeExpr)
      (other : (bounds : List Bound) (body : TypeExpr) → x ≡ e.Quantified bounds body → ⊥)
      (not_map : (left right : TypeExpr) → x ≡ e.Map left right → ⊥)
    where
      pub constant_is : (result : Option Ty) →
          Answers ((reading entry constructors x).as_result scope) (Ok result) →
          Answers ((reading entry constructors x).as_symbol name scope) (Ok (made [] result))
      constant_is result one =
          rw (constant_other x (variant x) other not_map)
          (symbol_made (good []) ((reading entry constructors x).as_result scope) [] result
          (answers-good []) one)

      pub constant_stop : (fault : TypeError) →
          Answers ((reading entry constructors x).as_result scope) (Err fault) →
          Answers ((reading entry constructors x).as_symbol name scope) (Err fault)
      constant_stop fault one =
          rw (constant_other x (variant x) other not_map)
          (symbol_no_result (good []) ((reading entry constructors x).as_result scope) [] fault
          (answers-good []) one)
