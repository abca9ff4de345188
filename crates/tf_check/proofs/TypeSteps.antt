-- The steps of a check of type expressions.
use Rattle.std.proofs.Common.{◌≡◌, ℕ, ◌+◌, ◌<◌, take, get_or, List, [], ◌∷◌, ◌++◌, length, map, Option, Result, Ok, Err, refl, sym, ap, ◌∙◌, subst}
use Rattle.std.proofs.lemmas.List.{length-map}
use Rattle.tptp_syntax.specs.declared.types.TypeExpr.{TypeExpr}
use Rattle.tptp_syntax.specs.declared.types.TypeExpr.TheVariants as e
use Rattle.tf_core.specs.declared.ty.Ty.{Ty}
use Rattle.tf_core.specs.declared.ty.Ty.TheVariants as type
use Rattle.tf_core.specs.declared.signature.Constructor.{Constructor}
use Rattle.tf_check.specs.declared.error.TypeError.{TypeError}
use Rattle.tf_check.specs.declared.error.TypeError.TheVariants.{BadDeclaration}
use Rattle.tf_check.specs.Answers.{Answers}
use Rattle.tf_check.specs.Scope.{Scope, meaning}
use Rattle.tf_check.specs.Visited.{Visited, good, in_turn, ◌>>=◌}
use Rattle.tf_check.specs.Types.{individuals, Reading, reading, type_variable, type_applied, constructor_place, types_of_all, constructor_named}
use Rattle.tf_check.proofs.AnswerLemmas.{answers-good, answers-bad, answers-bind, answers-stop, answers-next, answers-break}
use Rattle.tf_check.proofs.Variants.{IsVariant, is_variable, is_apply, is_individuals, is_truth, is_types, is_product, is_map, is_quantified}
use Rattle.tf_check.proofs.TypeLemmas as l

-- ---- a constructor with arguments

module _ (entry : ℕ) (name : List ℕ) (at : Option (ℕ × Constructor)) (arguments : List (Visited Ty)) where
  place_of : Visited ℕ
  place_of = constructor_place entry name (length arguments) at

  pub applied_no_place : (fault : TypeError) →
      Answers (constructor_place entry name (length arguments) at) (Err fault) →
      Answers (type_applied entry name at arguments) (Err fault)
  applied_no_place fault one =
      answers-stop (constructor_place entry name (length arguments) at)
      (λ place. in_turn arguments >>= λ types. good (type.Apply place types)) fault one

  pub applied_no_types : (place : ℕ) (fault : TypeError) →
      Answers (constructor_place entry name (length arguments) at) (Ok place) →
      Answers (in_turn arguments) (Err fault) → Answers (type_applied entry name at arguments) (Err fault)
  applied_no_types place fault one other =
      answers-bind (constructor_place entry name (length arguments) at)
      (λ place. in_turn arguments >>= λ types. good (type.Apply place types)) place (Err fault) one
      (answers-stop (in_turn arguments) (λ types. good (type.Apply place types)) fault other)

  pub applied_is : (place : ℕ) (types : List Ty) →
      Answers (constructor_place entry name (length arguments) at) (Ok place) →
      Answers (in_turn arguments) (Ok types) →
      Answers (type_applied entry name at arguments) (Ok (type.Apply place types))
  applied_is place types one other =
      answers-bind (constructor_place entry name (length arguments) at)
      (λ place. in_turn arguments >>= λ types. good (type.Apply place types)) place
      (Ok (type.Apply place types)) one
      (answers-bind (in_turn arguments) (λ types. good (type.Apply place types)) types
      (Ok (type.Apply place types)) other (answers-good (type.Apply place types)))

-- ---- types of terms

module _ (entry : ℕ) (constructors : List Constructor) (scope : Scope) where
  visits : List TypeExpr → List (Visited Ty)
  visits parts = types_of_all (map (reading entry constructors) parts) scope

  pub count_parts : (parts : List TypeExpr) →
      length (types_of_all (map (reading entry constructors) parts) scope) ≡ length parts
  count_parts parts =
      length-map (map (reading entry constructors) parts) (λ (part : Reading). part.as_type scope)
      ∙ length-map parts (reading entry constructors)

  pub type_variable_is : (name : List ℕ) (result : Result Ty TypeError) →
      Answers (type_variable entry name (meaning scope name)) result →
      Answers ((reading entry constructors (e.Variable name)).as_type scope) result
  type_variable_is name result one = rw (l.reading-variable entry constructors name) one

  pub type_no_place : (name : List ℕ) (parts : List TypeExpr) (fault : TypeError) →
      Answers (constructor_place entry name (length parts) (constructor_named name constructors)) (Err fault) →
      Answers ((reading entry constructors (e.Apply name parts)).as_type scope) (Err fault)
  type_no_place name parts fault one =
      rw (l.reading-apply entry constructors name parts)
      (applied_no_place entry name (constructor_named name constructors)
      (types_of_all (map (reading entry constructors) parts) scope) fault
      (subst (λ n. Answers (constructor_place entry name n (constructor_named name constructors)) (Err fault))
      (sym (count_parts parts)) one))

  pub type_no_types : (name : List ℕ) (parts : List TypeExpr) (place : ℕ) (fault : TypeError) →
      Answers (constructor_place entry name (length parts) (constructor_named name constructors)) (Ok place) →
      Answers (in_turn (types_of_all (map (reading entry constructors) parts) scope)) (Err fault) →
      Answers ((reading entry constructors (e.Apply name parts)).as_type scope) (Err fault)
  type_no_types name parts place fault one other =
      rw (l.reading-apply entry constructors name parts)
      (applied_no_types entry name (constructor_named name constructors)
      (types_of_all (map (reading entry constructors) parts) scope) place fault
      (subst (λ n. Answers (constructor_place entry name n (constructor_named name constructors)) (Ok place))
      (sym (count_parts parts)) one) other)

  pub type_is : (name : List ℕ) (parts : List TypeExpr) (place : ℕ) (types : List Ty) →
      Answers (constructor_place entry name (length parts) (constructor_named name constructors)) (Ok place) →
      Answers (in_turn (types_of_all (map (reading entry constructors) parts) scope)) (Ok types) →
      Answers ((reading entry constructors (e.Apply name parts)).as_type scope) (Ok (type.Apply place types))
  type_is name parts place types one other =
      rw (l.reading-apply entry constructors name parts)
      (applied_is entry name (constructor_named name constructors)
      (types_of_all (map (reading entry constructors) parts) scope) place types
      (subst (λ n. Answers (constructor_place entry name n (constructor_named name constructors)) (Ok place))
      (sym (count_parts parts)) one) other)

  pub type_individuals : Answers ((reading entry constructors e.Individuals).as_type scope) (Ok individuals)
  type_individuals = rw (l.reading-individuals entry constructors) (answers-good individuals)

  pub type_other : (x : TypeExpr) → IsVariant x → ((name : List ℕ) → x ≡ e.Variable name → ⊥) →
      ((name : List ℕ) (parts : List TypeExpr) → x ≡ e.Apply name parts → ⊥) → (x ≡ e.Individuals → ⊥) →
      Answers ((reading entry constructors x).as_type scope) (Err (BadDeclaration entry))
  type_other _ (is_variable name) a b c = absurd (a name refl)
  type_other _ (is_apply name parts) a b c = absurd (b name parts refl)
  type_other _ is_individuals a b c = absurd (c refl)
  type_other _ is_truth a b c =
      rw (l.reading-truth entry constructors) (answers-bad (BadDeclaration entry) individuals)
  type_other _ is_types a b c =
      rw (l.reading-types entry constructors) (answers-bad (BadDeclaration entry) individuals)
  type_other _ (is_product parts) a b c =
      rw (l.reading-product entry constructors parts) (answers-bad (BadDeclaration entry) individuals)
  type_other _ (is_map left right) a b c =
      rw (l.reading-map entry constructors left right) (answers-bad (BadDeclaration entry) individuals)
  type_other _ (is_quantified bounds body) a b c =
      rw (l.reading-quantified entry constructors bounds body) (answers-bad (BadDeclaration entry) individuals)

  -- ---- several types

  visits_of : (xs : List TypeExpr) →
      types_of_all (map (reading entry constructors) xs) scope
      ≡ map (λ (x : TypeExpr). (reading entry constructors x).as_type scope) xs
  visits_of [] = refl
  visits_of (x ∷ xs) = ap (λ vs. (reading entry constructors x).as_type scope ∷ vs) (visits_of xs)

  pub types_next : (xs : List TypeExpr) (i : ℕ) (x : TypeExpr) (all : List Ty) (a : Ty) →
      i < length xs → x ≡ get_or xs i x →
      Answers (in_turn (types_of_all (map (reading entry constructors) (take i xs)) scope)) (Ok all) →
      Answers ((reading entry constructors x).as_type scope) (Ok a) →
      Answers (in_turn (types_of_all (map (reading entry constructors) (take (i + 1) xs)) scope))
      (Ok (all ++ a ∷ []))
  types_next xs i x all a within is before one =
      rw (visits_of (take (i + 1) xs))
      (answers-next (λ (x : TypeExpr). (reading entry constructors x).as_type scope) xs i x all a within is
      (rw (visits_of (take i xs)) at before) one)

  pub types_break : (xs : List TypeExpr) (i : ℕ) (x : TypeExpr) (all : List Ty) (fault : TypeError) →
      i < length xs → x ≡ get_or xs i x →
      Answers (in_turn (types_of_all (map (reading entry constructors) (take i xs)) scope)) (Ok all) →
      Answers ((reading entry constructors x).as_type scope) (Err fault) →
      Answers (in_turn (types_of_all (map (reading entry constructors) xs) scope)) (Err fault)
  types_break xs i x all fault within is before one =
      rw (visits_of xs)
      (answers-break (λ (x : TypeExpr). (reading entry constructors x).as_type scope) xs i x all fault within is
      (rw (visits_of (take i xs)) at before) one)
