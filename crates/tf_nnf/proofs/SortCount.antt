-- The list of sorts of a normal problem has fewer types than the types of the problem have nodes,
-- and one.
use Rattle.std.proofs.Common.{ℕ, ◌+◌, ◌≤◌, ◌≡◌, List, [], ◌∷◌, ◌++◌, map, length, sum, refl, sym, ap, subst, ◌∙◌, arith, length-append}
use Rattle.std.specs.Prelude.{Option, Some, None}
use Rattle.std.specs.List.{AllByRecursion}
use Rattle.std.proofs.lemmas.List.Sums.{sum_by-cons}
use Rattle.tf_core.specs.declared.ty.Ty.{Ty, roll-Ty}
use Rattle.tf_core.specs.declared.ty.Ty.TheVariants as type
use Rattle.tf_core.specs.declared.ty.Ty.TheOpen.{Ty-F}
use Rattle.tf_core.specs.declared.ty.Ty.TheOpen as layer
use Rattle.tf_core.specs.declared.ty.Ty.TheFolds.{para-roll-Ty, map-Ty}
use Rattle.tf_core.specs.declared.signature.Symbol.{Symbol}
use Rattle.tf_core.specs.declared.problem.Role.{Role}
use Rattle.tf_core.specs.declared.problem.Role.TheVariants.{Hypothesis, Conjecture}
use Rattle.tf_core.specs.declared.problem.Stated.{Stated}
use Rattle.tf_core.specs.declared.problem.Problem.{Problem}
use Rattle.tf_core.specs.declared.normal.NormalFormula.{NormalFormula}
use Rattle.tf_core.specs.Types.{type_nodes, instantiate}
use Rattle.tf_core.specs.Counts.{binder_sum, result_nodes, signature_nodes, binder_nodes}
use Rattle.tf_core.specs.Sorts.{joined, parts_of, parts_step, result_types, declared_types, binder_types, once, or_individuals, sorts}
use Rattle.tf_core.proofs.Types.{type_nodes-variable, type_nodes-apply}
use Rattle.tf_core.proofs.Induction.{type_induction}
use Rattle.tf_nnf.specs.Forms.{negative_form}
use Rattle.tf_nnf.specs.NormalForm.{fresh_types, fresh_count, normal_by_role, normal_formula, normal_of}
use Rattle.tf_nnf.proofs.Lists.{map-map}
use Rattle.tf_nnf.proofs.Distinct.{AreAmong, are_append, are_left, are_right, are_joined, are_map, once_within}
use Rattle.tf_nnf.proofs.BinderTypes.{binder_types-substitute_types, nodes-fresh, nodes-append, forms_binder_types}

-- a type has as many parts as nodes

parts_of-roll : (x : Ty-F Ty) →
    parts_of (roll-Ty x) ≡ parts_step (map-Ty Ty (Ty × List Ty) (λ ty. (ty, parts_of ty)) x)
unfolding parts_of
parts_of-roll x = para-roll-Ty (List Ty) parts_step x

parts-variable : (i : ℕ) → length (parts_of (type.Var i)) ≡ 1
parts-variable i =
    ap (λ ty. length (parts_of ty)) (sym (type.rolls-Var i)) ∙ ap length (parts_of-roll (layer.Var i))

parts-apply : (c : ℕ) (types : List Ty) →
    length (parts_of (type.Apply c types)) ≡ length (joined (map parts_of types)) + 1
parts-apply c types =
    let pairs : List (Ty × List Ty) = map (λ (ty : Ty). (ty, parts_of ty)) types in
    let inner : List Ty = joined (map (λ (pair : Ty × List Ty). pair.1) pairs) in
    let whole : Ty = type.Apply c (map (λ (pair : Ty × List Ty). pair.0) pairs) in
    ap (λ ty. length (parts_of ty)) (sym (type.rolls-Apply c types))
    ∙ ap length (parts_of-roll (layer.Apply c types))
    ∙ length-append inner (whole ∷ [])
    ∙ ap (λ (lists : List (List Ty)). length (joined lists) + 1)
    (map-map (λ (pair : Ty × List Ty). pair.1) (λ (ty : Ty). (ty, parts_of ty)) types)

parts_joined : (types : List Ty) → AllByRecursion (λ ty. length (parts_of ty) ≡ type_nodes ty) types →
    length (joined (map parts_of types)) ≡ sum (map type_nodes types)
parts_joined [] each = refl
parts_joined (ty ∷ types) each =
    omega (
      arith,
      each.0,
      parts_joined types each.1,
      length-append (parts_of ty) (joined (map parts_of types)),
      sum_by-cons (λ (n : ℕ). n) (type_nodes ty) (map type_nodes types),
    )

length-parts_of : (ty : Ty) → length (parts_of ty) ≡ type_nodes ty
length-parts_of =
    type_induction (λ ty. length (parts_of ty) ≡ type_nodes ty)
    (λ i. parts-variable i ∙ sym (type_nodes-variable i))
    (λ c types each.
    omega (arith, parts-apply c types, parts_joined types each, type_nodes-apply c types))

pub length-parts : (types : List Ty) →
    length (joined (map parts_of types)) ≡ sum (map type_nodes types)
length-parts types = parts_joined types (each types)
  where
    each : (types : List Ty) → AllByRecursion (λ ty. length (parts_of ty) ≡ type_nodes ty) types
    each [] = tt
    each (ty ∷ types) = (length-parts_of ty, each types)

-- the types of the symbols

nodes-result : (result : Option Ty) → sum (map type_nodes (result_types result)) ≡ result_nodes result
nodes-result None = refl
nodes-result (Some ty) = omega (arith, sum_by-cons (λ (n : ℕ). n) (type_nodes ty) [])

nodes-declared : (symbols : List Symbol) →
    sum (map type_nodes (joined (map declared_types symbols)))
    ≡ sum (map (λ (symbol : Symbol).
    sum (map type_nodes symbol.arguments) + result_nodes symbol.result) symbols)
nodes-declared [] = refl
nodes-declared (symbol ∷ symbols) =
    omega (
      arith,
      nodes-declared symbols,
      nodes-result symbol.result,
      nodes-append symbol.arguments (result_types symbol.result),
      nodes-append (declared_types symbol) (joined (map declared_types symbols)),
      sum_by-cons (λ (n : ℕ). n)
          (sum (map type_nodes symbol.arguments) + result_nodes symbol.result)
          (map (λ (x : Symbol). sum (map type_nodes x.arguments) + result_nodes x.result) symbols),
    )

-- the types at the binders

-- types with as many nodes as those at the binders of a stated formula, among which are those at
-- the binders of what it becomes
record FormulaTypes (stated : Stated) (formula : NormalFormula) : Type 0 where
  types : List Ty
  among : AreAmong (binder_types formula.body) types
  nodes : sum (map type_nodes types) ≡ binder_sum type_nodes stated.body

module _ (first count : ℕ) where
  formula_types : (stated : Stated) (role : Role) →
      FormulaTypes stated (normal_by_role (fresh_types first count) stated role)
  formula_types stated Hypothesis =
      let both = forms_binder_types stated.body in
      record { types = both.types; among = both.positive; nodes = both.nodes }
  formula_types stated Conjecture =
      let both = forms_binder_types stated.body in
      let replaced : List Ty = map (instantiate (fresh_types first count)) both.types in
      record {
        types = replaced;
        among = subst (λ xs. AreAmong xs replaced)
            (sym (binder_types-substitute_types (fresh_types first count) (negative_form stated.body)))
            (are_map (instantiate (fresh_types first count)) (binder_types (negative_form stated.body))
            both.types both.negative);
        nodes = nodes-fresh first count both.types ∙ both.nodes;
      }

  -- the same of all formulas
  record AllTypes (formulas : List Stated) : Type 0 where
    types : List Ty
    among : AreAmong
        (joined (map (λ (formula : NormalFormula). binder_types formula.body)
        (map (normal_formula (fresh_types first count)) formulas))) types
    nodes : sum (map type_nodes types)
        ≡ sum (map (λ (stated : Stated). binder_sum type_nodes stated.body) formulas)

  all_types : (formulas : List Stated) → AllTypes formulas
  all_types [] = record { types = []; among = λ x is. is; nodes = refl }
  all_types (stated ∷ formulas) =
      let here = formula_types stated stated.role in
      let rest = all_types formulas in
      let made : List NormalFormula = map (normal_formula (fresh_types first count)) formulas in
      let found : List Ty = binder_types (normal_formula (fresh_types first count) stated).body in
      let more : List Ty =
      joined (map (λ (formula : NormalFormula). binder_types formula.body) made) in
      record {
        types = here.types ++ rest.types;
        among = are_append found more (here.types ++ rest.types)
            (are_left found here.types rest.types here.among)
            (are_right more here.types rest.types rest.among);
        nodes =
            omega (
              arith,
              here.nodes,
              rest.nodes,
              nodes-append here.types rest.types,
              sum_by-cons (λ (n : ℕ). n) (binder_sum type_nodes stated.body)
                  (map (λ (x : Stated). binder_sum type_nodes x.body) formulas),
            );
      }

-- the list of sorts

length-or_individuals : (types : List Ty) → length (or_individuals types) ≤ length types + 1
length-or_individuals [] = omega arith
length-or_individuals (ty ∷ types) = omega arith

pub length-sorts : (problem : Problem) →
    length (sorts (normal_of problem))
    ≤ signature_nodes problem.signature + binder_nodes problem + 1
length-sorts problem =
    let all = all_types (length problem.signature.constructors) (fresh_count problem) problem.formulas in
    let declared : List Ty = joined (map declared_types problem.signature.symbols) in
    let bound : List Ty =
    joined (map (λ (formula : NormalFormula). binder_types formula.body) (normal_of problem).formulas) in
    let among : AreAmong (declared ++ bound) (declared ++ all.types) =
    are_append declared bound (declared ++ all.types)
    (are_left declared declared all.types (λ x is. is))
    (are_right bound declared all.types all.among) in
    let parts : List Ty = joined (map parts_of (declared ++ bound)) in
    omega (
      arith,
      length-or_individuals (once [] parts),
      once_within parts (joined (map parts_of (declared ++ all.types)))
          (are_joined parts_of (declared ++ bound) (declared ++ all.types) among),
      length-parts (declared ++ all.types),
      nodes-append declared all.types,
      nodes-declared problem.signature.symbols,
      all.nodes,
    )
