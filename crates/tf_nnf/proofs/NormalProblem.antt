-- The normal problem: what its formulas and counts are.
use Rattle.std.proofs.Common.{ℕ, ◌+◌, ◌<◌, ◌^◌, ◌≡◌, true, false, List, [], ◌∷◌, map, cond, refl, sym, ap, ◌∙◌, lit<}
use Rattle.std.specs.Prelude.{Some}
use Rattle.std.specs.List.{sum_by, AllByRecursion}
use Rattle.std.proofs.lemmas.List.Sums.{sum_by-cons}
use Rattle.tf_core.specs.declared.ty.Ty.{Ty}
use Rattle.tf_core.specs.declared.formula.Formula.{Formula}
use Rattle.tf_core.specs.declared.problem.Role.{Role}
use Rattle.tf_core.specs.declared.problem.Role.TheVariants.{Hypothesis, Conjecture}
use Rattle.tf_core.specs.declared.problem.Stated.{Stated}
use Rattle.tf_core.specs.declared.problem.Problem.{Problem}
use Rattle.tf_core.specs.declared.nnf.Nnf.{Nnf}
use Rattle.tf_core.specs.declared.normal.NormalFormula.{NormalFormula}
use Rattle.tf_core.specs.declared.signature.Signature.{Signature}
use Rattle.tf_core.specs.Sound.{IsSoundStated, is_conjecture}
use Rattle.tf_core.specs.Substitution.{substitute_types}
use Rattle.tf_nnf.specs.Forms.{positive_form, negative_form}
use Rattle.tf_nnf.specs.Nodes.{nnf_nodes, normal_nodes, nodes_by_role, stated_nodes}
use Rattle.tf_nnf.specs.NormalForm.{conjecture_of, variables_of, fresh_types, made, normal_by_role, normal_formula, normal_of, types_for_conjecture}
use Rattle.tf_nnf.proofs.Unchanged.{substitute_types-nothing, nnf_nodes-substitute_types}

pub made-hypothesis : (f : Formula) → made 0 0 true f ≡ positive_form f
unfolding made
made-hypothesis f = substitute_types-nothing (positive_form f)

pub made-conjecture : (first count : ℕ) (f : Formula) →
    made first count false f ≡ substitute_types (fresh_types first count) (negative_form f)
unfolding made
made-conjecture first count f = refl

-- nodes

nodes-by_role : (types : List Ty) (stated : Stated) (role : Role) →
    nnf_nodes (normal_by_role types stated role).body ≡ nodes_by_role stated.body role
nodes-by_role types stated Hypothesis = refl
nodes-by_role types stated Conjecture =
    nnf_nodes-substitute_types types (negative_form stated.body)

nodes-formulas : (types : List Ty) (formulas : List Stated) →
    sum_by (λ formula. nnf_nodes formula.body) (map (normal_formula types) formulas)
    ≡ sum_by stated_nodes formulas
nodes-formulas types [] = refl
nodes-formulas types (stated ∷ formulas) =
    sum_by-cons (λ formula. nnf_nodes formula.body) (normal_formula types stated) (map (normal_formula types) formulas)
    ∙ ap (λ n. n + sum_by (λ formula. nnf_nodes formula.body) (map (normal_formula types) formulas))
    (nodes-by_role types stated stated.role)
    ∙ ap (λ n. stated_nodes stated + n) (nodes-formulas types formulas)
    ∙ sym (sum_by-cons stated_nodes stated formulas)

pub normal_nodes-normal_of : (problem : Problem) →
    normal_nodes (normal_of problem) ≡ sum_by stated_nodes problem.formulas
normal_nodes-normal_of problem = nodes-formulas (types_for_conjecture problem) problem.formulas

-- the fresh constructors are few

pub fresh_bounded : (g : Signature) (formulas : List Stated) →
    AllByRecursion (IsSoundStated g) formulas → variables_of (conjecture_of formulas) < 2 ^ 27
fresh_bounded g [] sound = lit< tt
fresh_bounded g (stated ∷ formulas) sound =
    elim (is_conjecture stated.role)
    as (λ b. variables_of (cond b (Some stated) (conjecture_of formulas)) < 2 ^ 27)
    [ true ↦ sound.0.type_variables | false ↦ fresh_bounded g formulas sound.1 ]

-- what a stated formula becomes, by its role

pub hypothesis_is : (types : List Ty) (stated : Stated) (name : List ℕ) (body : Nnf) →
    stated.role ≡ Hypothesis → name ≡ stated.name → body ≡ made 0 0 true stated.body →
    (let formula : NormalFormula = record {
      name = name;
      negated = false;
      type_variables = stated.type_variables;
      body = body;
    } in formula)
    ≡ normal_formula types stated
hypothesis_is types stated name body is same by_call =
    let whole : body ≡ positive_form stated.body = by_call ∙ made-hypothesis stated.body in
    ap (λ (x : List ℕ). let formula : NormalFormula = record {
      name = x;
      negated = false;
      type_variables = stated.type_variables;
      body = body;
    } in formula) same
    ∙ ap (λ (x : Nnf). let formula : NormalFormula = record {
      name = stated.name;
      negated = false;
      type_variables = stated.type_variables;
      body = x;
    } in formula) whole
    ∙ sym (ap (normal_by_role types stated) is)

pub conjecture_is : (first count : ℕ) (stated : Stated) (name : List ℕ) (body : Nnf) →
    stated.role ≡ Conjecture → name ≡ stated.name → body ≡ made first count false stated.body →
    (let formula : NormalFormula = record {
      name = name;
      negated = true;
      type_variables = 0;
      body = body;
    } in formula)
    ≡ normal_formula (fresh_types first count) stated
conjecture_is first count stated name body is same by_call =
    let whole : body ≡ substitute_types (fresh_types first count) (negative_form stated.body) =
    by_call ∙ made-conjecture first count stated.body in
    ap (λ (x : List ℕ). let formula : NormalFormula = record {
      name = x;
      negated = true;
      type_variables = 0;
      body = body;
    } in formula) same
    ∙ ap (λ (x : Nnf). let formula : NormalFormula = record {
      name = stated.name;
      negated = true;
      type_variables = 0;
      body = x;
    } in formula) whole
    ∙ sym (ap (normal_by_role (fresh_types first count) stated) is)
