-- A problem is well typed exactly where the tests say so.
use Rattle.std.specs.Prelude.{◌≡◌, ◌↔◌, ◌&&◌, Bool, [], IsTrue}
use Rattle.std.specs.List.{list_all}
use Rattle.std.proofs.Common.{sym, ap, subst, ◌∙◌}
use Rattle.std.proofs.lemmas.Bool.{and_parts, and_from}
use Rattle.tf_core.specs.declared.problem.Problem.{Problem}
use Rattle.tf_core.specs.declared.problem.Stated.{Stated}
use Rattle.tf_core.specs.declared.normal.Normal.{Normal}
use Rattle.tf_core.specs.declared.normal.NormalFormula.{NormalFormula}
use Rattle.tf_core.specs.Typing.{IsSignature, IsProblem, IsNormal, IsFormula, IsNnf}
use Rattle.tf_core.specs.TypingTests.{is_signature, is_formula, is_nnf, is_problem, is_normal}
use Rattle.tf_core.proofs.Typed.{is_signature-says, list_all-says}
use Rattle.tf_core.proofs.TypedFormulas.{IsFormula-from, is_formula-from}
use Rattle.tf_core.proofs.TypedNnf.{IsNnf-from, is_nnf-from}

pub is_problem-says : (problem : Problem) → IsTrue (is_problem problem) ↔ IsProblem problem
is_problem-says problem =
    let g = problem.signature in
    let formulas = list_all-says (λ (stated : Stated). is_formula g stated.type_variables stated.body [])
    (λ stated. IsFormula g stated.type_variables [] stated.body)
    (λ stated. (
      IsFormula-from g stated.type_variables stated.body [],
      is_formula-from g stated.type_variables [] stated.body,
    ))
    problem.formulas in (
      λ holds.
          let both = and_parts (is_signature g) _ holds in
          record { signature = (is_signature-says g).0 both.0; formulas = formulas.0 both.1 },
      λ typed.
          and_from (is_signature g) _ ((is_signature-says g).1 typed.signature) (formulas.1 typed.formulas),
    )

pub is_normal-says : (normal : Normal) → IsTrue (is_normal normal) ↔ IsNormal normal
is_normal-says normal =
    let g = normal.signature in
    let formulas = list_all-says (λ (formula : NormalFormula). is_nnf g formula.type_variables formula.body [])
    (λ formula. IsNnf g formula.type_variables [] formula.body)
    (λ formula. (
      IsNnf-from g formula.type_variables formula.body [],
      is_nnf-from g formula.type_variables [] formula.body,
    ))
    normal.formulas in (
      λ holds.
          let both = and_parts (is_signature g) _ holds in
          record { signature = (is_signature-says g).0 both.0; formulas = formulas.0 both.1 },
      λ typed.
          and_from (is_signature g) _ ((is_signature-says g).1 typed.signature) (formulas.1 typed.formulas),
    )

-- a problem over a typed signature is typed exactly where its formulas are
pub problem_decided : (problem : Problem) (answer : Bool) → IsSignature problem.signature →
    answer ≡ list_all (λ formula. is_formula problem.signature formula.type_variables formula.body [])
    problem.formulas → IsTrue answer ↔ IsProblem problem
problem_decided problem answer signature decides =
    let whole : answer ≡ is_problem problem =
    decides ∙ ap (λ b. b && list_all (λ formula. is_formula problem.signature formula.type_variables formula.body [])
    problem.formulas) (sym ((is_signature-says problem.signature).1 signature)) in
    subst (λ b. IsTrue b ↔ IsProblem problem) (sym whole) (is_problem-says problem)

-- a normal problem over a typed signature is typed exactly where its formulas are
pub normal_decided : (normal : Normal) (answer : Bool) → IsSignature normal.signature →
    answer ≡ list_all (λ formula. is_nnf normal.signature formula.type_variables formula.body [])
    normal.formulas → IsTrue answer ↔ IsNormal normal
normal_decided normal answer signature decides =
    let whole : answer ≡ is_normal normal =
    decides ∙ ap (λ b. b && list_all (λ formula. is_nnf normal.signature formula.type_variables formula.body [])
    normal.formulas) (sym ((is_signature-says normal.signature).1 signature)) in
    subst (λ b. IsTrue b ↔ IsNormal normal) (sym whole) (is_normal-says normal)
