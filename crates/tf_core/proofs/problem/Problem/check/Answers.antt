use Rattle.std.proofs.Common.{◌≡◌, ◌↔◌, [], IsTrue, ap, ◌∙◌}
use Rattle.std.specs.List.{list_all}
use Rattle.tf_core.specs.Typing.{IsProblem}
use Rattle.tf_core.specs.TypingTests.{is_formula}
use Rattle.tf_core.proofs.CheckedTerms.{answer_says}
use Rattle.tf_core.proofs.TypedProblems.{problem_decided}
use Rattle.tf_core.proofs.problem.Problem.check.Goals as goal

pub returns : goal.returns
returns c =
    let same = ap (list_all (λ formula. is_formula c.args.self.now.signature formula.type_variables formula.body []))
    c.as_slice.ensures in
    record {
      exact = answer_says (λ typed. typed ≡ list_all (λ formula. is_formula c.args.self.now.signature formula.type_variables formula.body [])
          c.as_slice.result.now) (λ typed. IsTrue typed ↔ IsProblem c.args.self.now)
          (λ typed decides. problem_decided c.args.self.now typed (c.check.ensures.exact.0 c.if-not-check.false)
          (decides ∙ same))
          c.are_stated.result c.are_stated.ensures.exact;
    }
