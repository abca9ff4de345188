use Rattle.tf_nnf.proofs.NormalProblem.{hypothesis_is, conjecture_is}
use Rattle.tf_nnf.proofs.normal.normal_formula.Goals as goal

pub returns-in_ok-form-in-Hypothesis : goal.returns-in_ok-form-in-Hypothesis
returns-in_ok-form-in-Hypothesis c =
    hypothesis_is _ c.args.stated.now _ _ c.in-Hypothesis.is c.in_ok-name.ensures
    c.in_ok-form-in-Hypothesis.ensures

pub returns-in_ok-form-in-Conjecture : goal.returns-in_ok-form-in-Conjecture
returns-in_ok-form-in-Conjecture c =
    conjecture_is _ _ c.args.stated.now _ _ c.in-Conjecture.is c.in_ok-name.ensures
    c.in_ok-form-in-Conjecture.ensures
