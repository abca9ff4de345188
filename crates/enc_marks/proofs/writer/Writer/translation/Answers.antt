use Rattle.std.proofs.Common.{◌≤◌, ◌++◌, List, map, length, append_assoc, ap, ◌∙◌, arith}
use Rattle.std.proofs.lemmas.List.{take_all}
use Rattle.tf_core.specs.declared.normal.NormalFormula.{NormalFormula}
use Rattle.fof_models.specs.declared.problem.FofFormula.{FofFormula}
use Rattle.enc_marks.specs.Encoded as specs
use Rattle.enc_marks.proofs.writer.Writer.translation.Goals as goal

pub returns : goal.returns
unfolding specs.translation
returns g c =
    let choices = g.C.Choices.choices c.args.self.now.choices.now in
    let normal = c.args.self.now.types.normal.now in
    let stated = map (specs.stated choices normal) normal.formulas in
    let typings = specs.typing_axioms choices normal 0 normal.signature.symbols in
    let last = specs.last_axioms choices normal choices.marking in
    let count = ap (λ (items : List NormalFormula). length items) c.as_slice-formula-items.ensures
    in
    let enough : length normal.formulas ≤ c.loop-formula.formula-index =
    omega (arith, count, c.loop-formula-test.false) in
    c.in_ok-add_last.ensures
    ∙ ap (λ (made : List FofFormula). made ++ last)
    (c.in_ok-add_typings.ensures
    ∙ ap (λ (made : List FofFormula). made ++ typings)
    (c.loop-formula.invariant
    ∙ ap (λ (items : List NormalFormula). map (specs.stated choices normal) items)
    (take_all c.loop-formula.formula-index normal.formulas enough)))
    ∙ append_assoc stated typings last
