use Rattle.std.proofs.Common.{◌≡◌, ◌∷◌, [], ◌++◌, List, length, map, sym, ap, ◌∙◌, append_assoc, arith}
use Rattle.std.specs.Vec.Iter.{into_iter_items}
use Rattle.std.proofs.lemmas.List.{append-nil, nil_from_length}
use Rattle.fof_models.specs.declared.problem.FofFormula.{FofFormula}
use Rattle.enc_marks.specs.declared.open_formula.OpenFormula.{OpenFormula}
use Rattle.enc_marks.specs.Calls.Closures.{closures}
use Rattle.enc_marks.specs.Calls.Flags.{number_of, renumbered_by}
use Rattle.enc_marks.proofs.renumber.Numbering.closures.Goals as goal

pub loop-formula-preserved : goal.loop-formula-preserved
loop-formula-preserved c =
    let at = c.loop-formula in
    let formula = c.in-Some.formula in
    let images = λ (formulas : List OpenFormula).
    map (renumbered_by (number_of c.args.self.now)) (closures formulas) in
    let rest = into_iter_items c.next.new.self in
    let steps : into_iter_items at.formula-iterator ≡ formula ∷ rest = c.in-Some.ensures.steps.0 in
    record {
      made = ap (λ (made : List FofFormula). made ++ images rest) c.in_ok-push.ensures.ok
          ∙ append_assoc at.made (c.in_ok-closure.field-0 ∷ []) (images rest)
          ∙ ap (λ (one : FofFormula). at.made ++ one ∷ images rest) c.in_ok-closure.ensures
          ∙ ap (λ (formulas : List OpenFormula). at.made ++ images formulas) (sym steps)
          ∙ at.invariant.made;
      count =
          let was = at.invariant.count in
          let gone = c.in-Some.ensures.steps.1 in
          let short = ap (λ (formulas : List OpenFormula). length formulas) steps in
          omega arith;
    }

pub returns : goal.returns
returns c =
    let at = c.loop-formula in
    let images = λ (formulas : List OpenFormula).
    map (renumbered_by (number_of c.args.self.now)) (closures formulas) in
    let empty : into_iter_items at.formula-iterator ≡ [] =
    nil_from_length _ (sym at.invariant.count ∙ c.in-None.ensures.steps.0) in
    sym (append-nil at.made)
    ∙ ap (λ (formulas : List OpenFormula). at.made ++ images formulas) (sym empty)
    ∙ at.invariant.made
    ∙ ap images (c.into_iter-formula-iterator.ensures.into_iter_gives.0 ∙ c.into_vec-formula-items.ensures)
