use Rattle.std.proofs.Common.{◌+◌, drop, refl, sym, ap, ◌∙◌}
use Rattle.tf_naked.specs.Naked.{equations_of, naked_in_formulas, naked_places}
use Rattle.tf_naked.specs.Calls.Walked.{walked}
use Rattle.tf_naked.proofs.Frames.{kinds_of-outside}
use Rattle.tf_naked.proofs.Walked.{first_of, formula-found, formula-passed, few_equations}
use Rattle.tf_naked.proofs.first.first_naked.Goals as goal

pub loop-i-init : goal.loop-i-init
unfolding naked_places
loop-i-init c = refl

pub first_place-requires : goal.first_place-requires
first_place-requires c = record {
  few = few_equations c.args.normal.now.signature c.args.normal.now.formulas
      c.as_slice-formula-items.result.now c.loop-i.i c.formula-item.result
      c.as_slice-formula-items.ensures c.loop-i-test.true c.formula-item.is
      c.requires.sound.formulas;
}

pub returns-in-Found : goal.returns-in-Found
returns-in-Found c = record {
  exact = formula-found c.as_slice-formula-items.result.now c.loop-i.i c.formula-item.result
      c.loop-i-test.true c.formula-item.is c.in-Found.place
      (c.in-Found.ensures
      ∙ ap (λ kinds. walked c.loop-i.i 0 (equations_of c.formula-item.result.body kinds))
      kinds_of-outside)
      ∙ ap (λ list. first_of (naked_in_formulas c.loop-i.i (drop c.loop-i.i list)))
      c.as_slice-formula-items.ensures
      ∙ c.loop-i.invariant;
}

pub loop-i-preserved : goal.loop-i-preserved
loop-i-preserved c =
    sym (ap (λ list. first_of (naked_in_formulas (c.loop-i.i + 1) (drop (c.loop-i.i + 1) list)))
    c.as_slice-formula-items.ensures)
    ∙ formula-passed c.as_slice-formula-items.result.now c.loop-i.i c.formula-item.result
    c.loop-i-test.true c.formula-item.is c.in_default.field-0
    (c.in_default.ensures
    ∙ ap (λ kinds. walked c.loop-i.i 0 (equations_of c.formula-item.result.body kinds))
    kinds_of-outside)
    ∙ ap (λ list. first_of (naked_in_formulas c.loop-i.i (drop c.loop-i.i list)))
    c.as_slice-formula-items.ensures
    ∙ c.loop-i.invariant
