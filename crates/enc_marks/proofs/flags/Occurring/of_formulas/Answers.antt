use Rattle.std.proofs.Common.{◌||◌, Bool, List, ap, sym, ◌∙◌, false, get_or}
use Rattle.std.specs.List.{list_any}
use Rattle.std.proofs.lemmas.List.{take_all}
use Rattle.enc_marks.specs.declared.open_formula.OpenFormula.{OpenFormula}
use Rattle.enc_marks.specs.Calls.Flags.{is_set}
use Rattle.enc_marks.specs.Occurrence.{occurs}
use Rattle.enc_marks.proofs.Added.{added-more}
use Rattle.enc_marks.proofs.Closures.{is_present-closures}
use Rattle.enc_marks.proofs.flags.Occurring.of_formulas.Goals as goal

pub loop-formula-init : goal.loop-formula-init
unfolding is_set
loop-formula-init c = λ m. ap (λ (flags : List Bool). get_or flags m false) c.new.ensures.items

pub loop-formula-preserved : goal.loop-formula-preserved
loop-formula-preserved c = λ m.
    let formulas = c.args.formulas.now in
    let i = c.loop-formula.formula-index in
    added-more (λ n. false) (is_set c.loop-formula.occurring) (is_set c.add_formula.new.self)
    (λ n (formula : OpenFormula). occurs n formula.body) formulas i c.formula-item.result
    c.loop-formula-test.true c.loop-formula.invariant
    (λ n. c.in_ok-add_formula.ensures n
    ∙ ap (λ (formula : OpenFormula). is_set c.loop-formula.occurring n || occurs n formula.body)
    c.formula-item.is) m

pub returns : goal.returns
returns c = λ m.
    let formulas = c.args.formulas.now in
    c.loop-formula.invariant m
    ∙ ap (list_any (λ (formula : OpenFormula). occurs m formula.body))
    (take_all c.loop-formula.formula-index formulas c.loop-formula-test.false)
    ∙ sym (is_present-closures m formulas)
