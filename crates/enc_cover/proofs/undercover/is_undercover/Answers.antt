use Rattle.std.specs.Prelude.{ℕ, ◌≡◌, ◌<◌, List, length, get_or, slice_get, false, Some}
use Rattle.std.proofs.Common.{sym, ap, ◌∙◌, arith}
use Rattle.std.proofs.lemmas.Option.{slice_get-get_or, slice_get_past}
use Rattle.tf_core.specs.declared.normal.NormalFormula.{NormalFormula}
use Rattle.tf_core.specs.Sound.{IsSoundFormula}
use Rattle.tf_core.proofs.Depth.{normal_depth_within}
use Rattle.enc_marks.proofs.SoundTypes.{all_at}
use Rattle.enc_cover.specs.Undercover.{undercover_binders, undercover_in}
use Rattle.enc_cover.proofs.Binders.{answer, answer-sought}
use Rattle.enc_cover.proofs.undercover.is_undercover.Goals as goal

-- the formula that is lent is the one of that number
formula_at : (formulas lent : List NormalFormula) (i : ℕ) (formula : NormalFormula) →
    lent ≡ formulas → i < length lent → formula ≡ get_or lent i formula →
    slice_get formulas i ≡ Some formula
formula_at formulas lent i formula same within is =
    ap (λ xs. slice_get xs i) (sym same)
    ∙ slice_get-get_or lent i formula within
    ∙ ap Some (sym is)

pub find-requires-clause-depth : goal.find-requires-clause-depth
find-requires-clause-depth c =
    let sound = all_at (IsSoundFormula c.args.normal.now.signature) c.args.normal.now.formulas
    c.args.formula c.in-Some.formula.now c.requires.sound.formulas
    (formula_at c.args.normal.now.formulas c.as_slice.result.now c.args.formula
    c.in-Some.formula.now c.as_slice.ensures c.in-Some.ensures.lookup.3.0
    c.in-Some.ensures.lookup.1) in
    omega (arith, sound.binders, normal_depth_within c.in-Some.formula.now.body)

pub returns-in-Found : goal.returns-in-Found
returns-in-Found c =
    record {
      exact = ap answer (sym c.in-Found.is ∙ c.find.ensures.exact)
          ∙ answer-sought
          (undercover_binders c.args.normal.now.signature c.in-Some.formula.now.body)
          c.args.binder
          ∙ sym (ap (λ x. get_or (undercover_in c.args.normal.now.signature x) c.args.binder false)
          (formula_at c.args.normal.now.formulas c.as_slice.result.now c.args.formula
          c.in-Some.formula.now c.as_slice.ensures c.in-Some.ensures.lookup.3.0
          c.in-Some.ensures.lookup.1));
    }

pub returns-in-Left : goal.returns-in-Left
returns-in-Left c =
    record {
      exact = ap answer (sym c.in-Left.is ∙ c.find.ensures.exact)
          ∙ answer-sought
          (undercover_binders c.args.normal.now.signature c.in-Some.formula.now.body)
          c.args.binder
          ∙ sym (ap (λ x. get_or (undercover_in c.args.normal.now.signature x) c.args.binder false)
          (formula_at c.args.normal.now.formulas c.as_slice.result.now c.args.formula
          c.in-Some.formula.now c.as_slice.ensures c.in-Some.ensures.lookup.3.0
          c.in-Some.ensures.lookup.1));
    }

pub returns-in-None : goal.returns-in-None
returns-in-None c =
    record {
      exact = sym (ap (λ x. get_or (undercover_in c.args.normal.now.signature x) c.args.binder
          false)
          (ap (λ xs. slice_get xs c.args.formula) (sym c.as_slice.ensures)
          ∙ slice_get_past c.as_slice.result.now c.args.formula c.in-None.ensures.lookup.3));
    }
