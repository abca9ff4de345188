use Rattle.std.proofs.Common.{arith, sym, subst}
use Rattle.std.specs.List.{AllByRecursion}
use Rattle.fof_models.specs.Sound.{depth, IsSoundFormula}
use Rattle.fof_models.proofs.Depth.{depth_within, greatest-more}
use Rattle.fof_models.proofs.Stated.{binders_at}
use Rattle.fof_models.proofs.problem.FofProblem.most_terms.Goals as goal

pub loop-formula-preserved : goal.loop-formula-preserved
loop-formula-preserved c =
    omega (
      arith,
      c.greater-most.ensures,
      c.loop-formula.invariant,
      c.nested.ensures.exact,
      depth_within c.formula-item.result.body,
      binders_at c.args.self.now.signature _ _ _ c.loop-formula-test.true c.formula-item.is
          (subst (AllByRecursion (IsSoundFormula c.args.self.now.signature)) (sym c.as_slice-formula-items.ensures)
          c.requires.sound.formulas),
      greatest-more (λ formula. depth formula.body) _ _ _ c.loop-formula-test.true c.formula-item.is,
    )
