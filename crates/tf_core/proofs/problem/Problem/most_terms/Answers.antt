use Rattle.std.proofs.Common.{arith, sym, subst}
use Rattle.std.specs.List.{AllByRecursion}
use Rattle.tf_core.specs.Counts.{depth}
use Rattle.tf_core.specs.Sound.{IsSoundStated}
use Rattle.tf_core.proofs.StatedFormulas.{binders_at}
use Rattle.tf_core.proofs.Depth.{greatest-more}
use Rattle.tf_core.proofs.problem.Problem.most_terms.Goals as goal

pub nested-requires : goal.nested-requires
nested-requires c =
    record {
      bound = binders_at c.args.self.now.signature _ _ _ c.loop-formula-test.true c.formula-item.is
          (subst (AllByRecursion (IsSoundStated c.args.self.now.signature))
          (sym c.as_slice-formula-items.ensures) c.requires.sound.formulas);
    }

pub loop-formula-preserved : goal.loop-formula-preserved
loop-formula-preserved c =
    omega (
      arith,
      c.greater-most.ensures,
      c.loop-formula.invariant,
      c.nested.ensures.exact,
      greatest-more (λ formula. depth formula.body) _ _ _ c.loop-formula-test.true c.formula-item.is,
    )
