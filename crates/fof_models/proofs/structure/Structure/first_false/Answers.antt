use Rattle.std.proofs.Common.{◌≤◌, take, map, arith, ap, sym, subst, ◌∙◌}
use Rattle.fof_models.specs.declared.problem.FofFormula.{FofFormula}
use Rattle.fof_models.specs.Structures.{reading}
use Rattle.fof_models.specs.Models.{AreSatisfied, IsFirstFalse}
use Rattle.fof_models.specs.Sound.{depth, greatest}
use Rattle.fof_models.proofs.Stated.{depth_at, truth_is, first_false}
use Rattle.fof_models.proofs.structure.Structure.first_false.Goals as goal

pub holds-requires-clause-room : goal.holds-requires-clause-room
holds-requires-clause-room c =
    rw (c.loop-index.invariant.kept, c.requires.empty)
    (omega (
      arith,
      c.requires.room,
      subst
          (λ formulas. depth c.formula-item.result.body
          ≤ greatest (map (λ (x : FofFormula). depth x.body) formulas))
          c.as_slice-formula-items.ensures
          (depth_at c.as_slice-formula-items.result.now c.loop-index.index c.formula-item.result
          c.loop-index-test.true c.formula-item.is),
    ))

pub returns-then-not-holds-clause-least : goal.returns-then-not-holds-clause-least
returns-then-not-holds-clause-least c =
    subst (λ formulas. IsFirstFalse (reading c.args.self.now) formulas c.loop-index.index)
    c.as_slice-formula-items.ensures
    (first_false (reading c.args.self.now) c.as_slice-formula-items.result.now c.loop-index.index
    c.formula-item.result c.loop-index-test.true c.formula-item.is
    (truth_is c.args.self.now _ c.formula-item.result.body c.holds.result
    (ap (λ env. env.items) c.loop-index.invariant.kept ∙ c.requires.empty) c.holds.ensures.exact
    ∙ c.if-not-holds.true)
    (subst (λ formulas. AreSatisfied (reading c.args.self.now) (take c.loop-index.index formulas))
    (sym c.as_slice-formula-items.ensures) c.loop-index.invariant.so_far))
