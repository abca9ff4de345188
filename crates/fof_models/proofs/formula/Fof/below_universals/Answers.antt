use Rattle.std.proofs.Common.{◌≡◌, sym, ◌∙◌, ap, arith}
use Rattle.fof_models.specs.declared.formula.Fof.{Fof}
use Rattle.fof_models.specs.declared.formula.Fof.TheVariants.{ForAll}
use Rattle.fof_models.proofs.Prefixes.{under_universals-none, universals_more, universals_deeper}
use Rattle.fof_models.proofs.formula.Fof.below_universals.Goals as goal

pub loop-count-init : goal.loop-count-init
loop-count-init c = record {
  whole = sym (under_universals-none c.args.self.now);
  no_deeper = omega arith;
}

pub loop-count-preserved : goal.loop-count-preserved
loop-count-preserved c =
    let is : c.loop-count.below.now ≡ ForAll c.get-below.result.now =
    c.in-ForAll.is ∙ ap (λ (p : Fof). ForAll p) (sym c.get-below.ensures) in
    record {
      whole = universals_more _ _ _ c.loop-count.count c.loop-count.invariant.whole is;
      no_deeper = universals_deeper _ _ _ c.loop-count.invariant.no_deeper is;
    }
