use Rattle.std.proofs.Common.{◌≡◌, sym, ◌∙◌, ap, arith}
use Rattle.fof_models.specs.declared.formula.Fof.{Fof}
use Rattle.fof_models.specs.declared.formula.Fof.TheVariants.{Exists}
use Rattle.fof_models.proofs.Prefixes.{under_existentials-none, existentials_more, existentials_deeper}
use Rattle.fof_models.proofs.formula.Fof.below_existentials.Goals as goal

pub loop-count-init : goal.loop-count-init
loop-count-init c = record {
  whole = sym (under_existentials-none c.args.self.now);
  no_deeper = omega arith;
}

pub loop-count-preserved : goal.loop-count-preserved
loop-count-preserved c =
    let is : c.loop-count.below.now ≡ Exists c.get-below.result.now =
    c.in-Exists.is ∙ ap (λ (p : Fof). Exists p) (sym c.get-below.ensures) in
    record {
      whole = existentials_more _ _ _ c.loop-count.count c.loop-count.invariant.whole is;
      no_deeper = existentials_deeper _ _ _ c.loop-count.invariant.no_deeper is;
    }
