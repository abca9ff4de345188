use Rattle.std.proofs.Common.{sym, ◌∙◌, ap}
use Rattle.fof_models.specs.declared.formula.Fof.{Fof}
use Rattle.fof_models.specs.declared.formula.Fof.TheVariants.{Exists}
use Rattle.fof_models.proofs.Prefixes.{under_existentials-none, under_existentials-outside}
use Rattle.fof_models.proofs.formula.Fof.under_existentials.Goals as goal

pub loop-init : goal.loop-init
loop-init c = sym (under_existentials-none c.args.self)

pub loop-preserved : goal.loop-preserved
loop-preserved c =
    ap (λ (p : Fof). Exists p) (c.in_ok-new.ensures ∙ c.loop.invariant)
    ∙ under_existentials-outside c.loop.counter c.args.self
