use Rattle.std.proofs.Common.{sym, ◌∙◌, ap}
use Rattle.fof_models.specs.declared.formula.Fof.{Fof}
use Rattle.fof_models.specs.declared.formula.Fof.TheVariants.{ForAll}
use Rattle.fof_models.proofs.Prefixes.{under_universals-none, under_universals-outside}
use Rattle.fof_models.proofs.formula.Fof.under_universals.Goals as goal

pub loop-init : goal.loop-init
loop-init c = sym (under_universals-none c.args.self)

pub loop-preserved : goal.loop-preserved
loop-preserved c =
    ap (λ (p : Fof). ForAll p) (c.in_ok-new.ensures ∙ c.loop.invariant)
    ∙ under_universals-outside c.loop.counter c.args.self
