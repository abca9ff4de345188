use Rattle.std.proofs.Common.{ap, sym, ◌∙◌, arith}
use Rattle.tf_core.specs.declared.ty.Ty.TheVariants.{Var}
use Rattle.tf_core.specs.Types.{instantiate}
use Rattle.tf_core.proofs.Types.{instantiate-variable}
use Rattle.tf_core.proofs.instance.replacement.Goals as goal

pub returns-in-Some : goal.returns-in-Some
returns-in-Some c =
    c.in-Some.ensures.lookup.3.1 (Var c.args.i)
    ∙ sym (ap (instantiate c.args.types.now) c.requires
    ∙ instantiate-variable c.args.types.now c.args.i)

pub returns-in-None : goal.returns-in-None
returns-in-None c =
    c.requires
    ∙ c.in-None.ensures.lookup.4 (omega arith) (Var c.args.i)
    ∙ sym (ap (instantiate c.args.types.now) c.requires
    ∙ instantiate-variable c.args.types.now c.args.i)
