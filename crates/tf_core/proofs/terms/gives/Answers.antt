use Rattle.std.proofs.Common.{ap, sym, ◌∙◌}
use Rattle.tf_core.specs.Types.{instantiate}
use Rattle.tf_core.specs.TypingTests.{gives}
use Rattle.tf_core.proofs.Compared.{same_type-decided}
use Rattle.tf_core.proofs.terms.gives.Goals as goal

pub returns-in-Some : goal.returns-in-Some
returns-in-Some c =
    same_type-decided c.same_instance.result (instantiate c.args.arguments.now c.in-Some.ty)
    (instantiate c.args.types.now c.args.declared.now) c.same_instance.ensures
    ∙ sym (ap (λ given. gives given c.args.arguments.now (instantiate c.args.types.now c.args.declared.now))
    c.in-Some.is)
