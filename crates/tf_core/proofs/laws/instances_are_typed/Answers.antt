use Rattle.std.proofs.Common.{length, refl}
use Rattle.tf_core.proofs.TypingKept.{type-substituted}
use Rattle.tf_core.proofs.laws.instances_are_typed.Goals as goal

pub returns : goal.returns
returns c = λ g others instances ty formed typed.
    type-substituted g (length instances) others instances formed refl ty typed
