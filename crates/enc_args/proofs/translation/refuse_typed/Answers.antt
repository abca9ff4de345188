use Rattle.std.proofs.Common.{sym, ◌∙◌}
use Rattle.enc_marks.proofs.PolymorphicNames.{names_tell}
use Rattle.enc_args.proofs.translation.refuse_typed.Goals as goal

pub refuse_not_free-requires-clause-monomorphic : goal.refuse_not_free-requires-clause-monomorphic
refuse_not_free-requires-clause-monomorphic c =
    (names_tell c.args.normal.now).0 (sym c.in_ok-name.ensures.exact ∙ c.in-None.is)
