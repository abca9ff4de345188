use Rattle.std.proofs.Common.{sym, refl}
use Rattle.tf_check.proofs.KindLemmas.{kind-types}
use Rattle.tf_check.proofs.KindDefaults.{is_types-other}
use Rattle.tf_check.proofs.Variants.{variant}
use Rattle.tf_check.proofs.kinds.is_types.Goals as goal

pub returns-in-Types : goal.returns-in-Types
returns-in-Types c = rw (c.in-Types.is, kind-types) refl

pub returns-in_default : goal.returns-in_default
returns-in_default c =
    sym (is_types-other c.args.expression.now (variant c.args.expression.now)
    c.in_default.not-Types)
