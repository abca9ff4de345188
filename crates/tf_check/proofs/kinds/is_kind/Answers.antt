use Rattle.std.proofs.Common.{sym, refl}
use Rattle.tf_check.proofs.KindLemmas.{kind-types, kind-map}
use Rattle.tf_check.proofs.KindDefaults.{is_kind-other}
use Rattle.tf_check.proofs.Variants.{variant}
use Rattle.tf_check.proofs.kinds.is_kind.Goals as goal

pub returns-in-Types : goal.returns-in-Types
returns-in-Types c = rw (c.in-Types.is, kind-types) refl

pub returns-in-Map : goal.returns-in-Map
returns-in-Map c = rw (c.in-Map.is, kind-map, c.is_types.ensures, c.get.ensures) refl

pub returns-in_default : goal.returns-in_default
returns-in_default c =
    sym (is_kind-other c.args.expression.now (variant c.args.expression.now) c.in_default.not-Types
    c.in_default.not-Map)
