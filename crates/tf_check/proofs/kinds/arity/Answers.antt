use Rattle.std.proofs.Common.{◌≡◌, ◌+◌, sym, refl, ap, ◌∙◌, arith}
use Rattle.tptp_syntax.specs.FileSizes.{type_nodes}
use Rattle.tf_check.proofs.KindLemmas.{kind-types, kind-map, type_nodes-map}
use Rattle.tf_check.proofs.KindDefaults.{arity-other}
use Rattle.tf_check.proofs.Variants.{variant}
use Rattle.tf_check.proofs.kinds.arity.Goals as goal

pub types-requires : goal.types-requires
types-requires c =
    let size : type_nodes c.args.expression.now
    ≡ 1 + (type_nodes c.in-Map.left + type_nodes c.in-Map.field-1) =
    ap type_nodes c.in-Map.is ∙ type_nodes-map c.in-Map.left c.in-Map.field-1 in
    rw c.get.ensures (omega (arith, size, c.requires))

pub returns-in-Types : goal.returns-in-Types
returns-in-Types c = rw (c.in-Types.is, kind-types) refl

pub returns-in-Map : goal.returns-in-Map
returns-in-Map c =
    rw (c.in-Map.is, kind-map c.in-Map.left c.in-Map.field-1)
    (rw c.get.ensures at c.types.ensures.exact)

pub returns-in_default : goal.returns-in_default
returns-in_default c =
    sym (arity-other c.args.expression.now (variant c.args.expression.now) c.in_default.not-Types
    c.in_default.not-Map)
