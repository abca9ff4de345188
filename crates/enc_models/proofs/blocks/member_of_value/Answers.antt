use Rattle.std.proofs.Common.{sym, subst}
use Rattle.tf_core.specs.Typing.{IsType, IsResult}
use Rattle.tf_models.proofs.SymbolBlocks.{block_members, long_parameters}
use Rattle.enc_models.proofs.blocks.member_of_value.Goals as goal

pub member_of-requires-clause-members : goal.member_of-requires-clause-members
member_of-requires-clause-members c =
    rw c.as_slice.ensures
    (block_members c.args.signature.now c.args.model.now c.args.symbol.now c.args.number
    c.requires.block)

pub member_of-requires-clause-typed : goal.member_of-requires-clause-typed
member_of-requires-clause-typed c =
    rw c.as_slice.ensures
    (subst (λ n. IsType c.args.signature.now n c.in-Some.ty)
    (sym (long_parameters c.args.signature.now c.args.model.now c.args.symbol.now c.args.number
    c.requires.block))
    (subst (IsResult c.args.signature.now c.args.symbol.now.parameters) c.in-Some.is
    c.requires.block.typed.result))
