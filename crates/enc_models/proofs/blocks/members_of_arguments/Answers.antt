use Rattle.tf_models.proofs.SymbolBlocks.{block_members, argument_formed}
use Rattle.enc_models.proofs.blocks.members_of_arguments.Goals as goal

pub member_of-requires-clause-members : goal.member_of-requires-clause-members
member_of-requires-clause-members c =
    rw c.as_slice.ensures
    (block_members c.args.signature.now c.args.model.now c.args.symbol.now c.args.number
    c.requires.block)

pub member_of-requires-clause-typed : goal.member_of-requires-clause-typed
member_of-requires-clause-typed c =
    rw c.as_slice.ensures
    (argument_formed c.args.signature.now c.args.model.now c.args.symbol.now c.args.number
    c.requires.block c.loop-ty.ty-index c.ty-item.result
    (rw c.as_slice-ty-items.ensures at c.loop-ty-test.true)
    (rw c.as_slice-ty-items.ensures at c.ty-item.is))
