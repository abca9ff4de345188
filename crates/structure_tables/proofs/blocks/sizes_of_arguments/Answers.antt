use Rattle.std.proofs.Common.{subst}
use Rattle.enc_base.proofs.Tables.{EachBelow-length}
use Rattle.tf_core.specs.Typing.{IsType}
use Rattle.tf_core.specs.Structures.{member_count}
use Rattle.tf_models.proofs.TypeMembers.{type_at}
use Rattle.structure_tables.proofs.MembersOfTypes.{member_below, EachBelow-counted}
use Rattle.structure_tables.proofs.blocks.sizes_of_arguments.Goals as goal

pub member_of_type-requires-clause-members : goal.member_of_type-requires-clause-members
member_of_type-requires-clause-members g c =
    EachBelow-counted c.args.symbol.now.parameters
    (member_count (g.S.TypedSource.structure c.args.source.now)) c.args.members.now
    c.requires.members

pub member_of_type-requires-clause-typed : goal.member_of_type-requires-clause-typed
member_of_type-requires-clause-typed g c =
    subst (λ n. IsType (g.S.TypedSource.signature c.args.source.now) n c.ty-item.result)
    (EachBelow-length c.args.symbol.now.parameters
    (member_count (g.S.TypedSource.structure c.args.source.now)) c.args.members.now
    c.requires.members)
    (type_at (g.S.TypedSource.signature c.args.source.now) c.args.symbol.now.parameters
    c.loop-ty.ty-index c.args.symbol.now.arguments c.ty-item.result
    (rw c.as_slice-ty-items.ensures at c.loop-ty-test.true)
    (rw c.as_slice-ty-items.ensures at c.ty-item.is) c.requires.typed.arguments)

pub bounds-sizes-member : goal.bounds-sizes-member
bounds-sizes-member g c =
    rw (c.requires.sized.same, c.in_ok-member.ensures)
    (member_below (g.S.TypedSource.signature c.args.source.now)
    (g.S.TypedSource.structure c.args.source.now) c.requires.sized.fits
    c.args.symbol.now.parameters c.args.members.now c.requires.members c.ty-item.result
    (type_at (g.S.TypedSource.signature c.args.source.now) c.args.symbol.now.parameters
    c.loop-ty.ty-index c.args.symbol.now.arguments c.ty-item.result
    (rw c.as_slice-ty-items.ensures at c.loop-ty-test.true)
    (rw c.as_slice-ty-items.ensures at c.ty-item.is) c.requires.typed.arguments))
