use Rattle.std.proofs.Common.{◌∙◌, length, sym, subst, replicate}
use Rattle.enc_base.specs.Tables.{EachBelow}
use Rattle.structure_tables.proofs.MembersOfTypes.{first_arguments}
use Rattle.structure_tables.proofs.blocks.append_block.Goals as goal

pub append_table-requires-clause-some : goal.append_table-requires-clause-some
append_table-requires-clause-some g c =
    subst (λ bounds. EachBelow bounds (replicate (length bounds) 0))
    (sym (c.as_slice.ensures ∙ c.in_ok-bounds.ensures))
    (first_arguments (g.S.TypedSource.signature c.args.source.now)
    (g.S.TypedSource.structure c.args.source.now) c.requires.sized.fits
    c.args.symbol.now.parameters c.args.members.now c.requires.members
    c.args.symbol.now.arguments c.requires.typed.arguments)
