use Rattle.std.proofs.Common.{◌≡◌, ◌∙◌, ◌*◌, length, sym, ap, subst, replicate, slice_index}
use Rattle.std.specs.List.{All}
use Rattle.enc_base.specs.Tables.{EachBelow, tuple_count}
use Rattle.enc_base.specs.Counts.{in_64_bits}
use Rattle.tf_core.specs.Structures.{member_count, argument_sizes}
use Rattle.structure_tables.proofs.BlockOrder.{first_below}
use Rattle.structure_tables.proofs.Counting.{in_64_bits-factors}
use Rattle.structure_tables.proofs.SymbolCounts.{symbol_count-same}
use Rattle.structure_tables.proofs.typed_counts.entries_of_same_blocks.Goals as goal

pub entries_of_block-requires-clause-members : goal.entries_of_block-requires-clause-members
entries_of_block-requires-clause-members g c =
    let s = g.S.TypedSource.structure c.args.source.now in
    subst (EachBelow (replicate c.args.symbol.now.parameters (member_count s)))
    (sym (c.as_slice.ensures.value ∙ c.in_ok-members.ensures))
    (first_below c.args.symbol.now.parameters (member_count s) c.requires.sized.fits.some)

pub returns : goal.returns
returns g c =
    let s = g.S.TypedSource.structure c.args.source.now in
    let symbol = c.args.symbol.now in
    let first = tuple_count (argument_sizes s symbol (replicate symbol.parameters 0)) in
    let tuples = tuple_count (replicate symbol.parameters (member_count s)) in
    c.saturating_mul.ensures
    ∙ ap (λ n. in_64_bits (n * c.in_ok-block.block)) (c.requires.blocks
    ∙ ap (λ sizes. in_64_bits (tuple_count (replicate symbol.parameters (length sizes))))
    c.requires.sized.same)
    ∙ ap (λ n. in_64_bits (in_64_bits tuples * n)) (c.in_ok-block.ensures
    ∙ ap (λ members. in_64_bits (tuple_count (argument_sizes s symbol members)))
    (c.as_slice.ensures.value ∙ c.in_ok-members.ensures))
    ∙ in_64_bits-factors tuples first
    ∙ ap in_64_bits
    (sym (symbol_count-same (g.S.TypedSource.signature c.args.source.now) s c.requires.sized.fits
    symbol c.requires.typed
    (subst (λ sizes. All (λ size. size ≡ slice_index sizes 0) sizes) c.requires.sized.same
    c.requires.same)))
