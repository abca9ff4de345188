use Rattle.std.proofs.Common.{◌≡◌, ◌≤◌, ◌∙◌, length, sym, ap, subst, arith, replicate}
use Rattle.std.specs.Prelude.{IfOk}
use Rattle.enc_base.specs.Tables.{EachBelow, tuple_count}
use Rattle.enc_base.specs.Counts.{in_64_bits}
use Rattle.tf_core.specs.Structures.{member_count, argument_sizes}
use Rattle.structure_tables.specs.EntryCounts.{symbol_count}
use Rattle.structure_tables.proofs.BlockOrder.{first_below}
use Rattle.structure_tables.proofs.ProductSums.{total-single}
use Rattle.structure_tables.proofs.SymbolCounts.{symbol_count-grows}
use Rattle.structure_tables.proofs.typed_counts.entries_of_symbol.Goals as goal

pub returns-then-tuples : goal.returns-then-tuples
returns-then-tuples g c =
    let s = g.S.TypedSource.structure c.args.source.now in
    let symbol = c.args.symbol.now in
    let counted = ap (λ sizes. in_64_bits (tuple_count (replicate symbol.parameters (length sizes))))
    c.requires.sized.same in
    let grows : tuple_count (replicate symbol.parameters (member_count s)) ≤ symbol_count s symbol =
    symbol_count-grows (g.S.TypedSource.signature c.args.source.now) s c.requires.sized.fits symbol
    c.requires.typed in
    omega (arith, c.count_tuples-tuples.ensures.exact, c.if-tuples.true, counted, grows)

pub entries_of_block-requires-clause-members : goal.entries_of_block-requires-clause-members
entries_of_block-requires-clause-members g c =
    let s = g.S.TypedSource.structure c.args.source.now in
    subst (EachBelow (replicate c.args.symbol.now.parameters (member_count s)))
    (sym (c.as_slice.ensures.value ∙ c.in_ok-members.ensures))
    (first_below c.args.symbol.now.parameters (member_count s) c.requires.sized.fits.some)

pub returns-then-tuples-eq1 : goal.returns-then-tuples-eq1
returns-then-tuples-eq1 g c =
    let s = g.S.TypedSource.structure c.args.source.now in
    let symbol = c.args.symbol.now in
    let counted = ap (λ sizes. in_64_bits (tuple_count (replicate symbol.parameters (length sizes))))
    c.requires.sized.same in
    let single : tuple_count (replicate symbol.parameters (member_count s)) ≡ 1 =
    omega (arith, c.count_tuples-tuples.ensures.exact, c.if-tuples-eq1.true, counted) in
    let alone : symbol_count s symbol ≡ tuple_count (argument_sizes s symbol c.as_slice.result.now) =
    total-single symbol.parameters (member_count s)
    (λ members. tuple_count (argument_sizes s symbol members)) single
    ∙ ap (λ members. tuple_count (argument_sizes s symbol members))
    (sym (c.as_slice.ensures.value ∙ c.in_ok-members.ensures)) in
    subst (λ n. IfOk c.entries_of_block.result (λ entries. entries ≡ in_64_bits n)) (sym alone)
    c.entries_of_block.ensures
