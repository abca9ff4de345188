use Rattle.std.proofs.Common.{sym, ap, ◌∙◌, ◌<◌, ℕ, List, [], ◌++◌}
use Rattle.std.proofs.Common.{length, take, arith}
use Rattle.enc_base.proofs.Puts.{then_put, put_as}
use Rattle.model_tables.specs.Untyped.{symbol_kind}
use Rattle.model_tables.specs.Written.{laid, item_line, item_lines, fof_headings, heading}
use Rattle.model_tables.proofs.LineParts.{line_next, lines_end, fof_there, fof_long}
use Rattle.model_tables.proofs.lines.put_fof_symbols.Goals as goal

pub loop-i-preserved : goal.loop-i-preserved
loop-i-preserved g c =
    let given = c.args.signature.now in
    let names = c.args.names.now in
    let i = c.loop-i.i in
    let one = c.index-signature-i.result in
    let name = c.index-names-i.result in
    let entries = c.index-tables-i.result in
    let head = heading (symbol_kind one) name in
    let below = c.loop-i-test.true in
    let long = fof_long given names c.requires.named in
    let first : i < length (fof_headings given names) = omega (arith, below, long) in
    let second : i < length c.args.tables.now = omega (arith, below, c.requires.tabled) in
    let third : i < length names = omega (arith, below, c.requires.named) in
    let front : List ℕ =
    laid (item_lines (take i (fof_headings given names)) (take i c.args.tables.now) []) in
    let last = c.as_slice-in-loop-i.result.now in
    put_as (ap (λ z. front ++ laid (item_line (heading z c.as_slice.result.now) last []))
    c.kind_of-kind.ensures
    ∙ ap (λ z. front ++ laid (item_line (heading (symbol_kind one) z) last [])) c.as_slice.ensures
    ∙ ap (λ z. front ++ laid (item_line head z [])) c.as_slice-in-loop-i.ensures
    ∙ sym (line_next (fof_headings given names) c.args.tables.now i head entries first second
    (fof_there given names i one name head below third c.index-signature-i.is c.index-names-i.is)
    c.index-tables-i.is))
    (then_put c.loop-i.invariant c.put_symbol.ensures)

pub returns : goal.returns
returns g c =
    let past = c.loop-i-test.false in
    let long = fof_long c.args.signature.now c.args.names.now c.requires.named in
    put_as (lines_end (fof_headings c.args.signature.now c.args.names.now) c.args.tables.now
    c.loop-i.i (omega (arith, past, long)) (omega (arith, past, c.requires.tabled)))
    c.loop-i.invariant
