use Rattle.std.proofs.Common.{sym, ap, ◌∙◌, ◌<◌, ℕ, List, [], ◌++◌}
use Rattle.std.proofs.Common.{length, take, arith}
use Rattle.std.proofs.lemmas.List.{length-map}
use Rattle.enc_base.proofs.Puts.{then_put, put_as}
use Rattle.tf_core.specs.declared.signature.Symbol.{Symbol}
use Rattle.model_tables.specs.declared.form.Kind.TheVariants as kind
use Rattle.model_tables.specs.Written.{laid, item_line, item_lines, symbol_headings, heading}
use Rattle.model_tables.proofs.LineParts.{line_next, lines_end, mapped_there}
use Rattle.model_tables.proofs.lines.put_symbols.Goals as goal

pub loop-i-preserved : goal.loop-i-preserved
loop-i-preserved g c =
    let given = c.args.symbols.now in
    let i = c.loop-i.i in
    let one = c.index-symbols-i.result in
    let entries = c.index-tables-i.result in
    let head = heading kind.Symbol one.name in
    let below = c.loop-i-test.true in
    let long = length-map given (λ (f : Symbol). heading kind.Symbol f.name) in
    let first : i < length (symbol_headings given) = omega (arith, below, long) in
    let second : i < length c.args.tables.now = omega (arith, below, c.requires) in
    let front : List ℕ =
    laid (item_lines (take i (symbol_headings given)) (take i c.args.tables.now) []) in
    put_as (ap (λ z. front ++ laid (item_line (heading kind.Symbol z) c.as_slice.result.now []))
    c.as_slice-name.ensures
    ∙ ap (λ (k : Symbol).
    front ++ laid (item_line (heading kind.Symbol k.name) c.as_slice.result.now []))
    (sym c.index-symbols-i.is)
    ∙ ap (λ z. front ++ laid (item_line head z [])) c.as_slice.ensures
    ∙ sym (line_next (symbol_headings given) c.args.tables.now i head entries first second
    (mapped_there (λ (f : Symbol). heading kind.Symbol f.name) given i one head below
    c.index-symbols-i.is) c.index-tables-i.is))
    (then_put c.loop-i.invariant c.put_symbol.ensures)

pub returns : goal.returns
returns g c =
    let past = c.loop-i-test.false in
    let long = length-map c.args.symbols.now (λ (f : Symbol). heading kind.Symbol f.name) in
    put_as (lines_end (symbol_headings c.args.symbols.now) c.args.tables.now c.loop-i.i
    (omega (arith, past, long)) (omega (arith, past, c.requires)))
    c.loop-i.invariant
