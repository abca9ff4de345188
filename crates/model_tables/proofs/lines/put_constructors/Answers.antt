use Rattle.std.proofs.Common.{sym, ap, ◌∙◌, ◌≡◌, ◌<◌, ◌+◌, ℕ, List, [], ◌++◌}
use Rattle.std.proofs.Common.{length, take, arith}
use Rattle.enc_base.proofs.Puts.{then_put, put_as}
use Rattle.tf_core.specs.declared.signature.Constructor.{Constructor}
use Rattle.model_tables.specs.Written.{laid, item_line, item_lines, constructor_headings, constructor_heading}
use Rattle.model_tables.proofs.LineParts.{line_next, lines_end, constructor_there}
use Rattle.model_tables.proofs.LineParts.{constructors_long}
use Rattle.model_tables.proofs.lines.put_constructors.Goals as goal

pub loop-i-preserved : goal.loop-i-preserved
loop-i-preserved g c =
    let given = c.args.constructors.now in
    let i = c.loop-i.i in
    let one = c.index-constructors-i.result in
    let entries = c.index-tables-i.result in
    let head = constructor_heading i one.name in
    let below = c.loop-i-test.true in
    let long = constructors_long 0 given in
    let first : i < length (constructor_headings 0 given) = omega (arith, below, long) in
    let second : i < length c.args.tables.now = omega (arith, below, c.requires) in
    let front : List ℕ =
    laid (item_lines (take i (constructor_headings 0 given)) (take i c.args.tables.now) []) in
    let place : 0 + i ≡ i = omega arith in
    put_as
    (ap (λ z. front ++ laid (item_line (constructor_heading i z) c.as_slice.result.now []))
    c.as_slice-name.ensures
    ∙ ap (λ (k : Constructor).
    front ++ laid (item_line (constructor_heading i k.name) c.as_slice.result.now []))
    (sym c.index-constructors-i.is)
    ∙ ap (λ z. front ++ laid (item_line head z [])) c.as_slice.ensures
    ∙ sym (line_next (constructor_headings 0 given) c.args.tables.now i head entries first second
    (constructor_there 0 given i one head below c.index-constructors-i.is
    ∙ ap (λ m. constructor_heading m one.name) place) c.index-tables-i.is))
    (then_put c.loop-i.invariant c.put_constructor.ensures)

pub returns : goal.returns
returns g c =
    put_as (lines_end (constructor_headings 0 c.args.constructors.now) c.args.tables.now c.loop-i.i
    (let past = c.loop-i-test.false in omega (arith, past, constructors_long 0 c.args.constructors.now))
    (let past = c.loop-i-test.false in omega (arith, past, c.requires)))
    c.loop-i.invariant
