use Rattle.std.proofs.Common.{◌≤◌, ◌<◌, ◌∷◌, [], ◌++◌, List, length, take, ap, sym, subst, ◌∙◌, arith}
use Rattle.std.specs.Prelude.{Option, slice_get}
use Rattle.std.proofs.lemmas.List.{take_all}
use Rattle.tf_core.specs.declared.signature.Symbol.{Symbol}
use Rattle.enc_marks.specs.Encoded.{MarkedSymbol, marked_symbol, marked_symbols}
use Rattle.enc_marks.specs.Calls.Flags.{is_set}
use Rattle.enc_marks.specs.Calls.Marked.{MarksAdded}
use Rattle.enc_marks.specs.Calls.Writing.{marked_in}
use Rattle.enc_marks.specs.Occurrence.{passing}
use Rattle.enc_marks.proofs.Passing.{symbols-more, added-nothing, added-then}
use Rattle.enc_marks.proofs.Symbols.{slice_get-within}
use Rattle.enc_marks.proofs.writer.Writer.add_symbols.Goals as goal

pub loop-f-init : goal.loop-f-init
loop-f-init g c = added-nothing c.args.marked.now

pub loop-f-preserved : goal.loop-f-preserved
loop-f-preserved g c =
    let choices = g.C.Choices.choices c.args.self.now.choices.now in
    let test = is_set c.args.occurring.now in
    let symbols = c.args.self.now.types.normal.now.signature.symbols in
    let f = c.loop-f.f in
    let count = ap (λ (items : List Symbol). length items) c.as_slice.ensures in
    let within : f < length symbols =
    omega (arith, c.loop-f-test.true, c.in_ok-count.ensures, count) in
    let front = passing test 0 (marked_symbols choices 0 (take f symbols)) in
    slice_get-within symbols f within
    (λ symbol here there.
    subst (λ (list : List MarkedSymbol). MarksAdded c.args.marked.now c.add_symbol.new.marked list)
    (ap (λ (one : Option Symbol). front ++ passing test f (marked_in choices f one)) here
    ∙ sym (symbols-more test choices symbols f symbol within
    ∙ ap (λ (one : Symbol). front ++ passing test f (marked_symbol choices f one ∷ [])) there))
    (added-then c.args.marked.now c.loop-f.marked c.add_symbol.new.marked front
    (passing test f (marked_in choices f (slice_get symbols f)))
    c.loop-f.invariant c.in_ok-add_symbol.ensures))

pub returns : goal.returns
returns g c =
    let choices = g.C.Choices.choices c.args.self.now.choices.now in
    let test = is_set c.args.occurring.now in
    let symbols = c.args.self.now.types.normal.now.signature.symbols in
    let count = ap (λ (items : List Symbol). length items) c.as_slice.ensures in
    let enough : length symbols ≤ c.loop-f.f =
    omega (arith, c.loop-f-test.false, c.in_ok-count.ensures, count) in
    subst (λ (items : List Symbol). MarksAdded c.args.marked.now c.loop-f.marked
    (passing test 0 (marked_symbols choices 0 items)))
    (take_all c.loop-f.f symbols enough) c.loop-f.invariant
