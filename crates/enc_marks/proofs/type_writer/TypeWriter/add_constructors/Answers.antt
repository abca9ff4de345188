use Rattle.std.proofs.Common.{◌+◌, ◌∷◌, [], ◌++◌, List, take, length, cond, ap, sym, subst, ◌∙◌}
use Rattle.tf_core.specs.declared.signature.Constructor.{Constructor}
use Rattle.tf_core.specs.declared.signature.Symbol.{Symbol}
use Rattle.enc_marks.specs.Encoded.{MarkedSymbol, marked_constructor, marked_constructors}
use Rattle.enc_marks.specs.Calls.Flags.{is_set}
use Rattle.enc_marks.specs.Calls.Marked.{MarksAdded}
use Rattle.enc_marks.specs.Occurrence.{passing}
use Rattle.enc_marks.proofs.Passing.{constructors-more, added-then}
use Rattle.enc_marks.proofs.type_writer.TypeWriter.add_constructors.Goals as goal

pub loop-i-preserved : goal.loop-i-preserved
loop-i-preserved c =
    let test = is_set c.args.occurring.now in
    let normal = c.args.self.now.normal.now in
    let constructors = c.as_slice-constructors.result.now in
    let at = length normal.signature.symbols in
    let i = c.loop-i.i in
    let constructor = c.index-constructors-i.result in
    let front = passing test at (marked_constructors normal 0 (take i constructors)) in
    let here = c.has.ensures ∙ ap test (c.in_ok-at.ensures
    ∙ ap (λ (symbols : List Symbol). length symbols + i) c.as_slice-first.ensures) in
    subst (λ (list : List MarkedSymbol). MarksAdded c.args.marked.now c.add_constructor.new.marked
    list)
    (ap (λ b. front ++ cond b (marked_constructor normal i constructor ∷ []) []) here
    ∙ ap (λ (one : Constructor). front ++ cond (test (at + i)) (marked_constructor normal i one ∷
    []) [])
    c.index-constructors-i.is
    ∙ sym (constructors-more test normal at constructors i constructor c.loop-i-test.true))
    (added-then c.args.marked.now c.loop-i.marked c.add_constructor.new.marked front
    (cond c.has.result (marked_constructor normal i constructor ∷ []) [])
    c.loop-i.invariant c.in_ok-add_constructor.ensures)
