use Rattle.std.proofs.Common.{◌+◌, ◌∷◌, [], ◌++◌, List, take, length, cond, ap, sym, subst, ◌∙◌}
use Rattle.tf_core.specs.declared.ty.Ty.{Ty}
use Rattle.enc_marks.specs.Encoded.{MarkedSymbol, sort_mark, sort_marks}
use Rattle.enc_marks.specs.Calls.Flags.{is_set}
use Rattle.enc_marks.specs.Calls.Marked.{MarksAdded}
use Rattle.enc_marks.specs.Occurrence.{passing}
use Rattle.enc_marks.proofs.Passing.{sort_marks-more, added-then}
use Rattle.enc_marks.proofs.type_writer.TypeWriter.add_sort_marks.Goals as goal

pub loop-s-preserved : goal.loop-s-preserved
loop-s-preserved c =
    let test = is_set c.args.occurring.now in
    let normal = c.args.self.now.normal.now in
    let sorts = c.args.sorts.now in
    let at = length normal.signature.symbols + length normal.signature.constructors in
    let s = c.loop-s.s in
    let sort = c.index-sorts-s.result in
    let front = passing test at (sort_marks normal c.args.binding 0 (take s sorts)) in
    let here = c.has.ensures ∙ ap test (c.in_ok-at.ensures ∙ ap (λ n. n + s) c.in_ok-first.ensures) in
    subst (λ (list : List MarkedSymbol). MarksAdded c.args.marked.now c.add_sort_mark.new.marked
    list)
    (ap (λ b. front ++ cond b (sort_mark normal c.args.binding s sort ∷ []) []) here
    ∙ ap (λ (one : Ty). front ++ cond (test (at + s)) (sort_mark normal c.args.binding s one ∷ [])
    []) c.index-sorts-s.is
    ∙ sym (sort_marks-more test normal c.args.binding at sorts s sort c.loop-s-test.true))
    (added-then c.args.marked.now c.loop-s.marked c.add_sort_mark.new.marked front
    (cond c.has.result (sort_mark normal c.args.binding s sort ∷ []) [])
    c.loop-s.invariant c.in_ok-add_sort_mark.ensures)
