use Rattle.std.proofs.Common.{◌≡◌, ◌++◌, ◌∷◌, [], List, take, get_or, append_assoc, ap, sym, ◌∙◌}
use Rattle.std.proofs.lemmas.List.{append-nil, take_all, take_more}
use Rattle.tf_core.specs.declared.ty.Ty.{Ty}
use Rattle.fof_models.specs.declared.problem.FofFormula.{FofFormula}
use Rattle.enc_marks.specs.Calls.Closures.{closures}
use Rattle.enc_marks.specs.Encoded.{sort_axioms}
use Rattle.enc_marks.proofs.TypingAxioms.{sort_axioms-append}
use Rattle.enc_marks.proofs.writer.Writer.add_last_of_sorts.Goals as goal

pub loop-sort-init : goal.loop-sort-init
loop-sort-init g c = sym (append-nil (closures c.args.made.now))

pub loop-sort-preserved : goal.loop-sort-preserved
loop-sort-preserved g c =
    let choices = g.C.Choices.choices c.args.self.now.choices.now in
    let normal = c.args.self.now.types.normal.now in
    let sorts = c.args.sorts.now in
    let i = c.loop-sort.sort-index in
    let sort = c.sort-item.result in
    let before = closures c.args.made.now in
    let front = sort_axioms choices normal (take i sorts) in
    c.in_ok-add_last_of_sort.ensures
    ∙ ap (λ (list : List FofFormula). list ++ sort_axioms choices normal (sort ∷ []))
    c.loop-sort.invariant
    ∙ append_assoc before front _
    ∙ ap (λ (list : List FofFormula). before ++ list)
    (ap (λ (one : Ty). front ++ sort_axioms choices normal (one ∷ [])) c.sort-item.is
    ∙ sym (sort_axioms-append choices normal (take i sorts) (get_or sorts i sort ∷ []))
    ∙ ap (sort_axioms choices normal) (sym (take_more sorts i sort c.loop-sort-test.true)))

pub returns : goal.returns
returns g c =
    let choices = g.C.Choices.choices c.args.self.now.choices.now in
    let normal = c.args.self.now.types.normal.now in
    c.loop-sort.invariant
    ∙ ap (λ (sorts : List Ty). closures c.args.made.now ++ sort_axioms choices normal sorts)
    (take_all c.loop-sort.sort-index c.args.sorts.now c.loop-sort-test.false)
