use Rattle.std.proofs.Common.{◌≡◌, List, ap, arith, sym, ◌∙◌, take, length, position, get_or}
use Rattle.std.proofs.lemmas.List.{take_more, length-take}
use Rattle.enc_marks.specs.declared.mark.Mark.{Mark}
use Rattle.enc_marks.specs.declared.mark.Mark.TheVariants.{Symbol}
use Rattle.enc_marks.specs.Marks.{is_constructor, noted}
use Rattle.enc_marks.proofs.Marks.{position-push}
use Rattle.enc_marks.proofs.types.constructor_numbers.Goals as goal

pub loop-i-preserved : goal.loop-i-preserved
loop-i-preserved c = λ constructor.
    let marks = c.args.marks.now in
    let i = c.loop-i.i in
    let is_marked = is_constructor constructor in
    let front = take i marks in
    let mark = get_or marks i (Symbol 0) in
    let within : length front ≡ i = omega (arith, length-take i marks) in
    c.in_ok-note.ensures constructor
    ∙ ap (λ given. noted given (is_marked mark) i) (c.loop-i.invariant constructor)
    ∙ ap (noted (position is_marked front) (is_marked mark)) (sym within)
    ∙ sym (position-push is_marked front mark)
    ∙ ap (λ (items : List Mark). position is_marked items)
    (sym (take_more marks i (Symbol 0) c.loop-i-test.true))
