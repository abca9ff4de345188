use Rattle.std.proofs.Common.{ap, ◌∙◌}
use Rattle.enc_marks.specs.Marks.{number_in}
use Rattle.enc_marks.specs.Translation as specs
use Rattle.enc_marks.proofs.Translation.{type_term-variable, type_term-apply}
use Rattle.enc_marks.proofs.types.+type_term.Goals as goal

pub numbered-returns-in-Var : goal.numbered-returns-in-Var
numbered-returns-in-Var t c =
    let layer = type_term-variable (number_in c.args.numbers.now c.args.unmarked) c.args.depth c.in-Var.i in
    cc (layer, c.in-Var.is, c.type_variable.ensures)

pub numbered-returns-in_ok-terms-in-Apply : goal.numbered-returns-in_ok-terms-in-Apply
numbered-returns-in_ok-terms-in-Apply t c =
    let number = number_in c.args.numbers.now c.args.unmarked in
    let layer = ap (specs.type_term number c.args.depth) c.in-Apply.is
    ∙ type_term-apply number c.args.depth c.in-Apply.c c.in-Apply.arguments in
    cc (layer, c.look_up-number.ensures, c.in_ok-terms-in-Apply.ensures, c.as_slice.ensures)
