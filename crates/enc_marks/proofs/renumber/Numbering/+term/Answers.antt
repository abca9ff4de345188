use Rattle.enc_marks.specs.Calls.Flags.{number_of}
use Rattle.enc_marks.proofs.Occurrence.{renumber_term-variable, renumber_term-apply}
use Rattle.enc_marks.proofs.renumber.Numbering.+term.Goals as goal

pub term-returns-in-Var : goal.term-returns-in-Var
term-returns-in-Var t c =
    let layer = renumber_term-variable (number_of c.args.self.now) c.in-Var.i in cc (layer, c.in-Var.is)

pub term-returns-in_ok-terms-in-Apply : goal.term-returns-in_ok-terms-in-Apply
term-returns-in_ok-terms-in-Apply t c =
    let layer = renumber_term-apply (number_of c.args.self.now) c.in-Apply.f c.in-Apply.terms in
    cc (layer, c.in-Apply.is, c.as_slice.ensures, c.in_ok-terms-in-Apply.ensures, c.number.ensures)
