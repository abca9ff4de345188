use Rattle.enc_marks.specs.Encoded.{all_numbers}
use Rattle.enc_marks.proofs.Translation.{type_term-variable, type_term-apply}
use Rattle.enc_marks.proofs.type_writer.TypeWriter.+type_term.Goals as goal

pub type_term-returns-in-Var : goal.type_term-returns-in-Var
type_term-returns-in-Var t c =
    let layer = type_term-variable (all_numbers c.args.self.now.normal.now).constructor
    c.args.depth c.in-Var.i in
    cc (layer, c.in-Var.is, c.type_variable.ensures)

pub type_term-returns-in_ok-terms-in-Apply : goal.type_term-returns-in_ok-terms-in-Apply
type_term-returns-in_ok-terms-in-Apply t c =
    let layer = type_term-apply (all_numbers c.args.self.now.normal.now).constructor c.args.depth
    c.in-Apply.c c.in-Apply.types in
    cc (
      layer,
      c.in-Apply.is,
      c.in_ok-number-in-Apply.ensures,
      c.as_slice.ensures,
      c.in_ok-terms-in-Apply.ensures,
    )
