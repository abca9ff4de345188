use Rattle.std.proofs.Common.{ap, sym, ◌∙◌}
use Rattle.std.proofs.lemmas.List.{get_or_past}
use Rattle.tf_core.specs.declared.ty.Ty.TheVariants.{Var}
use Rattle.enc_marks.specs.Translation as specs
use Rattle.enc_marks.specs.Encoded.{all_numbers}
use Rattle.enc_marks.proofs.Results.{ok_same}
use Rattle.enc_marks.proofs.Translation.{type_term-variable}
use Rattle.enc_marks.proofs.type_writer.TypeWriter.given.Goals as goal

pub returns-in-Some : goal.returns-in-Some
returns-in-Some c =
    ok_same c.type_term.result c.type_term.ensures
    (ap (specs.type_term (all_numbers c.args.self.now.normal.now).constructor c.args.depth)
    (c.in-Some.ensures.lookup.3.1 (Var c.args.i)))

pub returns-in-None : goal.returns-in-None
returns-in-None c =
    let term_of = specs.type_term (all_numbers c.args.self.now.normal.now).constructor c.args.depth
    in
    c.type_variable.ensures
    ∙ sym (type_term-variable (all_numbers c.args.self.now.normal.now).constructor c.args.depth
    c.args.i)
    ∙ ap term_of (sym (get_or_past c.args.types.now c.args.i (Var c.args.i)
    c.in-None.ensures.lookup.3))
