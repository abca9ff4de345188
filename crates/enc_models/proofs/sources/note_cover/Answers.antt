use Rattle.std.proofs.Common.{sym, ap, ◌∙◌, arith, cond, get_or}
use Rattle.tf_naked.specs.Covers.{is_parameter, parameter_of}
use Rattle.tf_naked.proofs.Covers.{parameter_of-variable, parameter_of-apply}
use Rattle.enc_models.proofs.ParameterSources.{cover_set, cover_past}
use Rattle.enc_models.proofs.sources.note_cover.Goals as goal

pub returns-then-parameter-len-clause-each : goal.returns-then-parameter-len-clause-each
returns-then-parameter-len-clause-each c = λ parameter within.
    cover_set c.args.covers.now.items c.in-Var.i c.args.place parameter
    (omega (arith, c.if-parameter-len.true, c.len.ensures))
    ∙ sym (ap
    (λ own. cond (is_parameter parameter own) c.args.place
    (get_or c.args.covers.now.items parameter 0))
    (ap parameter_of c.in-Var.is ∙ parameter_of-variable c.in-Var.i))

pub returns-else-parameter-len-clause-each : goal.returns-else-parameter-len-clause-each
returns-else-parameter-len-clause-each c = λ parameter within.
    cover_past c.args.covers.now.items c.in-Var.i c.args.place parameter
    (omega (arith, c.if-parameter-len.false, c.len.ensures)) within
    ∙ sym (ap
    (λ own. cond (is_parameter parameter own) c.args.place
    (get_or c.args.covers.now.items parameter 0))
    (ap parameter_of c.in-Var.is ∙ parameter_of-variable c.in-Var.i))

pub returns-in-Apply-clause-each : goal.returns-in-Apply-clause-each
returns-in-Apply-clause-each c = λ parameter within.
    sym (ap
    (λ own. cond (is_parameter parameter own) c.args.place
    (get_or c.args.covers.now.items parameter 0))
    (ap parameter_of c.in-Apply.is ∙ parameter_of-apply c.in-Apply.field-0 c.in-Apply.field-1))
