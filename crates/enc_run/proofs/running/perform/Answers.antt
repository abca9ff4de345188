use Rattle.std.proofs.Common.{sym, subst}
use Rattle.enc_run.specs.Calls.Parts.{IsPlainTask, TextEnds}
use Rattle.enc_run.specs.Work.{Work, rest_of}
use Rattle.enc_run.specs.declared.job.Task.{Task}
use Rattle.enc_run.proofs.TextEndings.{encoded}
use Rattle.enc_run.proofs.running.perform.Goals as goal

pub encode_text-requires : goal.encode_text-requires
encode_text-requires g c = record { plain = subst IsPlainTask c.in-Encode.is c.requires.plain }

pub lower_text-requires : goal.lower_text-requires
lower_text-requires g c = record { plain = subst IsPlainTask c.in-Lower.is c.requires.plain }

pub lift_text-requires : goal.lift_text-requires
lift_text-requires g c = record { plain = subst IsPlainTask c.in-Lift.is c.requires.plain }

pub returns-in-Encode-clause-ends : goal.returns-in-Encode-clause-ends
returns-in-Encode-clause-ends g c =
    let w : Work = rest_of g.L.Library g.O.Sink c.args.files.now c.args.files.now
    c.args.out.now c.encode_text.new.out in
    subst (λ (task : Task). TextEnds task c.args.text.now w c.encode_text.result)
    (sym c.in-Encode.is)
    (encoded c.in-Encode.how c.args.text.now w c.encode_text.result c.encode_text.ensures.ends)
