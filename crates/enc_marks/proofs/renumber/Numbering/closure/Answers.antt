use Rattle.std.proofs.Common.{ap, ◌∙◌}
use Rattle.fof_models.specs.declared.formula.Fof.{Fof}
use Rattle.enc_marks.specs.Calls.Closures.{closure_of}
use Rattle.enc_marks.specs.Calls.Flags.{number_of}
use Rattle.enc_marks.proofs.Closures.{renumbered_by-closure}
use Rattle.enc_marks.proofs.Results.{ok_same}
use Rattle.enc_marks.proofs.renumber.Numbering.closure.Goals as goal

pub returns : goal.returns
returns c =
    let formula = c.args.formula in
    ok_same c.closure.result c.closure.ensures
    (ap (λ (body : Fof). closure_of (record formula { body = body })) c.in_ok-formula.ensures
    ∙ renumbered_by-closure (number_of c.args.self.now) formula)
