use Rattle.std.proofs.Common.{Ok, sym, ap, ◌∙◌}
use Rattle.tptp_syntax.specs.Ahead as spec
use Rattle.tptp_syntax.proofs.Taken.{unit_taken, not_taken}
use Rattle.tptp_syntax.proofs.reader.Reader.expect.Goals as goal

pub returns-then-sees : goal.returns-then-sees
returns-then-sees c =
    unit_taken (spec.fixed c.args.word) c.args.self.now (sym c.sees.ensures ∙ c.if-sees.true)
    ∙ ap (λ z. Ok (tt, z)) (sym c.advance.ensures)

pub returns-else-sees : goal.returns-else-sees
returns-else-sees c m =
    not_taken (spec.fixed c.args.word) c.args.self.now (sym c.sees.ensures ∙ c.if-sees.false)
