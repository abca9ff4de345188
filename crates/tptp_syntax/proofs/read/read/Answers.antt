use Rattle.std.proofs.Common.{sym, ◌∙◌}
use Rattle.tptp_syntax.proofs.Verdicts.{read_answer}
use Rattle.tptp_syntax.proofs.read.read.Goals as goal

pub returns-in-None : goal.returns-in-None
returns-in-None c m =
    sym (read_answer c.args.total c.args.reader.now c.in-Ok.file c.file.new.reader c.in-Ok.ensures
    (sym c.error.ensures ∙ c.in-None.is))
