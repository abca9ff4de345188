use Rattle.std.proofs.Common.{subst}
use Rattle.tptp_syntax.specs.Ahead.{Gives}
use Rattle.tptp_syntax.proofs.FormulaRules.{top_formula}
use Rattle.tptp_syntax.proofs.entry_reader.formula.Goals as goal

pub returns : goal.returns
returns c =
    subst (λ r. Gives (r c.args.reader.now) c.formula_inside.result c.formula_inside.new.reader)
    (top_formula c.args.language 400) c.formula_inside.ensures
