-- The readings under what the checks of one entry share.
use Rattle.tptp_syntax.specs.declared.types.TypeExpr.{TypeExpr}
use Rattle.tptp_syntax.specs.declared.term.RawTerm.{RawTerm}
use Rattle.tptp_syntax.specs.declared.formula.RawFormula.{RawFormula}
use Rattle.tf_check.specs.declared.context.Context.{Context}
use Rattle.tf_check.specs.Types.{Reading, reading}
use Rattle.tf_check.specs.Terms.{TermReading, term_reading}
use Rattle.tf_check.specs.Formulas.{FormulaReading, formula_reading}

abbrev pub type_in : Context → TypeExpr → Reading
type_in context = reading context.entry context.table.now.constructors

abbrev pub term_in : Context → RawTerm → TermReading
term_in context = term_reading context.entry context.table.now

abbrev pub formula_in : Context → RawFormula → FormulaReading
formula_in context = formula_reading context.entry context.table.now
