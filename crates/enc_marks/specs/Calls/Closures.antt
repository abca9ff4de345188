-- For private calls: formulas whose outermost universal quantifiers stand beside the body as a
-- number, and the formulas that they are.
use Rattle.std.specs.Prelude.{List, map}
use Rattle.fof_models.specs.declared.problem.FofFormula.{FofFormula}
use Rattle.enc_marks.specs.declared.open_formula.OpenFormula.{OpenFormula}
use Rattle.enc_marks.specs.Axioms.{closed}

-- the formula with all its quantifiers
abbrev pub closure_of : OpenFormula → FofFormula
closure_of formula = record {
  name = formula.name;
  role = formula.role;
  body = closed formula.binders formula.body;
}

-- those of a list
abbrev pub closures : List OpenFormula → List FofFormula
closures = map closure_of
