use Rattle.std.proofs.Common.{◌≡◌, take, true}
use Rattle.std.specs.Prelude.{eqb}
use Rattle.std.specs.List.{list_all}
use Rattle.tf_core.proofs.normal.are_ground.Given as goal

abbrev pub invariant-loop-formula : goal.invariant-loop-formula
invariant-loop-formula l = list_all (λ formula. eqb formula.type_variables 0) (take l.formula-index l.formulas) ≡ true
