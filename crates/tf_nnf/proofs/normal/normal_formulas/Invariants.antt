use Rattle.std.proofs.Common.{◌≡◌, map, take}
use Rattle.tf_nnf.specs.NormalForm.{normal_formula, fresh_types}
use Rattle.tf_nnf.proofs.normal.normal_formulas.Given as goal

abbrev pub invariant-loop-stated : goal.invariant-loop-stated
invariant-loop-stated l =
    l.made ≡ map (normal_formula (fresh_types l.fresh.first l.fresh.count)) (take l.stated-index l.formulas)
