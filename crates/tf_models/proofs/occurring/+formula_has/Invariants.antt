use Rattle.std.proofs.Common.{◌≡◌, take, false}
use Rattle.std.specs.List.{list_any}
use Rattle.tf_core.specs.Occurrences.{occurs_in}
use Rattle.tf_models.proofs.occurring.+formula_has.Given as goal

abbrev pub invariant-some_formula_has-loop-part : goal.invariant-some_formula_has-loop-part
invariant-some_formula_has-loop-part l = list_any (occurs_in l.i) (take l.part-index l.parts) ≡ false
