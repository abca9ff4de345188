use Rattle.std.proofs.Common.{◌≡◌, take}
use Rattle.std.specs.List.{AllByRecursion}
use Rattle.tf_core.specs.TypedTables.{reading}
use Rattle.tf_models.specs.Reading.{tables}
use Rattle.tf_models.specs.FirstFalse.{IsAsStated}
use Rattle.tf_models.proofs.structure.TypedStructure.first_false.Given as goal

abbrev pub invariant-loop-index : goal.invariant-loop-index
invariant-loop-index l = record {
  kept : l.env ≡ l.initial.env;
  so_far : AllByRecursion (IsAsStated (reading l.problem.signature (tables l.self)))
      (take l.index l.problem.formulas);
}
