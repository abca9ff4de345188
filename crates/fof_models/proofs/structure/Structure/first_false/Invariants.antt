use Rattle.std.proofs.Common.{◌≡◌, take}
use Rattle.fof_models.specs.Structures.{reading}
use Rattle.fof_models.specs.Models.{AreSatisfied}
use Rattle.fof_models.proofs.structure.Structure.first_false.Given as goal

abbrev pub invariant-loop-index : goal.invariant-loop-index
invariant-loop-index l = record {
  kept : l.env ≡ l.initial.env;
  so_far : AreSatisfied (reading l.self) (take l.index l.problem.formulas);
}
