use Rattle.std.proofs.Common.{◌≡◌, ◌≤◌}
use Rattle.fof_models.specs.declared.formula.Fof.{size-Fof}
use Rattle.fof_models.specs.Prefix.{under_universals}
use Rattle.fof_models.proofs.formula.Fof.below_universals.Given as goal

abbrev pub invariant-loop-count : goal.invariant-loop-count
invariant-loop-count l = record {
  whole : l.self ≡ under_universals l.count l.below;
  no_deeper : size-Fof l.below ≤ size-Fof l.self;
}
