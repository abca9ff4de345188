use Rattle.std.proofs.Common.{◌≡◌, ◌<◌, length, take}
use Rattle.std.specs.List.{All}
use Rattle.structure_tables.specs.ParameterGroups.{variables, AreTogether}
use Rattle.structure_tables.proofs.groups.groups_of_parameters.Given as goal

abbrev pub invariant-loop-ty : goal.invariant-loop-ty
invariant-loop-ty l = record {
  long : length l.groups.items ≡ l.symbol.parameters;
  below : All (λ group. group < length l.groups.items) l.groups.items;
  together : All (λ ty. AreTogether l.groups.items (variables ty))
      (take l.ty-index l.symbol.arguments);
}
