use Rattle.std.proofs.Common.{◌≡◌, map, take}
use Rattle.tf_types.specs.Numbers.{AreNumbers, type_at}
use Rattle.tf_check.specs.Bound.{Keeps}
use Rattle.tf_check.proofs.numbers.numbers_of.Given as goal

abbrev pub invariant-loop-ty : goal.invariant-loop-ty
invariant-loop-ty l =
    record {
      exact : map (type_at l.scope.types) l.numbers ≡ take l.ty-index l.types;
      numbers : AreNumbers l.scope.types l.numbers;
      kept : Keeps l.fn.scope l.scope;
    }
