use Rattle.std.proofs.Common.{◌≡◌, ◌++◌, length, drop, map}
use Rattle.std.specs.List.{AllByRecursion}
use Rattle.tf_naked.specs.Covers.{parameter_of, IsOwn}
use Rattle.tf_naked.specs.Calls.Flags.{unseen_places}
use Rattle.tf_naked.proofs.cover.covers_of_symbol.Given as goal

abbrev pub invariant-loop-ty : goal.invariant-loop-ty
invariant-loop-ty l =
    record {
      long : length l.seen.items ≡ l.symbol.parameters;
      own : AllByRecursion (IsOwn l.symbol.parameters)
          (map parameter_of (drop l.ty-index l.ty-items));
      found : l.found ++ unseen_places l.seen.items (map parameter_of (drop l.ty-index l.ty-items))
          ≡ unseen_places l.initial.seen.items (map parameter_of l.ty-items);
    }
