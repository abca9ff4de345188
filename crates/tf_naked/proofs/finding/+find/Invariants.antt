use Rattle.std.proofs.Common.{◌≡◌, ◌++◌, map, drop}
use Rattle.tf_core.specs.Sorts.{joined}
use Rattle.tf_naked.specs.Binders.{universal_binders}
use Rattle.tf_naked.specs.Calls.Noted.{noted, uses_in_parts}
use Rattle.tf_naked.proofs.finding.+find.Given as goal

abbrev pub invariant-find_in_parts-loop-part : goal.invariant-find_in_parts-loop-part
invariant-find_in_parts-loop-part l =
    record {
      found : l.found.items
          ++ joined (map (universal_binders l.scope.signature.now) (drop l.part-index l.parts))
          ≡ l.initial.found.items
          ++ joined (map (universal_binders l.scope.signature.now) l.parts);
      noted : noted (uses_in_parts l.scope.signature.now (drop l.part-index l.parts)) l.around
          ≡ noted (uses_in_parts l.scope.signature.now l.parts) l.initial.around;
    }
