use Rattle.std.proofs.Common.{◌≡◌, ◌≤◌, ◌+◌, ◌*◌, Some, map, sum, take}
use Rattle.tf_check.specs.Kinds.{kind, types_of_all}
use Rattle.tptp_syntax.specs.FileSizes.{type_nodes}
use Rattle.tf_check.proofs.kinds.+types.Given as goal

abbrev pub invariant-types_of_all-loop-part : goal.invariant-types_of_all-loop-part
invariant-types_of_all-loop-part l =
    record {
      done : types_of_all (map kind (take l.part-index l.parts)) ≡ Some l.count;
      within : l.count ≤ sum (map type_nodes (take l.part-index l.parts));
    }

abbrev pub decreases-types : goal.decreases-types
decreases-types l = 2 * type_nodes l.expression.now

abbrev pub decreases-types_of_all : goal.decreases-types_of_all
decreases-types_of_all l = 2 * sum (map type_nodes l.parts.now) + 1
