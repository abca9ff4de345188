use Rattle.std.proofs.Common.{◌≡◌, ◌++◌, map, length}
use Rattle.std.specs.Vec.Iter.{into_iter_items, into_iter_len}
use Rattle.enc_marks.specs.Calls.Closures.{closures}
use Rattle.enc_marks.specs.Calls.Flags.{number_of, renumbered_by}
use Rattle.enc_marks.proofs.renumber.Numbering.closures.Given as goal

-- what was made, before what is still to be made, is what all the formulas give
abbrev pub invariant-loop-formula : goal.invariant-loop-formula
invariant-loop-formula l = record {
  made : l.made
      ++ map (renumbered_by (number_of l.self)) (closures (into_iter_items l.formula-iterator))
      ≡ map (renumbered_by (number_of l.self))
      (closures (into_iter_items l.initial.formula-iterator));
  count : into_iter_len l.formula-iterator ≡ length (into_iter_items l.formula-iterator);
}
