use Rattle.std.proofs.Common.{◌≡◌, take}
use Rattle.tf_models.proofs.structure.same_tables.Given as goal

abbrev pub invariant-loop-i : goal.invariant-loop-i
invariant-loop-i l = take l.i l.tables ≡ take l.i l.others
