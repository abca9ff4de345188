use Rattle.std.proofs.Common.{◌≡◌, take}
use Rattle.tptp_syntax.proofs.types.+same_type.Given as goal

abbrev pub invariant-same_types-loop-i : goal.invariant-same_types-loop-i
invariant-same_types-loop-i l = take l.i l.types ≡ take l.i l.others

abbrev pub invariant-same_bounds-loop-i : goal.invariant-same_bounds-loop-i
invariant-same_bounds-loop-i l = take l.i l.bounds ≡ take l.i l.others
