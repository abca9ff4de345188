use Rattle.std.proofs.Common.{◌≡◌, take}
use Rattle.tptp_syntax.proofs.term.+same_term.Given as goal

abbrev pub invariant-same_terms-loop-i : goal.invariant-same_terms-loop-i
invariant-same_terms-loop-i l = take l.i l.terms ≡ take l.i l.others
