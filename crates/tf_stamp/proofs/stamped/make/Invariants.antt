use Rattle.tf_stamp.proofs.Filling.{IsFilled}
use Rattle.tf_stamp.proofs.stamped.make.Given as goal

abbrev pub invariant-loop-member : goal.invariant-loop-member
invariant-loop-member l = IsFilled l.sizes l.starts l.members l.member
