use Rattle.tf_core.proofs.Values.{member_below, value_below}
use Rattle.tf_core.proofs.laws.values_are_in_range.Goals as goal

pub returns : goal.returns
returns c = record {
  type = λ g s variables members ty structure below formed.
      member_below g s structure variables members below ty formed;
  term = λ g s variables members elements context t ty typed structure below assigned has.
      value_below g s typed structure variables members below context elements assigned t ty has;
}
