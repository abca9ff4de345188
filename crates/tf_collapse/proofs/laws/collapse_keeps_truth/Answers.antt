use Rattle.tf_collapse.proofs.CollapseLaw.{collapse_law}
use Rattle.tf_collapse.proofs.laws.collapse_keeps_truth.Goals as goal

pub returns : goal.returns
returns _ c k g s d j variables depth context kinds assignment is_bound p sound structure are_bound
    pulled formed open_p premises h =
    collapse_law c k g s d j sound structure are_bound pulled variables depth context kinds
    assignment is_bound p formed open_p premises h
