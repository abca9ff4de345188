use Rattle.structure_tables.specs.ParameterGroups.{is_unused}
use Rattle.structure_tables.proofs.GroupWeights.{bound_more}
use Rattle.structure_tables.proofs.group_counts.bounds_of_unused.Goals as goal

pub loop-count-preserved : goal.loop-count-preserved
loop-count-preserved c =
    bound_more c.args.members (is_unused c.args.uses.now) c.loop-count.count-index
    c.bound_of_unused.result c.loop-count.bounds _ c.loop-count.invariant c.bound_of_unused.ensures
    c.in_ok-push.ensures.ok
