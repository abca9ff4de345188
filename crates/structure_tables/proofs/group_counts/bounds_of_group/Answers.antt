use Rattle.std.proofs.Common.{◌∙◌, ap, eqb}
use Rattle.std.specs.Prelude.{ltb, cond, false, slice_index}
use Rattle.structure_tables.specs.ParameterGroups.{is_kept, kept_inside}
use Rattle.structure_tables.proofs.CountedGroups.{only}
use Rattle.structure_tables.proofs.GroupWeights.{bound_more}
use Rattle.structure_tables.proofs.group_counts.bounds_of_group.Goals as goal

pub loop-i-preserved : goal.loop-i-preserved
loop-i-preserved c =
    bound_more c.args.members
    (kept_inside (is_kept c.args.groups.now.uses) c.args.groups.now.parameters (only c.args.group))
    c.loop-i.i c.bound_of_group.result c.loop-i.bounds _ c.loop-i.invariant
    (c.bound_of_group.ensures
    ∙ ap (λ us. cond (cond (ltb 1 (slice_index us c.loop-i.i))
    (eqb (slice_index c.as_slice-other-items.result.now c.loop-i.i) c.args.group) false)
    c.args.members 1) c.as_slice-uses.ensures
    ∙ ap (λ gs. cond (cond (ltb 1 (slice_index c.args.groups.now.uses c.loop-i.i))
    (eqb (slice_index gs c.loop-i.i) c.args.group) false)
    c.args.members 1) c.as_slice-other-items.ensures)
    c.in_ok-push.ensures.ok
