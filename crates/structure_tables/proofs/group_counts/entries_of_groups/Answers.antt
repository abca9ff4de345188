use Rattle.std.proofs.Common.{length, subst, ◌∙◌, ap, ◌≡◌}
use Rattle.enc_base.specs.Tables.{tuple_count}
use Rattle.enc_base.specs.Counts.{in_64_bits}
use Rattle.structure_tables.specs.ParameterSets.{bounds_of}
use Rattle.structure_tables.specs.ParameterGroups.{is_unused}
use Rattle.structure_tables.proofs.TypeVariables.{variables_of_types_below}
use Rattle.structure_tables.proofs.GroupWeights.{bounds_are}
use Rattle.structure_tables.proofs.SymbolSums.{count_first, count_more, count_enough, count_whole}
use Rattle.structure_tables.proofs.group_counts.entries_of_groups.Goals as goal

pub groups_of-requires : goal.groups_of-requires
groups_of-requires g c =
    variables_of_types_below (g.S.TypedSource.signature c.args.source.now)
    c.args.symbol.now.parameters c.args.symbol.now.arguments c.requires.typed.arguments

pub loop-group-init : goal.loop-group-init
loop-group-init g c =
    let s = g.S.TypedSource.structure c.args.source.now in
    let uses = c.in_ok-groups.groups.uses in
    let unused = bounds_are s (is_unused uses) c.args.symbol.now.parameters (length uses)
    c.args.sizes.now c.in_ok-unused.unused c.as_slice-2.result.now c.requires.sized.same
    c.in_ok-groups.ensures.uses.long
    (subst (λ us. c.in_ok-unused.unused
    ≡ bounds_of (length c.args.sizes.now) (is_unused us) (length us)) c.as_slice.ensures
    c.in_ok-unused.ensures)
    c.as_slice-2.ensures in
    count_first (g.S.TypedSource.signature c.args.source.now) s c.requires.sized.fits
    c.args.symbol.now c.requires.typed uses c.in_ok-groups.ensures.uses
    c.in_ok-groups.groups.parameters c.in_ok-groups.groups.arguments c.in_ok-groups.ensures.groups
    c.multiply-free.result c.in_ok-entries.entries
    (c.multiply-free.ensures.exact ∙ ap (λ bounds. in_64_bits (tuple_count bounds)) unused)
    c.in_ok-entries.ensures

pub returns-then-entries : goal.returns-then-entries
returns-then-entries g c =
    count_enough (g.S.TypedSource.signature c.args.source.now)
    (g.S.TypedSource.structure c.args.source.now) c.requires.sized.fits c.args.symbol.now
    c.requires.typed c.in_ok-groups.groups.uses c.in_ok-groups.ensures.uses
    c.in_ok-groups.groups.parameters c.in_ok-groups.groups.arguments c.in_ok-groups.ensures.groups
    c.loop-group.group c.loop-group.entries c.loop-group.invariant c.if-entries.true

pub loop-group-preserved : goal.loop-group-preserved
loop-group-preserved g c =
    count_more (g.S.TypedSource.signature c.args.source.now)
    (g.S.TypedSource.structure c.args.source.now) c.requires.sized.fits c.args.symbol.now
    c.requires.typed c.in_ok-groups.groups.uses c.in_ok-groups.ensures.uses
    c.in_ok-groups.groups.parameters c.in_ok-groups.groups.arguments c.in_ok-groups.ensures.groups
    c.loop-group.group c.loop-group.entries c.loop-group.invariant _ c.loop-group-test.true
    c.in_ok-entries-2.ensures

pub returns : goal.returns
returns g c =
    count_whole (g.S.TypedSource.signature c.args.source.now)
    (g.S.TypedSource.structure c.args.source.now) c.requires.sized.fits c.args.symbol.now
    c.requires.typed c.in_ok-groups.groups.uses c.in_ok-groups.ensures.uses
    c.in_ok-groups.groups.parameters c.in_ok-groups.groups.arguments c.in_ok-groups.ensures.groups
    c.loop-group.group c.loop-group.entries c.loop-group.invariant c.loop-group-test.false
