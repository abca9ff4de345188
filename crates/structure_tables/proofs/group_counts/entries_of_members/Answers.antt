use Rattle.std.proofs.Common.{subst, ap, length, ◌∙◌}
use Rattle.enc_base.specs.Counts.{in_64_bits}
use Rattle.enc_base.proofs.Tables.{EachBelow-length}
use Rattle.tf_core.specs.Typing.{IsType}
use Rattle.tf_core.specs.Structures.{member_count}
use Rattle.tf_models.proofs.TypeMembers.{type_at}
use Rattle.structure_tables.proofs.MembersOfTypes.{EachBelow-counted}
use Rattle.structure_tables.specs.TypeWays.{sizes_of_type}
use Rattle.structure_tables.specs.ParameterGroups.{is_kept}
use Rattle.structure_tables.proofs.GroupWeights.{size_counted, size_passed}
use Rattle.structure_tables.proofs.group_counts.entries_of_members.Goals as goal
use Rattle.structure_tables.proofs.group_counts.entries_of_members.Goals.{then-found-i+in_ok-more, else-found-i}

pub add_sizes_of_type-requires-clause-members : goal.add_sizes_of_type-requires-clause-members
add_sizes_of_type-requires-clause-members g c =
    EachBelow-counted c.args.symbol.now.parameters
    (member_count (g.S.TypedSource.structure c.args.source.now)) c.args.members.now
    c.requires.members

pub add_sizes_of_type-requires-clause-typed : goal.add_sizes_of_type-requires-clause-typed
add_sizes_of_type-requires-clause-typed g c =
    subst (λ n. IsType (g.S.TypedSource.signature c.args.source.now) n c.ty-item.result)
    (EachBelow-length c.args.symbol.now.parameters
    (member_count (g.S.TypedSource.structure c.args.source.now)) c.args.members.now
    c.requires.members)
    (type_at (g.S.TypedSource.signature c.args.source.now) c.args.symbol.now.parameters
    c.loop-i.i c.args.symbol.now.arguments c.ty-item.result
    (rw c.as_slice-ty-items.ensures at c.loop-i-test.true)
    (rw c.as_slice-ty-items.ensures at c.ty-item.is) c.requires.typed.arguments)

pub add_sizes_of_type-requires-clause-uses : goal.add_sizes_of_type-requires-clause-uses
add_sizes_of_type-requires-clause-uses g c =
    ap length c.as_slice-uses.ensures
    ∙ c.requires.uses.long
    ∙ EachBelow-length c.args.symbol.now.parameters
    (member_count (g.S.TypedSource.structure c.args.source.now)) c.args.members.now
    c.requires.members

pub loop-i-preserved : goal.loop-i-preserved
loop-i-preserved g c =
    let s = g.S.TypedSource.structure c.args.source.now in
    let within = rw c.as_slice-ty-items.ensures at c.loop-i-test.true in
    let is = rw c.as_slice-ty-items.ensures at c.ty-item.is in
    let found = c.as_slice-found.ensures ∙ c.requires.groups.found in
    let kept = is_kept c.args.groups.now.uses in
    elim c.if-found-i.branch [
      | then-found-i+in_ok-more w ↦
          w.tuples-is
          ∙ w.saturating_mul-tuples.ensures
          ∙ size_counted s kept c.args.symbol.now.arguments c.args.groups.now.parameters
          c.as_slice-found.result.now c.args.members.now c.args.group c.loop-i.i c.loop-i.tuples
          c.ty-item.result found within is c.loop-i.invariant w.in_ok-more.more w.if-found-i.true
          (w.in_ok-more.ensures
          ∙ ap (λ us. in_64_bits (sizes_of_type s (is_kept us) c.args.members.now c.ty-item.result))
          c.as_slice-uses.ensures)
      | else-found-i w ↦
          w.tuples-is
          ∙ size_passed s kept c.args.symbol.now.arguments c.args.groups.now.parameters
          c.as_slice-found.result.now c.args.members.now c.args.group c.loop-i.i c.loop-i.tuples
          c.ty-item.result found within is c.loop-i.invariant w.if-found-i.false
    ]
