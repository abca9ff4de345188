use Rattle.std.proofs.Common.{length, refl, sym, subst, ◌∙◌, arith, ◌≡◌, ◌<◌, ◌+◌, map, take}
use Rattle.std.specs.List.{All}
use Rattle.std.proofs.lemmas.List.{take_all}
use Rattle.enc_base.proofs.Lends.{refill-written}
use Rattle.structure_tables.specs.ParameterGroups.{variables, group_of_type, AreTogether, AreJoined, AreGroups}
use Rattle.structure_tables.proofs.Grouping.{types_together_more}
use Rattle.structure_tables.proofs.groups.groups_of_parameters.Goals as goal

pub loop-ty-preserved : goal.loop-ty-preserved
loop-ty-preserved c =
    let types = c.args.symbol.now.arguments in
    let groups = c.loop-ty.groups.items in
    let after = c.join.new.groups in
    let ty = c.ty-item.result in
    let joined : AreJoined groups (variables ty) after =
    subst (λ vs. AreJoined groups vs after)
    (c.as_slice.ensures ∙ c.in_ok-variables.ensures)
    (subst (λ gs. AreJoined gs c.as_slice.result.now after) c.deref_mut.ensures.value
    c.join.ensures) in
    let long : length after ≡ c.loop-ty.groups.len =
    omega (arith, c.join.auto.groups, c.deref_mut.ensures.len) in
    let same = sym (refill-written c.loop-ty.groups.len after groups long) in
    record {
      long = subst (λ gs. length gs ≡ c.args.symbol.now.parameters) same
          (joined.long ∙ c.loop-ty.invariant.long);
      below = subst (λ gs. All (λ group. group < length gs) gs) same joined.below;
      together = subst
          (λ gs. All (λ t. AreTogether gs (variables t)) (take (c.loop-ty.ty-index + 1) types))
          same
          (types_together_more types groups after c.args.symbol.now.parameters c.loop-ty.ty-index ty
          (rw c.as_slice-ty-items.ensures at c.loop-ty-test.true)
          (rw c.as_slice-ty-items.ensures at c.ty-item.is) c.loop-ty.invariant.long c.requires
          c.loop-ty.invariant.together joined);
    }

pub returns-clause-groups : goal.returns-clause-groups
returns-clause-groups c =
    let symbol = c.args.symbol.now in
    subst (λ gs. AreGroups symbol gs (map (group_of_type gs) symbol.arguments))
    (sym c.from_vec.ensures)
    (record {
      long = c.loop-ty.invariant.long;
      below = c.loop-ty.invariant.below;
      together = subst
          (All (λ t. AreTogether c.loop-ty.groups.items (variables t)))
          (take_all c.loop-ty.ty-index symbol.arguments
          (omega (arith, rw c.as_slice-ty-items.ensures at c.loop-ty-test.false)))
          c.loop-ty.invariant.together;
      found = refl;
    })
