use Rattle.std.proofs.Common.{length, sym, subst, ◌∙◌, arith, ◌≡◌, ◌≤◌, ◌<◌, ◌+◌, ℕ, slice_index, take}
use Rattle.std.proofs.lemmas.List.{take_all}
use Rattle.enc_base.proofs.Lends.{refill-written}
use Rattle.structure_tables.specs.ParameterGroups.{variables, AreUses}
use Rattle.structure_tables.proofs.ParameterUses.{AreSoFar, AreUsesSoFar, no_types_used, uses_few, type_more}
use Rattle.structure_tables.proofs.groups.uses_of_parameters.Goals as goal

pub loop-ty-init : goal.loop-ty-init
loop-ty-init c =
    no_types_used c.args.symbol.now.parameters c.in_ok-uses.uses.items c.in_ok-uses.ensures

pub add_uses-requires-clause-few : goal.add_uses-requires-clause-few
add_uses-requires-clause-few c =
    subst (λ uses. (i : ℕ) → i < length uses → slice_index uses i ≤ 2)
    (sym c.deref_mut.ensures.value)
    (uses_few c.args.symbol.now.parameters
    (take c.loop-ty.ty-index c.args.symbol.now.arguments) c.loop-ty.uses.items c.loop-ty.invariant)

pub loop-ty-preserved : goal.loop-ty-preserved
loop-ty-preserved c =
    let types = c.args.symbol.now.arguments in
    let uses = c.loop-ty.uses.items in
    let after = c.add_uses.new.uses in
    let ty = c.ty-item.result in
    let long : length after ≡ c.loop-ty.uses.len =
    omega (arith, c.add_uses.auto.uses, c.deref_mut.ensures.len) in
    let added : AreSoFar uses (variables ty) after =
    subst (λ vs. AreSoFar uses vs after) (c.as_slice.ensures ∙ c.in_ok-variables.ensures)
    (subst (λ us. AreSoFar us c.as_slice.result.now after) c.deref_mut.ensures.value
    c.add_uses.ensures) in
    let kept : length after ≡ length uses =
    subst (λ us. length after ≡ length us) c.deref_mut.ensures.value c.add_uses.auto.uses in
    subst (AreUsesSoFar c.args.symbol.now.parameters (take (c.loop-ty.ty-index + 1) types))
    (sym (refill-written c.loop-ty.uses.len after uses long))
    (type_more c.args.symbol.now.parameters types uses after c.loop-ty.ty-index ty
    (rw c.as_slice-ty-items.ensures at c.loop-ty-test.true)
    (rw c.as_slice-ty-items.ensures at c.ty-item.is) c.loop-ty.invariant kept added)

pub returns : goal.returns
returns c =
    let symbol = c.args.symbol.now in
    let whole : AreUsesSoFar symbol.parameters symbol.arguments c.loop-ty.uses.items =
    subst (λ types. AreUsesSoFar symbol.parameters types c.loop-ty.uses.items)
    (take_all c.loop-ty.ty-index symbol.arguments
    (omega (arith, rw c.as_slice-ty-items.ensures at c.loop-ty-test.false))) c.loop-ty.invariant in
    subst (AreUses symbol) (sym c.from_vec.ensures)
    (record { long = whole.long; are = whole.are })
