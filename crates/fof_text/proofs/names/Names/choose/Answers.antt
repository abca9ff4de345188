use Rattle.std.proofs.Common.{◌∙◌, sym, subst, ap, ◌∷◌, ◌++◌, [], take, length, arith, ◌+◌, ◌<◌}
use Rattle.std.proofs.Common.{◌≡◌}
use Rattle.std.proofs.lemmas.List.{length-take-le}
use Rattle.fof_models.specs.declared.problem.FofSymbol.{FofSymbol}
use Rattle.fof_text.specs.Names.{wanted_names, chosen_names, AllDiffer}
use Rattle.fof_text.specs.Uses.{IsChosen}
use Rattle.fof_text.proofs.Choices.{AreChosen, passed, one_more, wanted-take, limit_is}
use Rattle.fof_text.proofs.Choices.{chosen_differ, are_whole, length-chosen}
use Rattle.fof_text.proofs.names.Names.choose.Goals as goal

pub loop-i-preserved : goal.loop-i-preserved
loop-i-preserved c =
    let signature = c.args.signature.now in
    let wanted = wanted_names signature in
    let front = take c.loop-i.i signature in
    let symbol = c.index-signature-i.result in
    let below = c.loop-i-test.true in
    let all = c.count_of-count.ensures.exact in
    let within : c.loop-i.i < length signature = omega (arith, below, all) in
    let long = limit_is signature front c.loop-i.i
    (length-take-le c.loop-i.i signature (omega (arith, within))) in
    let chosen : IsChosen wanted
    (passed wanted [] (wanted_names front)) symbol.wanted c.choose_name.new.uses c.in_ok-name.name =
    subst (λ z. IsChosen wanted
    (passed wanted [] (wanted_names front)) z c.choose_name.new.uses c.in_ok-name.name)
    (c.as_slice.ensures ∙ sym (ap (λ (s : FofSymbol). s.wanted) c.index-signature-i.is))
    (c.in_ok-name.ensures wanted (passed wanted [] (wanted_names front)) c.loop-i.invariant.known
    (ap (λ n. c.loop-i.i + n) c.count_of-count.ensures.exact ∙ long)) in
    subst (λ z. AreChosen wanted z c.push.new.self c.choose_name.new.uses)
    (sym (wanted-take signature c.loop-i.i symbol within c.index-signature-i.is))
    (subst (λ z. AreChosen wanted
    (wanted_names front ++ symbol.wanted ∷ []) z c.choose_name.new.uses)
    (sym c.in_ok-push.ensures.ok)
    (one_more wanted (wanted_names front) c.loop-i.names c.loop-i.uses
    c.choose_name.new.uses symbol.wanted
    c.in_ok-name.name c.loop-i.invariant chosen))

pub returns-clause-differ : goal.returns-clause-differ
returns-clause-differ c =
    let signature = c.args.signature.now in
    let past = c.loop-i-test.false in
    let all = c.count_of-count.ensures.exact in
    let few = c.count_of-count.ensures.few in
    let whole : c.loop-i.names ≡ chosen_names signature =
    are_whole signature c.loop-i.i c.loop-i.names c.loop-i.uses
    (omega (arith, past, all)) c.loop-i.invariant in
    subst AllDiffer (sym whole) (chosen_differ signature (omega (arith, few, all)))

pub returns-clause-exact : goal.returns-clause-exact
returns-clause-exact c =
    let past = c.loop-i-test.false in
    let all = c.count_of-count.ensures.exact in
    are_whole c.args.signature.now c.loop-i.i c.loop-i.names c.loop-i.uses
    (omega (arith, past, all)) c.loop-i.invariant

pub returns-clause-one_each : goal.returns-clause-one_each
returns-clause-one_each c =
    let past = c.loop-i-test.false in
    let all = c.count_of-count.ensures.exact in
    ap length (are_whole c.args.signature.now c.loop-i.i c.loop-i.names c.loop-i.uses
    (omega (arith, past, all)) c.loop-i.invariant) ∙ length-chosen c.args.signature.now
