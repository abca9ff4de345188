use Rattle.std.proofs.Common.{[], ◌∙◌, sym, subst, refl, take, false}
use Rattle.fof_text.specs.Names.{wanted_names}
use Rattle.fof_text.specs.Uses.{IsSet, Knows}
use Rattle.fof_text.proofs.Choices.{wanted-take}
use Rattle.fof_text.proofs.Taken.{known_wanted}
use Rattle.fof_text.proofs.choose.take_wanted.Goals as goal

pub loop-symbol-preserved : goal.loop-symbol-preserved
loop-symbol-preserved c =
    let symbol = c.symbol-item.result in
    let front = take c.loop-symbol.symbol-index c.args.signature.now in
    let set : IsSet c.loop-symbol.uses symbol.wanted
    (record { had = false; next = 0 }) c.take.new.uses =
    subst (λ z. IsSet c.loop-symbol.uses z (record { had = false; next = 0 }) c.take.new.uses)
    (c.in_ok-key.ensures ∙ c.as_slice.ensures) c.in_ok-take.ensures in
    subst (λ z. Knows z [] c.take.new.uses)
    (sym (wanted-take c.args.signature.now c.loop-symbol.symbol-index symbol
    c.loop-symbol-test.true c.symbol-item.is))
    (known_wanted (wanted_names front) symbol.wanted
    (record { had = false; next = 0 }) c.loop-symbol.uses
    c.take.new.uses c.loop-symbol.invariant set refl refl)
