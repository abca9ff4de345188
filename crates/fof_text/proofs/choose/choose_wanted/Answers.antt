use Rattle.std.proofs.Common.{subst, refl, true}
use Rattle.fof_text.specs.Uses.{IsSet}
use Rattle.fof_text.proofs.Taken.{wanted_chosen}
use Rattle.fof_text.proofs.choose.choose_wanted.Goals as goal

pub returns : goal.returns
returns c = λ wanted earlier k a.
    wanted_chosen wanted earlier c.args.name.now
    (record { had = true; next = 0 }) c.args.uses.now c.take.new.uses k a
    (subst (λ z. IsSet c.args.uses.now z
    (record { had = true; next = 0 }) c.take.new.uses) c.in_ok-key.ensures
    c.in_ok-take.ensures)
    refl refl c.in_ok-chosen.chosen c.in_ok-chosen.ensures
