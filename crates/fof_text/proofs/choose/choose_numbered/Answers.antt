use Rattle.std.proofs.Common.{◌≡◌, ◌+◌, ◌≤◌, sym, ◌∙◌, subst, refl, true, length, arith}
use Rattle.fof_text.specs.Names.{numbered}
use Rattle.fof_text.specs.Uses.{IsSet, IsFirstFree, IsChosen}
use Rattle.fof_text.proofs.Taken.{numbered_chosen}
use Rattle.fof_text.proofs.choose.choose_numbered.Goals as goal

pub returns : goal.returns
returns c = λ wanted earlier how k at had next limit.
    let name = c.args.name.now in
    let number = c.in_ok-number.number in
    let below = k.within name how at in
    let within : c.args.next ≤ c.args.limit = omega (arith, below, next, limit) in
    let first : IsFirstFree c.args.uses.now name how.next (length earlier + length wanted) number =
    subst (λ m. IsFirstFree c.args.uses.now name m (length earlier + length wanted) number)
    (sym next)
    (subst (λ m. IsFirstFree c.args.uses.now name c.args.next m number) limit
    (c.in_ok-number.ensures.exact within)) in
    let chosen_set : IsSet c.args.uses.now (numbered name number)
    (record { had = true; next = 0 }) c.take.new.uses =
    subst (λ z. IsSet c.args.uses.now z (record { had = true; next = 0 }) c.take.new.uses)
    c.in_ok-bytes.ensures c.in_ok-take.ensures in
    let name_set : IsSet c.take.new.uses name
    (record { had = true; next = number + 1 }) c.take-2.new.uses =
    subst (λ z. IsSet c.take.new.uses z
    (record { had = true; next = number + 1 }) c.take-2.new.uses)
    c.in_ok-key.ensures c.in_ok-take-2.ensures in
    let is : c.in_ok-chosen.chosen ≡ numbered name number =
    c.in_ok-chosen.ensures ∙ c.deref.ensures.value ∙ c.in_ok-bytes.ensures in
    subst (IsChosen wanted earlier name c.take-2.new.uses) (sym is)
    (numbered_chosen wanted earlier name c.args.uses.now how k at had number first c.take.new.uses
    c.take-2.new.uses (record { had = true; next = 0 }) (record { had = true; next = number + 1 })
    chosen_set refl refl name_set refl refl)
