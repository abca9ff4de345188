use Rattle.std.proofs.Common.{◌≡◌, sym, ◌∙◌, ap, Some, slice_get}
use Rattle.std.proofs.lemmas.Option.{slice_get-get_or}
use Rattle.enc_models.proofs.SortNumbers.{none_numbered}
use Rattle.enc_models.proofs.sort_numbers.SortNumbers.new.Goals as goal

pub loop-number-init : goal.loop-number-init
loop-number-init c = none_numbered _ _ c.args.sorts.now c.new.ensures.one_to_one

pub loop-number-preserved : goal.loop-number-preserved
loop-number-preserved c =
    c.in_ok-add.ensures c.args.sorts.now c.requires.once
    (slice_get-get_or c.args.sorts.now c.loop-number.number c.index-sorts-number.result
    c.loop-number-test.true
    ∙ ap Some (sym c.index-sorts-number.is))
    c.loop-number.invariant
