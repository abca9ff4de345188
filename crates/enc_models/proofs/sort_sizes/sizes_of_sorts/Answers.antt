use Rattle.std.proofs.Common.{sym, ap, subst, ◌∙◌}
use Rattle.tf_core.specs.Typing.{IsType}
use Rattle.tf_core.proofs.StatedFormulas.{each_at}
use Rattle.tf_models.proofs.Entries.{constructors_fit}
use Rattle.enc_models.specs.Calls.SortSizes.{AreClosedTypes}
use Rattle.enc_models.proofs.SortSizes.{sorts_closed}
use Rattle.enc_models.proofs.sort_sizes.sizes_of_sorts.Goals as goal

pub size_of-size-requires-clause-fit : goal.size_of-size-requires-clause-fit
size_of-size-requires-clause-fit c =
    constructors_fit c.args.normal.now.signature c.args.model.now c.requires.ready.well_formed

pub size_of-size-requires-clause-typed : goal.size_of-size-requires-clause-typed
size_of-size-requires-clause-typed c =
    each_at (IsType c.args.normal.now.signature 0) c.as_slice-sort-items.result.now c.loop-sort.sort-index
    c.sort-item.result c.loop-sort-test.true c.sort-item.is
    (subst (AreClosedTypes c.args.normal.now.signature)
    (sym (c.as_slice-sort-items.ensures ∙ c.in_ok-listed.ensures.exact))
    (sorts_closed c.args.normal.now c.requires.monomorphic c.requires.sound))
