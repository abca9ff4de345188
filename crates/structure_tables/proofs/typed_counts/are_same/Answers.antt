use Rattle.std.proofs.Common.{◌≡◌, slice_index, subst}
use Rattle.std.specs.List.{All}
use Rattle.std.proofs.lemmas.List.{take_all}
use Rattle.structure_tables.proofs.typed_counts.are_same.Goals as goal

pub returns : goal.returns
returns c _ =
    subst (All (λ size. size ≡ slice_index c.args.sizes.now 0))
    (take_all c.loop-size.size-index c.args.sizes.now c.loop-size-test.false) c.loop-size.invariant
