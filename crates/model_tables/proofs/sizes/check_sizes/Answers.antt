use Rattle.std.proofs.Common.{sym, ap, ◌∙◌}
use Rattle.model_tables.specs.Typed.{constructor_entries}
use Rattle.model_tables.proofs.SizeSteps.{counted_sizes}
use Rattle.model_tables.proofs.sizes.check_sizes.Goals as goal

pub returns : goal.returns
returns c =
    c.check_limit.ensures (constructor_entries c.args.signature.now c.args.sizes.now)
    (c.saturating_add.ensures
    ∙ counted_sizes c.args.signature.now c.args.sizes.now c.add_sizes.result
    c.entries_of_constructors-constructors.result c.as_slice.result.now c.as_slice.ensures
    c.add_sizes.ensures c.entries_of_constructors-constructors.ensures)
