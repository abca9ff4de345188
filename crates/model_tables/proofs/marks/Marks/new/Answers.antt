use Rattle.std.proofs.Common.{sym, ap, ◌∙◌}
use Rattle.model_tables.specs.Marks.{missing_among}
use Rattle.model_tables.proofs.MarkedNames.{missing_among-none}
use Rattle.model_tables.proofs.marks.Marks.new.Goals as goal

pub invariant_of-result : goal.invariant_of-result
invariant_of-result c = record {
  missing =
      sym (ap missing_among (c.in-Ok.ensures.items_if_clones_equal (λ y same. same))
      ∙ missing_among-none c.args.count);
}
