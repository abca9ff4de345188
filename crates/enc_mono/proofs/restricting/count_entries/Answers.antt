use Rattle.std.proofs.Common.{◌∙◌}
use Rattle.tf_models.specs.Reading.{tables}
use Rattle.structure_tables.proofs.Counting.{counted_more}
use Rattle.enc_mono.specs.Origins.{IsOriginOf}
use Rattle.enc_mono.proofs.CountedEntries.{kept_count, block_count_of, item_has}
use Rattle.enc_mono.proofs.restricting.count_entries.Goals as goal

pub length_of_origin-requires-clause-origin : goal.length_of_origin-requires-clause-origin
length_of_origin-requires-clause-origin c =
    item_has (IsOriginOf c.args.signature.now 0) c.args.origins.now c.loop-origin.origin-index
    c.origin-item.result c.requires.origins c.loop-origin-test.true c.origin-item.is

pub loop-origin-preserved : goal.loop-origin-preserved
loop-origin-preserved c =
    c.saturating_add-entries.ensures
    ∙ counted_more (block_count_of c.args.signature.now (tables c.args.model.now))
    c.args.origins.now c.loop-origin.origin-index (kept_count (tables c.args.model.now))
    c.length_of_origin.result c.loop-origin.entries c.origin-item.result
    c.loop-origin-test.true c.origin-item.is c.length_of_origin.ensures c.loop-origin.invariant
