use Rattle.enc_mono.specs.Origins.{IsOriginOf}
use Rattle.enc_mono.proofs.CountedEntries.{item_has}
use Rattle.enc_mono.proofs.restricting.blocks_of_origins.Goals as goal

pub block_of_origin-block-requires-clause-origin :
    goal.block_of_origin-block-requires-clause-origin
block_of_origin-block-requires-clause-origin c =
    item_has (IsOriginOf c.args.signature.now 0) c.args.origins.now c.loop-origin.origin-index
    c.origin-item.result c.requires.origins c.loop-origin-test.true c.origin-item.is
