use Rattle.std.proofs.Common.{◌≡◌, map, take}
use Rattle.tf_models.specs.Reading.{tables}
use Rattle.enc_mono.specs.Restricted.{origin_block}
use Rattle.enc_mono.proofs.restricting.blocks_of_origins.Given as goal

abbrev pub invariant-loop-origin : goal.invariant-loop-origin
invariant-loop-origin l =
    l.made ≡ map (origin_block l.signature (tables l.model)) (take l.origin-index l.origins)
