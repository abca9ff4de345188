use Rattle.std.proofs.Common.{◌≡◌, map, take, slice_index}
use Rattle.enc_base.specs.Tables.{place}
use Rattle.enc_laws.specs.MergedStructure.{elements_read}
use Rattle.enc_models.proofs.merging.Merging.place_in_block.Given as goal

abbrev pub invariant-loop-i : goal.invariant-loop-i
invariant-loop-i g l =
    l.at
    ≡ place (take l.i (map (slice_index l.self.model.now.sizes) l.members))
    (take l.i (elements_read l.self.model.now.sizes l.members l.values))
