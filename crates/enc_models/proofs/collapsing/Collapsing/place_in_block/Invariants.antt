use Rattle.std.proofs.Common.{◌≡◌, map, take, slice_index}
use Rattle.enc_base.specs.Tables.{place}
use Rattle.enc_laws.specs.CollapsedStructure.{elements_collapsed}
use Rattle.enc_models.specs.Calls.Collapsing.{parts_of, typed_in, size_in}
use Rattle.enc_models.proofs.collapsing.Collapsing.place_in_block.Given as goal

abbrev pub invariant-loop-i : goal.invariant-loop-i
invariant-loop-i g l =
    l.at
    ≡ place (take l.i (map (slice_index l.self.model.now.sizes) l.members))
    (take l.i
    (elements_collapsed (typed_in (parts_of g.C.Choices.choices l.self))
    (size_in (parts_of g.C.Choices.choices l.self)) l.members l.values))
