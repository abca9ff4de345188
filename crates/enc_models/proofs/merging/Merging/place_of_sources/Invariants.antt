use Rattle.std.proofs.Common.{◌≡◌, take, length, replicate}
use Rattle.enc_base.specs.Tables.{place}
use Rattle.enc_models.specs.Calls.Sources.{numbers_at}
use Rattle.enc_models.specs.Calls.Merging.{parts_of, members_in}
use Rattle.enc_models.proofs.merging.Merging.place_of_sources.Given as goal

abbrev pub invariant-loop-source : goal.invariant-loop-source
invariant-loop-source g l =
    l.at
    ≡ place
    (take l.source-index (replicate (length l.sources) (length l.self.model.now.sizes)))
    (take l.source-index
    (members_in (parts_of g.C.Choices.choices l.self) (numbers_at l.values l.sources)))
