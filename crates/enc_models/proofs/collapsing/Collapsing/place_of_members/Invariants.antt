use Rattle.std.proofs.Common.{◌≡◌, take, length, replicate}
use Rattle.enc_base.specs.Tables.{place}
use Rattle.enc_laws.specs.CollapsedStructure.{members_collapsed}
use Rattle.enc_models.specs.Calls.Collapsing.{parts_of, typed_in}
use Rattle.enc_models.proofs.collapsing.Collapsing.place_of_members.Given as goal

abbrev pub invariant-loop-value : goal.invariant-loop-value
invariant-loop-value g l =
    l.at
    ≡ place (take l.value-index (replicate (length l.values) (length l.self.model.now.sizes)))
    (take l.value-index
    (members_collapsed (typed_in (parts_of g.C.Choices.choices l.self)) l.values))
