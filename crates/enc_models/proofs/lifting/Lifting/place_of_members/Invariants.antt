use Rattle.std.proofs.Common.{◌≡◌, take, length, replicate}
use Rattle.enc_base.specs.Tables.{place}
use Rattle.enc_models.specs.Calls.Lifting.{parts_of, members_in}
use Rattle.enc_models.proofs.lifting.Lifting.place_of_members.Given as goal

abbrev pub invariant-loop-member : goal.invariant-loop-member
invariant-loop-member g l =
    l.at
    ≡ place (take l.member-index (replicate (length l.members) (members_in (parts_of g.C.Choices.choices l.self.marked.now))))
    (take l.member-index l.members)
