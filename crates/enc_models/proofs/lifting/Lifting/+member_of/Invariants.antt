use Rattle.std.proofs.Common.{◌≡◌, map, take, length, replicate}
use Rattle.enc_base.specs.Tables.{place}
use Rattle.tf_core.specs.Structures.{member_of}
use Rattle.enc_models.specs.Calls.Lifting.{members_in, parts_of, typed_in}
use Rattle.enc_models.proofs.lifting.Lifting.+member_of.Given as goal

abbrev pub invariant-place_of_types-loop-ty : goal.invariant-place_of_types-loop-ty
invariant-place_of_types-loop-ty g l =
    l.at
    ≡ place (take l.ty-index (replicate (length l.types) (members_in (parts_of g.C.Choices.choices l.self.marked.now))))
    (take l.ty-index (map (member_of (typed_in (parts_of g.C.Choices.choices l.self.marked.now)) l.members) l.types))
