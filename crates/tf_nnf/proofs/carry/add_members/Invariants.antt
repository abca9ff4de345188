use Rattle.std.proofs.Common.{◌≡◌, [], ◌∷◌, ◌++◌, map, take}
use Rattle.tf_nnf.proofs.carry.add_members.Given as goal

abbrev pub invariant-loop-member : goal.invariant-loop-member
invariant-loop-member l =
    l.constructors ≡ l.initial.constructors ++ map (λ member. member ∷ []) (take l.member-index l.members)
