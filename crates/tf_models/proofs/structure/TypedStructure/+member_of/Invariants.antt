use Rattle.std.proofs.Common.{◌≡◌, map, take, length, replicate}
use Rattle.enc_base.specs.Tables.{place}
use Rattle.tf_models.specs.Evaluation.{listed, member_in}
use Rattle.tf_models.proofs.structure.TypedStructure.+member_of.Given as goal

abbrev pub invariant-place_of_types-loop-ty : goal.invariant-place_of_types-loop-ty
invariant-place_of_types-loop-ty l =
    l.at
    ≡ place (take l.ty-index (replicate (length l.types) (length l.self.sizes)))
    (take l.ty-index (map (member_in l.self (listed l.members)) l.types))
