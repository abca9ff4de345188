use Rattle.std.proofs.Common.{length}
use Rattle.tf_models.specs.Evaluation.{listed}
use Rattle.tf_models.proofs.TypeMembers.{member_below}
use Rattle.tf_models.proofs.structure.TypedStructure.size_of.Goals as goal

pub bounds-as_slice-member : goal.bounds-as_slice-member
bounds-as_slice-member c =
    rw (c.as_slice.ensures, c.member_of-member.ensures)
    (member_below c.args.signature.now c.args.self.now c.requires.fit
    (length (listed c.args.members)) (listed c.args.members) c.args.ty.now c.requires.typed
    c.requires.members.below)
