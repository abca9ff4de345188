use Rattle.std.proofs.Common.{◌<◌, length, subst, arith}
use Rattle.enc_base.proofs.NumberedTuples.{length-tuple_at}
use Rattle.tf_models.specs.Evaluation.{listed, IsNumber}
use Rattle.tf_models.proofs.members.Members.at.Goals as goal

pub digit-requires-clause-within : goal.digit-requires-clause-within
digit-requires-clause-within c =
    let number = subst IsNumber c.in-Numbered.is c.requires.number in
    omega (
      arith,
      subst (λ members. c.args.i < length (listed members)) c.in-Numbered.is c.requires.within,
      length-tuple_at c.in-Numbered.bound number.0 c.in-Numbered.count c.in-Numbered.number,
    )
