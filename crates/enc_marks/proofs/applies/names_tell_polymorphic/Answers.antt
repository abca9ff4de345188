use Rattle.enc_marks.proofs.PolymorphicNames.{names_tell}
use Rattle.enc_marks.proofs.applies.names_tell_polymorphic.Goals as goal

pub returns : goal.returns
returns _ normal = names_tell normal
