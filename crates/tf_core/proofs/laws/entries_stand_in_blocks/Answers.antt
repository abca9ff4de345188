use Rattle.enc_base.proofs.Tables.{blocks-at}
use Rattle.tf_core.proofs.laws.entries_stand_in_blocks.Goals as goal

pub returns : goal.returns
returns c = blocks-at
