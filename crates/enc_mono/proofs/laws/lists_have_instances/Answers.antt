use Rattle.enc_mono.proofs.ListRow.{list_instances}
use Rattle.enc_mono.proofs.laws.lists_have_instances.Goals as goal

pub returns : goal.returns
returns c = list_instances
