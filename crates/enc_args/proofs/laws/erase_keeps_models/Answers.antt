use Rattle.enc_args.proofs.Models.{erase_keep}
use Rattle.enc_args.proofs.laws.erase_keeps_models.Goals as goal

pub returns : goal.returns
returns c = erase_keep
