use Rattle.enc_args.proofs.Models.{args_keep}
use Rattle.enc_args.proofs.laws.args_keeps_models.Goals as goal

pub returns : goal.returns
returns c = args_keep
