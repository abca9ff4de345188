use Rattle.enc_laws.proofs.CollapsesArgs.{args_satisfies}
use Rattle.enc_laws.proofs.laws.models_are_collapsed.Goals as goal

pub returns : goal.returns
returns _ normal s none sound model = args_satisfies normal s sound model none
