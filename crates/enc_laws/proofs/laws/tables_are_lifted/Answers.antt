use Rattle.enc_laws.proofs.Schemes.{tables_lifted}
use Rattle.enc_laws.proofs.laws.tables_are_lifted.Goals as goal

pub returns : goal.returns
returns _ which normal s marking sound model = tables_lifted which normal s marking sound model
