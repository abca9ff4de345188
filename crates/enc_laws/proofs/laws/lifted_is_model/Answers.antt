use Rattle.enc_laws.proofs.Schemes.{total_lifted}
use Rattle.enc_laws.proofs.laws.lifted_is_model.Goals as goal

pub returns : goal.returns
returns _ which normal j marking sound total satisfied =
    total_lifted which normal j marking sound total satisfied
