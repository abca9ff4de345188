use Rattle.enc_laws.proofs.SortSchemes.{sorts_lifted}
use Rattle.enc_laws.proofs.laws.sorts_are_lifted.Goals as goal

pub returns : goal.returns
returns _ = sorts_lifted
