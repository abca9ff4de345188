use Rattle.enc_laws.proofs.SchemesCollapse.{schemes_bear}
use Rattle.enc_laws.proofs.laws.schemes_collapse.Goals as goal

pub returns : goal.returns
returns _ = schemes_bear
