use Rattle.fof_models.proofs.Tabled.{IsModel-reading, AreModel-tabled}
use Rattle.fof_models.proofs.laws.models_are_tables.Goals as goal

pub returns : goal.returns
returns c = record { functions = IsModel-reading; tables = AreModel-tabled }
