use Rattle.structure_tables.proofs.TypedModels.{AreNormalModel-tabled}
use Rattle.structure_tables.proofs.laws.normal_models_are_tabled.Goals as goal

pub returns : goal.returns
returns c = AreNormalModel-tabled
