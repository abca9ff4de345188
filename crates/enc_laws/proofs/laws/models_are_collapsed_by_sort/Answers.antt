use Rattle.enc_laws.proofs.CollapsesBySort.{sorts_satisfy}
use Rattle.enc_laws.proofs.SoundNormal.{normal_typed}
use Rattle.enc_laws.proofs.laws.models_are_collapsed_by_sort.Goals as goal

pub returns : goal.returns
returns _ c is_bare normal s by bare_free monomorphic sound model =
    sorts_satisfy c is_bare normal s by bare_free monomorphic sound (normal_typed normal sound)
    model
