use Rattle.enc_mono.proofs.MadeTyped.{made_is_typed, origins_are_of}
use Rattle.enc_mono.proofs.laws.instances_are_typed.Goals as goal

pub returns : goal.returns
returns c = record { made = made_is_typed; origins = origins_are_of }
