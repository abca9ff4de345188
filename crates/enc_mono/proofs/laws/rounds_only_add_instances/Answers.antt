use Rattle.std.proofs.Common.{inl}
use Rattle.enc_mono.proofs.RoundsAdd.{admitted-more}
use Rattle.enc_mono.proofs.laws.rounds_only_add_instances.Goals as goal

pub returns : goal.returns
returns c = record { known = λ normal rounds origin is. inl is; admitted = admitted-more }
