-- The schemes keep models.
use Rattle.std.proofs.Common.{refl}
use Rattle.enc_marks.specs.declared.scheme.Scheme.TheVariants.{Args, Erase}
use Rattle.enc_models.specs.KeepsModels.{KeepsModels}
use Rattle.enc_models.proofs.KeepsModels.{collapsed_lower, lifts_models}

pub args_keep : KeepsModels Args
args_keep = record {
  lowers = collapsed_lower Args (λ normal. refl);
  lifts = lifts_models Args;
}

pub erase_keep : KeepsModels Erase
erase_keep = record {
  lowers = collapsed_lower Erase (λ normal. refl);
  lifts = lifts_models Erase;
}
