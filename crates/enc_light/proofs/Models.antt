-- The schemes keep models.
use Rattle.std.proofs.Common.{refl}
use Rattle.enc_marks.specs.declared.scheme.Scheme.TheVariants.{GuardsLight, TagsLight}
use Rattle.enc_models.specs.KeepsModels.{KeepsModels}
use Rattle.enc_models.proofs.KeepsModels.{collapsed_lower, lifts_models}

pub guards_keep : KeepsModels GuardsLight
guards_keep = record {
  lowers = collapsed_lower GuardsLight (λ normal. refl);
  lifts = lifts_models GuardsLight;
}

pub tags_keep : KeepsModels TagsLight
tags_keep = record {
  lowers = collapsed_lower TagsLight (λ normal. refl);
  lifts = lifts_models TagsLight;
}
