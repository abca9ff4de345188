-- The schemes keep models.
use Rattle.std.proofs.Common.{refl}
use Rattle.enc_marks.specs.declared.scheme.Scheme.TheVariants.{GuardsFeather, TagsFeather}
use Rattle.enc_models.specs.KeepsModels.{KeepsModels}
use Rattle.enc_models.proofs.KeepsModels.{collapsed_lower, lifts_models}

pub guards_keep : KeepsModels GuardsFeather
guards_keep = record {
  lowers = collapsed_lower GuardsFeather (λ normal. refl);
  lifts = lifts_models GuardsFeather;
}

pub tags_keep : KeepsModels TagsFeather
tags_keep = record {
  lowers = collapsed_lower TagsFeather (λ normal. refl);
  lifts = lifts_models TagsFeather;
}
