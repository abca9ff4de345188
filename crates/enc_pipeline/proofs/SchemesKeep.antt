-- Each scheme keeps models.
use Rattle.std.proofs.Common.{refl}
use Rattle.enc_marks.specs.declared.scheme.Scheme.{Scheme}
use Rattle.enc_marks.specs.declared.scheme.Scheme.TheVariants as scheme
use Rattle.enc_models.specs.KeepsModels.{KeepsModels, IsCollapsed}
use Rattle.enc_models.proofs.KeepsModels.{guards_keep, tags_keep, guards_cover_keep, tags_cover_keep}
use Rattle.enc_models.proofs.KeepsModels.{collapsed_lower, lifts_models}

collapsed_keep : (which : Scheme) → IsCollapsed which → KeepsModels which
collapsed_keep which collapses = record {
  lowers = collapsed_lower which collapses;
  lifts = lifts_models which;
}

pub schemes_keep : (which : Scheme) → KeepsModels which
schemes_keep scheme.Guards = guards_keep
schemes_keep scheme.Tags = tags_keep
schemes_keep scheme.GuardsCover = guards_cover_keep
schemes_keep scheme.TagsCover = tags_cover_keep
schemes_keep scheme.Args = collapsed_keep scheme.Args (λ normal. refl)
schemes_keep scheme.Erase = collapsed_keep scheme.Erase (λ normal. refl)
schemes_keep scheme.GuardsLight = collapsed_keep scheme.GuardsLight (λ normal. refl)
schemes_keep scheme.TagsLight = collapsed_keep scheme.TagsLight (λ normal. refl)
schemes_keep scheme.GuardsFeather = collapsed_keep scheme.GuardsFeather (λ normal. refl)
schemes_keep scheme.TagsFeather = collapsed_keep scheme.TagsFeather (λ normal. refl)
