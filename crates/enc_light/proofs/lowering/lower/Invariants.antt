use Rattle.enc_marks.specs.declared.scheme.Scheme.TheVariants.{GuardsLight, TagsLight}
use Rattle.enc_light.proofs.lowering.lower.Given as goal

abbrev pub ghost-lower_collapsed_by : goal.ghost-lower_collapsed_by
ghost-lower_collapsed_by a = GuardsLight

abbrev pub ghost-lower_collapsed_by-2 : goal.ghost-lower_collapsed_by-2
ghost-lower_collapsed_by-2 a = TagsLight
