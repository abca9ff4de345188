use Rattle.enc_marks.specs.declared.scheme.Scheme.TheVariants.{GuardsFeather, TagsFeather}
use Rattle.enc_feather.proofs.lowering.lower.Given as goal

abbrev pub ghost-lower_collapsed_by : goal.ghost-lower_collapsed_by
ghost-lower_collapsed_by a = GuardsFeather

abbrev pub ghost-lower_collapsed_by-2 : goal.ghost-lower_collapsed_by-2
ghost-lower_collapsed_by-2 a = TagsFeather
