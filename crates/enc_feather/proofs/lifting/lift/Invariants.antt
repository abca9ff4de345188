use Rattle.enc_marks.specs.declared.scheme.Scheme.TheVariants.{GuardsFeather, TagsFeather}
use Rattle.enc_feather.proofs.lifting.lift.Given as goal

abbrev pub ghost-lift_by : goal.ghost-lift_by
ghost-lift_by a = GuardsFeather

abbrev pub ghost-lift_by-2 : goal.ghost-lift_by-2
ghost-lift_by-2 a = TagsFeather
