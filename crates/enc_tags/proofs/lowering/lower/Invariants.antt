use Rattle.enc_marks.specs.declared.scheme.Scheme.TheVariants.{Tags}
use Rattle.enc_tags.proofs.lowering.lower.Given as goal

abbrev pub ghost-lower_by : goal.ghost-lower_by
ghost-lower_by a = Tags
