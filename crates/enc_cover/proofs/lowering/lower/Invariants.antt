use Rattle.enc_marks.specs.declared.scheme.Scheme.TheVariants.{GuardsCover, TagsCover}
use Rattle.enc_cover.proofs.lowering.lower.Given as goal

abbrev pub ghost-lower_by : goal.ghost-lower_by
ghost-lower_by a = GuardsCover

abbrev pub ghost-lower_by-2 : goal.ghost-lower_by-2
ghost-lower_by-2 a = TagsCover
