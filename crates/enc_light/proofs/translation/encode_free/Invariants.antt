use Rattle.enc_marks.specs.declared.scheme.Scheme.TheVariants.{GuardsLight, TagsLight}
use Rattle.enc_light.proofs.translation.encode_free.Given as goal

abbrev pub ghost-encode_by : goal.ghost-encode_by
ghost-encode_by a = GuardsLight

abbrev pub ghost-encode_by-2 : goal.ghost-encode_by-2
ghost-encode_by-2 a = TagsLight
