use Rattle.enc_marks.specs.declared.scheme.Scheme.TheVariants.{GuardsFeather, TagsFeather}
use Rattle.enc_feather.proofs.translation.encode_free.Given as goal

abbrev pub ghost-encode_by : goal.ghost-encode_by
ghost-encode_by a = GuardsFeather

abbrev pub ghost-encode_by-2 : goal.ghost-encode_by-2
ghost-encode_by-2 a = TagsFeather
