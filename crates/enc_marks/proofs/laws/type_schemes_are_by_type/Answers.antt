use Rattle.enc_marks.proofs.SoundSchemes.{type_schemes}
use Rattle.enc_marks.proofs.laws.type_schemes_are_by_type.Goals as goal

pub returns : goal.returns
returns c = type_schemes
