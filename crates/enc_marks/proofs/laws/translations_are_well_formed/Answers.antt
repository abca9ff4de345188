use Rattle.enc_marks.proofs.Sound.{translations_well_formed}
use Rattle.enc_marks.proofs.laws.translations_are_well_formed.Goals as goal

pub returns : goal.returns
returns c = translations_well_formed
