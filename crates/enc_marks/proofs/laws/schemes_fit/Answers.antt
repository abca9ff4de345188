use Rattle.enc_marks.proofs.SoundSchemes.{schemes_fitting}
use Rattle.enc_marks.proofs.laws.schemes_fit.Goals as goal

pub returns : goal.returns
returns c = schemes_fitting
