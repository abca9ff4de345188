use Rattle.enc_marks.proofs.WritableNames.{translations_named}
use Rattle.enc_marks.proofs.laws.translations_can_be_named.Goals as goal

pub returns : goal.returns
returns c = translations_named
