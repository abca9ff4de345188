use Rattle.enc_marks.proofs.MarkNumbers.{constructors_numbered}
use Rattle.enc_marks.proofs.laws.constructors_have_numbers.Goals as goal

pub returns : goal.returns
returns c = constructors_numbered
