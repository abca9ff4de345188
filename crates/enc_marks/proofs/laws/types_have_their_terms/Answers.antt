use Rattle.enc_marks.proofs.MarkNumbers.{types_renumbered}
use Rattle.enc_marks.proofs.laws.types_have_their_terms.Goals as goal

pub returns : goal.returns
returns c = types_renumbered
