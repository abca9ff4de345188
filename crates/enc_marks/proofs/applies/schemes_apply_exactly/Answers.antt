use Rattle.enc_marks.proofs.AppliesLaws.{applies_exactly}
use Rattle.enc_marks.proofs.applies.schemes_apply_exactly.Goals as goal

pub returns : goal.returns
returns _ which normal typed = applies_exactly which normal typed
