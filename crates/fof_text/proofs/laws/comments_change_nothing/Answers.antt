use Rattle.fof_text.proofs.Stated.{comments_change_nothing}
use Rattle.fof_text.proofs.laws.comments_change_nothing.Goals as goal

pub returns : goal.returns
returns c = comments_change_nothing
