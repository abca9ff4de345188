use Rattle.std.proofs.Common.{rules}
use Rattle.enc_marks.specs.Marks.{number_in}
use Rattle.enc_marks.proofs.types.look_up.Goals as goal

pub returns : goal.returns
unfolding number_in
returns c = search rules
