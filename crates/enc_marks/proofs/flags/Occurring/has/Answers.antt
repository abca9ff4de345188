use Rattle.std.proofs.Common.{rules}
use Rattle.enc_marks.specs.Calls.Flags.{is_set}
use Rattle.enc_marks.proofs.flags.Occurring.has.Goals as goal

pub returns : goal.returns
unfolding is_set
returns c = search rules
