use Rattle.std.proofs.Common.{rules}
use Rattle.enc_marks.specs.Calls.Flags.{number_of}
use Rattle.enc_marks.proofs.renumber.Numbering.number.Goals as goal

pub returns : goal.returns
unfolding number_of
returns c = search rules
