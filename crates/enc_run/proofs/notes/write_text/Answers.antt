use Rattle.std.proofs.Common.{◌++◌}
use Rattle.enc_run.specs.Note.{number_word}
use Rattle.enc_run.proofs.Begun.{begun_first, begun_second}
use Rattle.enc_run.proofs.notes.write_text.Goals as goal

pub returns-in_err-write_number-clause-begins : goal.returns-in_err-write_number-clause-begins
returns-in_err-write_number-clause-begins g c =
    begun_first c.from_residual.result _ _ (number_word c.args.number)
    (c.args.first.now ++ c.args.second.now) c.in_err-write_number.ensures.begins

pub returns-clause-begins : goal.returns-clause-begins
returns-clause-begins g c =
    begun_second c.write_both.result _ _ _ (number_word c.args.number)
    (c.args.first.now ++ c.args.second.now) c.in_ok-write_number.ensures.ok
    c.write_both.ensures.begins
