use Rattle.enc_run.proofs.Begun.{begun_first, begun_second}
use Rattle.enc_run.proofs.notes.write_both.Goals as goal

pub returns-in_err-write-clause-begins : goal.returns-in_err-write-clause-begins
returns-in_err-write-clause-begins g c =
    begun_first c.from_residual.result _ _ c.args.first.now c.args.second.now
    c.in_err-write.ensures.begins

pub returns-clause-begins : goal.returns-clause-begins
returns-clause-begins g c =
    begun_second c.write-2.result _ _ _ c.args.first.now c.args.second.now c.in_ok-write.ensures.ok
    c.write-2.ensures.begins
