use Rattle.enc_base.proofs.Puts.{all_sent, some_sent}
use Rattle.fof_text.proofs.problem.write_problem.Goals as goal

pub returns-in-Ok-clause-exact : goal.returns-in-Ok-clause-exact
returns-in-Ok-clause-exact g c =
    (all_sent c.new-pending.ensures c.put_problem.ensures c.in-Ok.ensures.exact).0

pub returns-in-Ok-clause-kept_faults : goal.returns-in-Ok-clause-kept_faults
returns-in-Ok-clause-kept_faults g c =
    (all_sent c.new-pending.ensures c.put_problem.ensures c.in-Ok.ensures.exact).1

pub returns-in-Err-clause-cause : goal.returns-in-Err-clause-cause
returns-in-Err-clause-cause g c =
    (some_sent c.new-pending.ensures c.put_problem.ensures c.in-Err.ensures.cause).1

pub returns-in-Err-clause-within : goal.returns-in-Err-clause-within
returns-in-Err-clause-within g c =
    (some_sent c.new-pending.ensures c.put_problem.ensures c.in-Err.ensures.cause).0
