use Rattle.enc_base.proofs.Puts.{then_put, all_sent, some_sent, where_ok, where_failed}
use Rattle.enc_pipeline.proofs.output.write_output.Goals as goal

pub returns-clause-exact : goal.returns-clause-exact
returns-clause-exact g c =
    where_ok c.finish.result (λ finished. (all_sent c.new-pending.ensures
    (then_put c.put_first_line.ensures c.put_problem.ensures) finished).0) c.finish.ensures.exact

pub returns-clause-kept_faults : goal.returns-clause-kept_faults
returns-clause-kept_faults g c =
    where_ok c.finish.result (λ finished. (all_sent c.new-pending.ensures
    (then_put c.put_first_line.ensures c.put_problem.ensures) finished).1) c.finish.ensures.exact

pub returns-clause-within : goal.returns-clause-within
returns-clause-within g c =
    where_failed c.finish.result (λ broken. (some_sent c.new-pending.ensures
    (then_put c.put_first_line.ensures c.put_problem.ensures) broken).0) c.finish.ensures.cause

pub returns-clause-cause : goal.returns-clause-cause
returns-clause-cause g c =
    where_failed c.finish.result (λ broken. (some_sent c.new-pending.ensures
    (then_put c.put_first_line.ensures c.put_problem.ensures) broken).1) c.finish.ensures.cause
