use Rattle.enc_base.proofs.Puts.{all_sent, some_sent}
use Rattle.model_tables.proofs.WrittenTables.{untyped_text_is_its_table}
use Rattle.model_tables.proofs.write.write_untyped.Goals as goal

pub returns-in-Ok-clause-exact : goal.returns-in-Ok-clause-exact
returns-in-Ok-clause-exact g c =
    (all_sent c.new-pending.ensures c.put_untyped.ensures.puts c.in-Ok.ensures.exact).0

pub returns-in-Ok-clause-kept_faults : goal.returns-in-Ok-clause-kept_faults
returns-in-Ok-clause-kept_faults g c =
    (all_sent c.new-pending.ensures c.put_untyped.ensures.puts c.in-Ok.ensures.exact).1

pub returns-in-Err-clause-cause : goal.returns-in-Err-clause-cause
returns-in-Err-clause-cause g c =
    (some_sent c.new-pending.ensures c.put_untyped.ensures.puts c.in-Err.ensures.cause).1

pub returns-in-Err-clause-within : goal.returns-in-Err-clause-within
returns-in-Err-clause-within g c =
    (some_sent c.new-pending.ensures c.put_untyped.ensures.puts c.in-Err.ensures.cause).0

pub returns-in-Ok-clause-table : goal.returns-in-Ok-clause-table
returns-in-Ok-clause-table g c =
    untyped_text_is_its_table c.args.problem.now c.args.names.now c.args.structure.now
    c.requires.named c.requires.well_formed c.put_untyped.ensures.number

pub returns-in-Err-clause-table : goal.returns-in-Err-clause-table
returns-in-Err-clause-table g c =
    untyped_text_is_its_table c.args.problem.now c.args.names.now c.args.structure.now
    c.requires.named c.requires.well_formed c.put_untyped.ensures.number
