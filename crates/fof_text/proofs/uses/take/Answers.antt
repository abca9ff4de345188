use Rattle.fof_text.proofs.Taken.{is_set}
use Rattle.fof_text.proofs.uses.take.Goals as goal

pub returns : goal.returns
returns c = is_set c.args.uses.now c.insert.new.self c.args.name c.args.how
    c.in_ok-insert.ensures.updates
