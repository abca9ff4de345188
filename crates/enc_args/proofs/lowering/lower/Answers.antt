use Rattle.enc_args.proofs.lowering.lower.Goals as goal

pub returns-in-Args-clause-exact : goal.returns-in-Args-clause-exact
returns-in-Args-clause-exact c = rw c.in-Args.is c.lower_collapsed_by.ensures.exact

pub returns-in-Erase-clause-exact : goal.returns-in-Erase-clause-exact
returns-in-Erase-clause-exact c = rw c.in-Erase.is c.lower_collapsed_by-in-Erase.ensures.exact
