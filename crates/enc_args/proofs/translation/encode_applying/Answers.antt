use Rattle.enc_args.proofs.translation.encode_applying.Goals as goal

pub returns-in-Args-clause-exact : goal.returns-in-Args-clause-exact
returns-in-Args-clause-exact c = rw c.in-Args.is c.encode_by.ensures.exact

pub returns-in-Erase-clause-exact : goal.returns-in-Erase-clause-exact
returns-in-Erase-clause-exact c = rw c.in-Erase.is c.encode_by-in-Erase.ensures.exact
