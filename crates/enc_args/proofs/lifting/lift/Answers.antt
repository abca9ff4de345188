use Rattle.enc_args.proofs.lifting.lift.Goals as goal

pub returns-in-Args-clause-exact : goal.returns-in-Args-clause-exact
returns-in-Args-clause-exact c = rw c.in-Args.is c.lift_by.ensures.exact

pub returns-in-Args-clause-within : goal.returns-in-Args-clause-within
returns-in-Args-clause-within c = rw c.in-Args.is c.lift_by.ensures.within

pub returns-in-Erase-clause-exact : goal.returns-in-Erase-clause-exact
returns-in-Erase-clause-exact c = rw c.in-Erase.is c.lift_by-in-Erase.ensures.exact

pub returns-in-Erase-clause-within : goal.returns-in-Erase-clause-within
returns-in-Erase-clause-within c = rw c.in-Erase.is c.lift_by-in-Erase.ensures.within
