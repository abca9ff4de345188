use Rattle.enc_cover.proofs.lifting.lift.Goals as goal

pub returns-in-GuardsCover-clause-exact : goal.returns-in-GuardsCover-clause-exact
returns-in-GuardsCover-clause-exact c = rw c.in-GuardsCover.is c.lift_by.ensures.exact

pub returns-in-GuardsCover-clause-within : goal.returns-in-GuardsCover-clause-within
returns-in-GuardsCover-clause-within c = rw c.in-GuardsCover.is c.lift_by.ensures.within

pub returns-in-TagsCover-clause-exact : goal.returns-in-TagsCover-clause-exact
returns-in-TagsCover-clause-exact c = rw c.in-TagsCover.is c.lift_by-in-TagsCover.ensures.exact

pub returns-in-TagsCover-clause-within : goal.returns-in-TagsCover-clause-within
returns-in-TagsCover-clause-within c = rw c.in-TagsCover.is c.lift_by-in-TagsCover.ensures.within
