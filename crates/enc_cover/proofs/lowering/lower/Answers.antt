use Rattle.enc_cover.proofs.lowering.lower.Goals as goal

pub returns-in-GuardsCover-clause-exact : goal.returns-in-GuardsCover-clause-exact
returns-in-GuardsCover-clause-exact c = rw c.in-GuardsCover.is c.lower_by.ensures.exact

pub returns-in-TagsCover-clause-exact : goal.returns-in-TagsCover-clause-exact
returns-in-TagsCover-clause-exact c = rw c.in-TagsCover.is c.lower_by-in-TagsCover.ensures.exact
