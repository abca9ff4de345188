use Rattle.enc_tags.proofs.lowering.lower.Goals as goal

pub returns-clause-exact : goal.returns-clause-exact
returns-clause-exact c = rw c.requires.scheme c.lower_by.ensures.exact
