use Rattle.enc_feather.proofs.translation.encode_free.Goals as goal

pub returns-in-GuardsFeather-clause-exact : goal.returns-in-GuardsFeather-clause-exact
returns-in-GuardsFeather-clause-exact c = rw c.in-GuardsFeather.is c.encode_by.ensures.exact

pub returns-in-TagsFeather-clause-exact : goal.returns-in-TagsFeather-clause-exact
returns-in-TagsFeather-clause-exact c = rw c.in-TagsFeather.is c.encode_by-in-TagsFeather.ensures.exact
