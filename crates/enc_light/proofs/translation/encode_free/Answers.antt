use Rattle.enc_light.proofs.translation.encode_free.Goals as goal

pub returns-in-GuardsLight-clause-exact : goal.returns-in-GuardsLight-clause-exact
returns-in-GuardsLight-clause-exact c = rw c.in-GuardsLight.is c.encode_by.ensures.exact

pub returns-in-TagsLight-clause-exact : goal.returns-in-TagsLight-clause-exact
returns-in-TagsLight-clause-exact c = rw c.in-TagsLight.is c.encode_by-in-TagsLight.ensures.exact
