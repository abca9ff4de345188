use Rattle.enc_light.proofs.lifting.lift.Goals as goal

pub returns-in-GuardsLight-clause-exact : goal.returns-in-GuardsLight-clause-exact
returns-in-GuardsLight-clause-exact c = rw c.in-GuardsLight.is c.lift_by.ensures.exact

pub returns-in-GuardsLight-clause-within : goal.returns-in-GuardsLight-clause-within
returns-in-GuardsLight-clause-within c = rw c.in-GuardsLight.is c.lift_by.ensures.within

pub returns-in-TagsLight-clause-exact : goal.returns-in-TagsLight-clause-exact
returns-in-TagsLight-clause-exact c = rw c.in-TagsLight.is c.lift_by-in-TagsLight.ensures.exact

pub returns-in-TagsLight-clause-within : goal.returns-in-TagsLight-clause-within
returns-in-TagsLight-clause-within c = rw c.in-TagsLight.is c.lift_by-in-TagsLight.ensures.within
