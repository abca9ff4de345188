use Rattle.enc_feather.proofs.lifting.lift.Goals as goal

pub returns-in-GuardsFeather-clause-exact : goal.returns-in-GuardsFeather-clause-exact
returns-in-GuardsFeather-clause-exact c = rw c.in-GuardsFeather.is c.lift_by.ensures.exact

pub returns-in-GuardsFeather-clause-within : goal.returns-in-GuardsFeather-clause-within
returns-in-GuardsFeather-clause-within c = rw c.in-GuardsFeather.is c.lift_by.ensures.within

pub returns-in-TagsFeather-clause-exact : goal.returns-in-TagsFeather-clause-exact
returns-in-TagsFeather-clause-exact c = rw c.in-TagsFeather.is c.lift_by-in-TagsFeather.ensures.exact

pub returns-in-TagsFeather-clause-within : goal.returns-in-TagsFeather-clause-within
returns-in-TagsFeather-clause-within c = rw c.in-TagsFeather.is c.lift_by-in-TagsFeather.ensures.within
