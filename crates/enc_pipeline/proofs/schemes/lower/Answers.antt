use Rattle.enc_pipeline.proofs.schemes.lower.Goals as goal

pub returns-in-Guards-clause-exact : goal.returns-in-Guards-clause-exact
returns-in-Guards-clause-exact c = rw c.in-Guards.is c.lower.ensures.exact

pub returns-in-Tags-clause-exact : goal.returns-in-Tags-clause-exact
returns-in-Tags-clause-exact c = rw c.in-Tags.is c.lower-in-Tags.ensures.exact

pub returns-in-GuardsCover-clause-exact : goal.returns-in-GuardsCover-clause-exact
returns-in-GuardsCover-clause-exact c = rw c.in-GuardsCover.is c.lower-in-GuardsCover.ensures.exact

pub returns-in-TagsCover-clause-exact : goal.returns-in-TagsCover-clause-exact
returns-in-TagsCover-clause-exact c = rw c.in-TagsCover.is c.lower-in-TagsCover.ensures.exact

pub returns-in-Args-clause-exact : goal.returns-in-Args-clause-exact
returns-in-Args-clause-exact c = rw c.in-Args.is c.lower-in-Args.ensures.exact

pub returns-in-Erase-clause-exact : goal.returns-in-Erase-clause-exact
returns-in-Erase-clause-exact c = rw c.in-Erase.is c.lower-in-Erase.ensures.exact

pub returns-in-GuardsLight-clause-exact : goal.returns-in-GuardsLight-clause-exact
returns-in-GuardsLight-clause-exact c = rw c.in-GuardsLight.is c.lower-in-GuardsLight.ensures.exact

pub returns-in-TagsLight-clause-exact : goal.returns-in-TagsLight-clause-exact
returns-in-TagsLight-clause-exact c = rw c.in-TagsLight.is c.lower-in-TagsLight.ensures.exact

pub returns-in-GuardsFeather-clause-exact : goal.returns-in-GuardsFeather-clause-exact
returns-in-GuardsFeather-clause-exact c =
    rw c.in-GuardsFeather.is c.lower-in-GuardsFeather.ensures.exact

pub returns-in-TagsFeather-clause-exact : goal.returns-in-TagsFeather-clause-exact
returns-in-TagsFeather-clause-exact c = rw c.in-TagsFeather.is c.lower-in-TagsFeather.ensures.exact
