use Rattle.enc_pipeline.proofs.schemes.lift.Goals as goal

pub returns-in-Guards-clause-exact : goal.returns-in-Guards-clause-exact
returns-in-Guards-clause-exact c = rw c.in-Guards.is c.lift.ensures.exact

pub returns-in-Guards-clause-within : goal.returns-in-Guards-clause-within
returns-in-Guards-clause-within c = rw c.in-Guards.is c.lift.ensures.within

pub returns-in-Tags-clause-exact : goal.returns-in-Tags-clause-exact
returns-in-Tags-clause-exact c = rw c.in-Tags.is c.lift-in-Tags.ensures.exact

pub returns-in-Tags-clause-within : goal.returns-in-Tags-clause-within
returns-in-Tags-clause-within c = rw c.in-Tags.is c.lift-in-Tags.ensures.within

pub returns-in-GuardsCover-clause-exact : goal.returns-in-GuardsCover-clause-exact
returns-in-GuardsCover-clause-exact c = rw c.in-GuardsCover.is c.lift-in-GuardsCover.ensures.exact

pub returns-in-GuardsCover-clause-within : goal.returns-in-GuardsCover-clause-within
returns-in-GuardsCover-clause-within c = rw c.in-GuardsCover.is c.lift-in-GuardsCover.ensures.within

pub returns-in-TagsCover-clause-exact : goal.returns-in-TagsCover-clause-exact
returns-in-TagsCover-clause-exact c = rw c.in-TagsCover.is c.lift-in-TagsCover.ensures.exact

pub returns-in-TagsCover-clause-within : goal.returns-in-TagsCover-clause-within
returns-in-TagsCover-clause-within c = rw c.in-TagsCover.is c.lift-in-TagsCover.ensures.within

pub returns-in-Args-clause-exact : goal.returns-in-Args-clause-exact
returns-in-Args-clause-exact c = rw c.in-Args.is c.lift-in-Args.ensures.exact

pub returns-in-Args-clause-within : goal.returns-in-Args-clause-within
returns-in-Args-clause-within c = rw c.in-Args.is c.lift-in-Args.ensures.within

pub returns-in-Erase-clause-exact : goal.returns-in-Erase-clause-exact
returns-in-Erase-clause-exact c = rw c.in-Erase.is c.lift-in-Erase.ensures.exact

pub returns-in-Erase-clause-within : goal.returns-in-Erase-clause-within
returns-in-Erase-clause-within c = rw c.in-Erase.is c.lift-in-Erase.ensures.within

pub returns-in-GuardsLight-clause-exact : goal.returns-in-GuardsLight-clause-exact
returns-in-GuardsLight-clause-exact c = rw c.in-GuardsLight.is c.lift-in-GuardsLight.ensures.exact

pub returns-in-GuardsLight-clause-within : goal.returns-in-GuardsLight-clause-within
returns-in-GuardsLight-clause-within c = rw c.in-GuardsLight.is c.lift-in-GuardsLight.ensures.within

pub returns-in-TagsLight-clause-exact : goal.returns-in-TagsLight-clause-exact
returns-in-TagsLight-clause-exact c = rw c.in-TagsLight.is c.lift-in-TagsLight.ensures.exact

pub returns-in-TagsLight-clause-within : goal.returns-in-TagsLight-clause-within
returns-in-TagsLight-clause-within c = rw c.in-TagsLight.is c.lift-in-TagsLight.ensures.within

pub returns-in-GuardsFeather-clause-exact : goal.returns-in-GuardsFeather-clause-exact
returns-in-GuardsFeather-clause-exact c =
    rw c.in-GuardsFeather.is c.lift-in-GuardsFeather.ensures.exact

pub returns-in-GuardsFeather-clause-within : goal.returns-in-GuardsFeather-clause-within
returns-in-GuardsFeather-clause-within c =
    rw c.in-GuardsFeather.is c.lift-in-GuardsFeather.ensures.within

pub returns-in-TagsFeather-clause-exact : goal.returns-in-TagsFeather-clause-exact
returns-in-TagsFeather-clause-exact c = rw c.in-TagsFeather.is c.lift-in-TagsFeather.ensures.exact

pub returns-in-TagsFeather-clause-within : goal.returns-in-TagsFeather-clause-within
returns-in-TagsFeather-clause-within c = rw c.in-TagsFeather.is c.lift-in-TagsFeather.ensures.within
