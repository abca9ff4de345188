use Rattle.std.proofs.Common.{◌∙◌, rules}
use Rattle.tf_models.specs.Reading.{tables}
use Rattle.tf_nnf.proofs.Extended.{gives_model}
use Rattle.tf_nnf.proofs.carry.from_normal.Goals as goal

pub returns-clause-model : goal.returns-clause-model
returns-clause-model c =
    let exact = c.from_vec.ensures ∙ c.truncate.ensures.items in
    gives_model c.args.normal.now (tables c.args.structure) _ (search (rules, exact))
