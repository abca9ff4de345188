use Rattle.std.proofs.Common.{◌≡◌, ◌<◌, map, sym, ap, ◌∙◌, refl}
use Rattle.tf_core.specs.Types.{instantiate}
use Rattle.tf_types.specs.Instances.{arguments_of}
use Rattle.tf_types.specs.Numbers.{AreNumbers, type_at}
use Rattle.tf_check.specs.Bound.{SymbolTypes, numbers_in}
use Rattle.tf_check.proofs.NumberLemmas.{arguments_of-denoted, numbers_below}
use Rattle.tf_check.proofs.numbers.arguments_at.Goals as goal

pub returns-clause-exact : goal.returns-clause-exact
returns-clause-exact c =
    let types = c.instance.new.self.types in
    rw c.node_arguments.ensures
    (arguments_of-denoted types c.in_ok-node.node
    ∙ ap arguments_of (c.in_ok-node.ensures.denoted ∙ c.in_ok-instance.ensures.exact
    ∙ ap (λ (s : SymbolTypes). instantiate (map (type_at c.args.scope.now.types) c.args.types.now) s.arguments)
    c.symbol.ensures.types))

pub returns-clause-numbers : goal.returns-clause-numbers
returns-clause-numbers c =
    rw c.node_arguments.ensures
    (numbers_below c.instance.new.self.types c.in_ok-instance.instance.index c.in_ok-node.node
    c.in_ok-instance.ensures.number c.in_ok-node.ensures.below)
