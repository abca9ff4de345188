use Rattle.std.proofs.Common.{sym, ap, ◌∙◌}
use Rattle.std.specs.Prelude.{eqb}
use Rattle.tf_naked.specs.Calls.Noted.{noted, uses_of_variable}
use Rattle.tf_naked.proofs.Reversed.{reverse-noted, reverse-not_noted}
use Rattle.tf_naked.proofs.around.Around.note.Goals as goal

pub returns-then-i-count : goal.returns-then-i-count
returns-then-i-count c =
    reverse-noted c.self.inside.binders.items c.len-count.result c.args.i c.args.position
    c.index-binder.result.now c.noted.result
    (c.len-count.ensures ∙ c.self.inside.binders.ok.0) c.if-i-count.true
    c.index-binder.ensures c.noted.ensures
    ∙ ap (noted (λ j. uses_of_variable c.args.position (eqb c.args.i j))) c.self.view_is

pub returns-else-i-count : goal.returns-else-i-count
returns-else-i-count c =
    sym c.self.view_is ∙
    reverse-not_noted c.self.inside.binders.items c.len-count.result c.args.i c.args.position
    (c.len-count.ensures ∙ c.self.inside.binders.ok.0) c.if-i-count.false
    ∙ ap (noted (λ j. uses_of_variable c.args.position (eqb c.args.i j))) c.self.view_is
