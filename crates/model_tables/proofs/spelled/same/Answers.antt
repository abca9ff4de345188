use Rattle.std.proofs.Common.{◌∙◌}
use Rattle.model_tables.proofs.SameTexts.{pointwise-same}
use Rattle.model_tables.proofs.spelled.same.Goals as goal

pub returns : goal.returns
returns c = c.eq.ensures ∙ pointwise-same c.args.a.now c.args.b.now
