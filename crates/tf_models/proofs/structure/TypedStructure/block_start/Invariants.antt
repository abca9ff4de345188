use Rattle.std.proofs.Common.{◌≡◌}
use Rattle.enc_base.specs.Tables.{sum_below}
use Rattle.tf_models.specs.Reading.{tables}
use Rattle.tf_models.specs.Fit.{length_at}
use Rattle.tf_models.proofs.structure.TypedStructure.block_start.Given as goal

abbrev pub invariant-loop-earlier : goal.invariant-loop-earlier
invariant-loop-earlier l = l.start ≡ sum_below l.earlier (length_at (tables l.self) l.symbol)
