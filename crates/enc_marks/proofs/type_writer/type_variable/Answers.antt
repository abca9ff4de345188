use Rattle.std.proofs.Common.{◌≡◌, ◌-◌, ◌+◌, ap, arith}
use Rattle.fof_models.specs.declared.formula.FofTerm.TheVariants.{Var}
use Rattle.enc_marks.proofs.type_writer.type_variable.Goals as goal

pub returns : goal.returns
returns c =
    let index : c.saturating_sub-2.result ≡ c.args.depth - (c.args.i + 1) =
    omega arith in ap Var index
