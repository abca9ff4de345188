use Rattle.std.proofs.Common.{◌≡◌, map, take}
use Rattle.tf_models.specs.Reading.{tables}
use Rattle.tf_models.specs.Fit.{parameters_at}
use Rattle.tf_models.specs.Evaluation.{member_in}
use Rattle.enc_models.proofs.blocks.members_of_arguments.Given as goal

abbrev pub invariant-loop-ty : goal.invariant-loop-ty
invariant-loop-ty l =
    l.members
    ≡ map (member_in l.model (parameters_at (tables l.model) l.symbol l.number))
    (take l.ty-index l.symbol.arguments)
