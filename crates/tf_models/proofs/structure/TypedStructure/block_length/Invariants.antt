use Rattle.std.proofs.Common.{◌≡◌, take}
use Rattle.enc_base.specs.Tables.{tuple_count}
use Rattle.enc_base.specs.Counts.{in_64_bits}
use Rattle.tf_models.specs.Reading.{tables}
use Rattle.tf_models.specs.Fit.{bounds_at}
use Rattle.tf_models.proofs.structure.TypedStructure.block_length.Given as goal

abbrev pub invariant-loop-ty : goal.invariant-loop-ty
invariant-loop-ty l =
    l.length
    ≡ in_64_bits
    (tuple_count
    (take l.ty-index (bounds_at (tables l.self) l.symbol l.number)))
