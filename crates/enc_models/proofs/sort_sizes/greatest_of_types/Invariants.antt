use Rattle.std.proofs.Common.{◌≡◌, take}
use Rattle.enc_models.specs.Calls.SortSizes.{greatest_size}
use Rattle.enc_models.proofs.sort_sizes.greatest_of_types.Given as goal

abbrev pub invariant-loop-ty : goal.invariant-loop-ty
invariant-loop-ty l = l.found ≡ greatest_size l.model (take l.ty-index l.types)
