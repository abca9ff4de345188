use Rattle.std.proofs.Common.{take}
use Rattle.tf_naked.specs.Calls.Listing.{Lists}
use Rattle.tf_naked.proofs.listing.+list_type.Given as goal

abbrev pub invariant-list_types-loop-ty : goal.invariant-list_types-loop-ty
invariant-list_types-loop-ty l = Lists l.initial.listing l.listing (take l.ty-index l.types)
