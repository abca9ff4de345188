use Rattle.std.proofs.Common.{◌≡◌, false, drop, map}
use Rattle.tf_naked.specs.Covers.{parameter_of}
use Rattle.tf_naked.specs.Calls.Flags.{all_flagged}
use Rattle.tf_naked.proofs.cover.kept_of_symbol.Given as goal

abbrev pub invariant-loop-ty : goal.invariant-loop-ty
invariant-loop-ty l =
    all_flagged false l.kept.items (map parameter_of (drop l.ty-index l.ty-items))
    ≡ all_flagged false l.initial.kept.items (map parameter_of l.ty-items)
