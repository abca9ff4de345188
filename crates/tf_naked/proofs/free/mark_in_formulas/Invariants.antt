use Rattle.std.proofs.Common.{[], map, take}
use Rattle.tf_core.specs.Sorts.{joined}
use Rattle.tf_naked.specs.Naked.{equations_of}
use Rattle.tf_naked.specs.Calls.Sets.{Adds}
use Rattle.tf_naked.specs.Calls.NakedTypes.{naked_types}
use Rattle.tf_naked.proofs.free.mark_in_formulas.Given as goal

abbrev pub invariant-loop-formula : goal.invariant-loop-formula
invariant-loop-formula l =
    Adds l.initial.set l.set
    (joined (map (λ formula. naked_types (equations_of formula.body []))
    (take l.formula-index l.formulas)))
