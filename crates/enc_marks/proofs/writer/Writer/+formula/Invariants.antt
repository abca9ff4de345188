use Rattle.std.proofs.Common.{◌≡◌, ◌++◌, List, drop, map, take}
use Rattle.tf_core.specs.Sorts.{joined}
use Rattle.tf_naked.specs.declared.binder.Binder.{Binder}
use Rattle.tf_naked.specs.Binders.{universal_binders}
use Rattle.enc_marks.specs.Calls.Writing.{formula_in}
use Rattle.enc_marks.proofs.writer.Writer.+formula.Given as goal

abbrev pub invariant-formulas-loop-part : goal.invariant-formulas-loop-part
invariant-formulas-loop-part g l =
    let choices = g.C.Choices.choices l.self.choices.now in
    let normal = l.self.types.normal.now in
    (l.scope.kinds ≡ l.initial.scope.kinds)
    × ((rest : List Binder) →
    l.initial.scope.ahead.now ≡ joined (map (universal_binders normal.signature) l.parts) ++ rest →
    (l.scope.ahead.now
    ≡ joined (map (universal_binders normal.signature) (drop l.part-index l.parts)) ++ rest)
    × (l.made ≡ map (formula_in choices normal l.depth l.initial.scope.kinds) (take l.part-index
    l.parts)))
