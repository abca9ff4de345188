use Rattle.std.proofs.Common.{◌≡◌, drop, filter, not, eqb}
use Rattle.enc_marks.proofs.polymorphic.first_with_variable.Given as goal

abbrev pub invariant-loop-formula : goal.invariant-loop-formula
invariant-loop-formula l =
    filter (λ formula. not (eqb formula.type_variables 0)) (drop l.formula-index l.formulas)
    ≡ filter (λ formula. not (eqb formula.type_variables 0)) l.formulas
