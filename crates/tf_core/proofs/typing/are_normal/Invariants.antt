use Rattle.std.proofs.Common.{◌≡◌, [], take, true}
use Rattle.std.specs.List.{list_all}
use Rattle.tf_core.specs.TypingTests.{is_nnf}
use Rattle.tf_core.proofs.typing.are_normal.Given as goal

abbrev pub invariant-loop-formula : goal.invariant-loop-formula
invariant-loop-formula l =
    record {
      empty : l.context ≡ [];
      typed : list_all (λ formula. is_nnf l.signature formula.type_variables formula.body [])
          (take l.formula-index l.formulas) ≡ true;
    }
