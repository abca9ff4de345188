use Rattle.std.proofs.Common.{◌≡◌, take, true}
use Rattle.std.specs.List.{list_all}
use Rattle.tf_core.specs.TypingTests.{is_formula}
use Rattle.tf_core.proofs.formula_typing.+typed_formula.Given as goal

abbrev pub invariant-all_typed-loop-part : goal.invariant-all_typed-loop-part
invariant-all_typed-loop-part l =
    record {
      kept : l.context ≡ l.initial.context;
      typed : list_all (λ part. is_formula l.scope.signature.now l.scope.variables part l.context)
          (take l.part-index l.parts) ≡ true;
    }
