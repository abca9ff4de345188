use Rattle.std.proofs.Common.{◌≡◌, ◌^◌, take, true}
use Rattle.std.specs.List.{list_all}
use Rattle.tf_core.specs.Substitution.{shift, variables_below}
use Rattle.tfenc_cases.proofs.bounds.+is_below.Given as goal

abbrev pub invariant-all_below-loop-term : goal.invariant-all_below-loop-term
invariant-all_below-loop-term l =
    list_all (λ t. variables_below (2 ^ 32) (shift l.by l.from t)) (take l.term-index l.terms) ≡ true
