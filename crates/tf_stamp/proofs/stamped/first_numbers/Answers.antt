use Rattle.std.proofs.Common.{ℕ, suc, ◌+◌, ◌≡◌, ap, sym, ◌∙◌, List, ◌++◌, ◌∷◌, [], arith}
use Rattle.std.specs.List.{range_with_len}
use Rattle.tf_stamp.proofs.Filling.{range_with_len-next}
use Rattle.tf_stamp.proofs.stamped.first_numbers.Goals as goal

pub loop-number-preserved : goal.loop-number-preserved
loop-number-preserved c =
    let next : suc c.loop-number.number ≡ c.loop-number.number + 1 = omega arith in
    let at : c.loop-number.number ≡ 0 + c.loop-number.number = omega arith in
    c.in_ok-push.ensures.ok
    ∙ ap (λ (xs : List ℕ). xs ++ c.loop-number.number ∷ []) c.loop-number.invariant
    ∙ ap (λ n. range_with_len 0 c.loop-number.number ++ n ∷ []) at
    ∙ sym (range_with_len-next 0 c.loop-number.number)
    ∙ ap (range_with_len 0) next
