use Rattle.std.proofs.Common.{◌≡◌, ℕ, take, nat_eq, position}
use Rattle.std.specs.HashMap as hash
use Rattle.enc_marks.specs.Marks.{is_constructor}
use Rattle.enc_marks.proofs.types.constructor_numbers.Given as goal

abbrev pub invariant-loop-i : goal.invariant-loop-i
invariant-loop-i l =
    (c : ℕ) → hash.get nat_eq l.numbers c ≡ position (is_constructor c) (take l.i l.marks)
