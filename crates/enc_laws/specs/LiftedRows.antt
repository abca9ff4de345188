-- Worked rows: what is lifted by sort over a problem with sorts a and b and constants c and d of b.
-- The sorts are b, then a. All marked symbols have numbers: c and d, then `$i`, a and b, then the
-- mark of b and that of a.
use Rattle.std.specs.Prelude.{ℕ, List, [], ◌∷◌, cond, eqb}
use Rattle.tf_core.specs.declared.normal.Normal.{Normal}
use Rattle.tf_core.specs.Structures.{Typed}
use Rattle.fof_models.specs.Structures.{Untyped}
use Rattle.enc_marks.specs.Choices.{Choices}
use Rattle.enc_marks.specs.Encoded.{all_numbers}
use Rattle.enc_laws.specs.Lifted.{lifted, lift_by_sort}
use Rattle.enc_laws.specs.Present.{all_present}

abbrev pub lifted_sorts : Choices → Normal → Untyped → Typed
lifted_sorts c normal j =
    lifted c (all_numbers normal) normal.signature all_present j
    (lift_by_sort c normal (all_numbers normal) j)

-- two numbers, of which c is 0 and d is 1
abbrev pub two_apart : Untyped
two_apart = record { size = 2; symbol_at = λ m values. cond (eqb m 1) 1 0 }

-- the guard of a holds of the number 2 alone
abbrev pub holds_of_two : List ℕ → ℕ
holds_of_two [] = 0
holds_of_two (v ∷ values) = cond (eqb v 2) 1 0

-- three numbers, of which c is 0, d is 1 and 2 alone is guarded as one of a
abbrev pub third_guarded : Untyped
third_guarded = record {
  size = 3;
  symbol_at = λ m values. cond (eqb m 6) (holds_of_two values) (cond (eqb m 1) 1 0);
}
