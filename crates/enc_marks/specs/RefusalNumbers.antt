-- The number under which each refusal is noted. Want of memory has none.
use Rattle.std.specs.Prelude.{ℕ, Option, Some, None}
use Rattle.enc_marks.specs.declared.refusal.Refusal.{Refusal}
use Rattle.enc_marks.specs.declared.refusal.Refusal.TheVariants as refusal

abbrev pub number_of : Refusal → Option ℕ
number_of (refusal.NotMonomorphic name) = Some 31
number_of (refusal.NotMonotone place) = Some 32
number_of (refusal.TableTooLarge entries) = Some 33
number_of refusal.Memory = None
