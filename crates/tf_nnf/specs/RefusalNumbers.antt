-- The number under which each refusal is noted. Want of memory has none.
use Rattle.std.specs.Prelude.{ℕ, Option, Some, None}
use Rattle.tf_nnf.specs.declared.error.NormalError.{NormalError}
use Rattle.tf_nnf.specs.declared.error.NormalError.TheVariants as refusal

abbrev pub number_of : NormalError → Option ℕ
number_of (refusal.TooLarge nodes) = Some 22
number_of refusal.Memory = None
