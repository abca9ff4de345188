-- The number under which each refusal is noted. Want of memory has none.
use Rattle.std.specs.Prelude.{ℕ, Option, Some, None}
use Rattle.tf_check.specs.declared.error.TypeError.{TypeError}
use Rattle.tf_check.specs.declared.error.TypeError.TheVariants as refusal

abbrev pub number_of : TypeError → Option ℕ
number_of (refusal.Redeclared entry name) = Some 11
number_of (refusal.BadDeclaration entry) = Some 12
number_of (refusal.UnknownType entry name) = Some 13
number_of (refusal.FreeVariable entry name) = Some 14
number_of (refusal.Arity entry name expected found) = Some 15
number_of (refusal.Mismatch entry expected found) = Some 16
number_of (refusal.NotATerm entry name) = Some 17
number_of (refusal.NotAFormula entry name) = Some 18
number_of (refusal.TypeQuantifier entry) = Some 19
number_of (refusal.SecondConjecture entry) = Some 20
number_of (refusal.TooManySymbols count) = Some 21
number_of refusal.Memory = None
