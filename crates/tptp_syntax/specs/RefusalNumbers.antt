-- The number under which each refusal is noted. Want of memory has none.
use Rattle.std.specs.Prelude.{ℕ, Option, Some, None}
use Rattle.tptp_syntax.specs.declared.error.ReadError.{ReadError}
use Rattle.tptp_syntax.specs.declared.error.ReadError.TheVariants as refusal

abbrev pub number_of : ReadError → Option ℕ
number_of (refusal.BadByte at) = Some 1
number_of (refusal.Unclosed at) = Some 2
number_of (refusal.Syntax at) = Some 3
number_of (refusal.TooDeep at) = Some 4
number_of (refusal.Language at) = Some 5
number_of (refusal.Role at) = Some 6
number_of (refusal.Number at) = Some 7
number_of (refusal.DistinctObject at) = Some 8
number_of (refusal.Include at) = Some 9
number_of (refusal.TooLong length) = Some 10
number_of refusal.Memory = None
