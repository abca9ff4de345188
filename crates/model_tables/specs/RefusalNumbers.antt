-- The number under which each refusal is noted. Want of memory has none.
use Rattle.std.specs.Prelude.{ℕ, Option, Some, None}
use Rattle.model_tables.specs.declared.error.TableError.{TableError}
use Rattle.model_tables.specs.declared.error.TableError.TheVariants as refusal

abbrev pub number_of : TableError → Option ℕ
number_of (refusal.TableSyntax at) = Some 41
number_of (refusal.UnknownSymbol name) = Some 42
number_of (refusal.Missing name) = Some 43
number_of (refusal.Repeated name) = Some 44
number_of (refusal.WrongLength name expected found) = Some 45
number_of (refusal.OutOfRange name value) = Some 46
number_of (refusal.TooLarge entries) = Some 33
number_of refusal.Memory = None
