-- A reader that refuses nothing fails for want of memory alone.
use Rattle.std.proofs.Common.{◌≡◌, Result, Ok, Err, IfErr, refl}
use Rattle.std.specs.Prelude.{◌≢◌}
use Rattle.model_tables.specs.declared.error.TableError.{TableError}
use Rattle.model_tables.specs.declared.error.TableError.TheVariants as e

is_memory : (fault : TableError) → (fault ≢ e.Memory → ⊥) → fault ≡ e.Memory
is_memory (e.TableSyntax at) none = absurd (none (λ same. cc))
is_memory (e.UnknownSymbol name) none = absurd (none (λ same. cc))
is_memory (e.Missing name) none = absurd (none (λ same. cc))
is_memory (e.Repeated name) none = absurd (none (λ same. cc))
is_memory (e.WrongLength name expected found) none = absurd (none (λ same. cc))
is_memory (e.OutOfRange name value) none = absurd (none (λ same. cc))
is_memory (e.TooLarge entries) none = absurd (none (λ same. cc))
is_memory e.Memory none = refl

pub memory_alone : {A : Type 0} (result : Result A TableError) (Refused : TableError → Type 0)
    → IfErr result (λ fault. fault ≢ e.Memory → Refused fault)
    → ((fault : TableError) → Refused fault → ⊥) → IfErr result (λ fault. fault ≡ e.Memory)
memory_alone (Ok read) Refused refused none = tt
memory_alone (Err fault) Refused refused none =
    is_memory fault (λ other. none fault (refused other))
