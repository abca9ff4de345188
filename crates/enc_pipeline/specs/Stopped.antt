-- How a call that writes an output ends without having done so.
use Rattle.std.specs.Prelude.{ℕ, ◌≡◌, ◌≢◌, List, Option}
use Rattle.std.specs.Io.KnownBytes.{Keeps}
use Rattle.enc_base.specs.Counts.{Rose}
use Rattle.enc_base.specs.Sink.{AppendsPrefix}
use Rattle.enc_pipeline.specs.declared.fault.Fault.{Fault}
use Rattle.enc_pipeline.specs.declared.fault.Fault.TheVariants.{Write, Memory}

-- A write failed: the sink's count of faults rose, and a prefix of an output that is to be written
-- stands there. Or there was no memory, or the input is refused, and the sink is as it was.
abbrev pub IsStopped : (Refuses : Fault → Type 0) (Writes : List ℕ → Type 0)
    (before after : Option (List ℕ)) (was now : ℕ) → Fault → Type 0
IsStopped Refuses Writes before after was now Write =
    Rose was now × ((output : List ℕ) × Writes output × AppendsPrefix before after output)
IsStopped Refuses Writes before after was now Memory = Keeps before after × (now ≡ was)
IsStopped Refuses Writes before after was now fault =
    Refuses fault × Keeps before after × (now ≡ was)

-- the cause of a fault that isn't want of memory
abbrev pub UnlessMemory : (Fault → Type 0) → Fault → Type 0
UnlessMemory Refuses fault = fault ≢ Memory → Refuses fault
