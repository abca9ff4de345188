-- How calls end that write an output.
use Rattle.std.proofs.Common.{ℕ, List, Option, Some, None, refl}
use Rattle.std.specs.Io.KnownBytes.{Keeps}
use Rattle.enc_pipeline.specs.declared.fault.Fault.{Fault}
use Rattle.enc_pipeline.specs.declared.fault.Fault.TheVariants.{Write, Memory}
use Rattle.enc_pipeline.specs.Stopped.{IsStopped, UnlessMemory}

pub kept : (bytes : Option (List ℕ)) → Keeps bytes bytes
kept None = tt
kept (Some bytes) = refl

-- before the first write nothing is written, and the fault is none of a write
pub stopped_before : (Refuses : Fault → Type 0) (Writes : List ℕ → Type 0)
    (bytes : Option (List ℕ)) (faults : ℕ) (reason : Fault) → (Refuses Write → ⊥) →
    UnlessMemory Refuses reason →
    IsStopped Refuses Writes bytes bytes faults faults reason
stopped_before Refuses Writes bytes faults Write none why = absurd (none (why (λ same. cc)))
stopped_before Refuses Writes bytes faults Memory none why = (kept bytes, refl)
stopped_before Refuses Writes bytes faults reason none why = (why (λ same. cc), kept bytes, refl)
