-- Why a problem can't be read or prepared. Want of memory may come anywhere.
use Rattle.std.specs.Prelude.{ℕ, ◌<◌, ◌≤◌, ◌≡◌, ◌≢◌, List, ◌∷◌, Ok, Err}
use Rattle.enc_base.specs.Counts.{in_64_bits}
use Rattle.tptp_syntax.specs.declared.entry.File.{File}
use Rattle.tptp_syntax.specs.declared.error.ReadError.TheVariants as reading
use Rattle.tptp_syntax.specs.Files.{Verdict}
use Rattle.tf_check.specs.declared.error.TypeError.{TypeError}
use Rattle.tf_check.specs.declared.error.TypeError.TheVariants as typing
use Rattle.tf_check.specs.Faults.{faults}
use Rattle.tf_core.specs.declared.problem.Problem.{Problem}
use Rattle.tf_nnf.specs.Nodes.{normal_nodes}
use Rattle.tf_nnf.specs.NormalForm.{normal_of}
use Rattle.tf_nnf.specs.Refusal.{most_nodes}
use Rattle.enc_marks.specs.declared.refusal.Refusal.{Refusal}
use Rattle.enc_marks.specs.declared.refusal.Refusal.TheVariants as refusal
use Rattle.enc_marks.specs.Applies.{IsRefused}
use Rattle.enc_pipeline.specs.declared.how.How.{How}
use Rattle.enc_pipeline.specs.declared.fault.Fault.{Fault}
use Rattle.enc_pipeline.specs.declared.fault.Fault.TheVariants.{Reading, Typing, TooLarge, Scheme}
use Rattle.enc_pipeline.specs.declared.fault.Fault.TheVariants.{Memory}

-- the fault is the first of a file
abbrev pub IsFirstFault : File → TypeError → Type 0
IsFirstFault file reason = (more : List TypeError) × (faults file ≡ reason ∷ more)

-- why a text has no problem: it is no file within the limits, or the file isn't well typed; want of
-- memory never stands inside a reason
abbrev pub IsUnreadable : List ℕ → Fault → Type 0
IsUnreadable text (Reading reason) = (reason ≢ reading.Memory) × Verdict text (Err reason)
IsUnreadable text (Typing reason) =
    (reason ≢ typing.Memory)
    × ((file : File) × Verdict text (Ok file) × IsFirstFault file reason)
IsUnreadable text Memory = Unit {0}
IsUnreadable text _ = ⊥

-- how many nodes the normal problem of a problem has
abbrev pub nodes_of : Problem → ℕ
nodes_of problem = normal_nodes (normal_of problem)

-- a scheme's refusal of a problem, which is no want of memory and speaks of no structure
abbrev pub IsSchemeRefusal : Refusal → Type 0
IsSchemeRefusal (refusal.NotMonomorphic name) = Unit {0}
IsSchemeRefusal (refusal.NotMonotone place) = Unit {0}
IsSchemeRefusal (refusal.TableTooLarge entries) = ⊥
IsSchemeRefusal refusal.Memory = ⊥

-- why a problem can't be encoded in a way: its normal problem has too many nodes, or else the
-- scheme doesn't apply
abbrev pub IsUnprepared : Problem → How → Fault → Type 0
IsUnprepared problem how (TooLarge nodes) =
    (most_nodes < nodes_of problem) × (nodes ≡ in_64_bits (nodes_of problem))
IsUnprepared problem how (Scheme reason) =
    (nodes_of problem ≤ most_nodes) × IsSchemeRefusal reason
    × IsRefused how.scheme (normal_of problem) reason
IsUnprepared problem how Memory = Unit {0}
IsUnprepared problem how _ = ⊥
