-- When there is no problem of instances, and no restricted structure.
use Rattle.std.specs.Prelude.{ℕ, ◌<◌, ◌≤◌, ◌≡◌, ◌+◌, List, length}
use Rattle.enc_base.specs.Counts.{in_64_bits, most_entries}
use Rattle.tf_core.specs.declared.normal.Normal.{Normal}
use Rattle.tf_core.specs.declared.signature.Signature.{Signature}
use Rattle.tf_core.specs.TypedTables.{TypedTables}
use Rattle.enc_mono.specs.declared.error.MonoError.{MonoError}
use Rattle.enc_mono.specs.declared.error.MonoError.TheVariants as mono
use Rattle.enc_mono.specs.declared.error.RestrictError.{RestrictError}
use Rattle.enc_mono.specs.declared.error.RestrictError.TheVariants as unrestricted
use Rattle.enc_mono.specs.declared.instances.Origin.{Origin}
use Rattle.enc_mono.specs.Monomorphised.{IsMonomorphised}
use Rattle.enc_mono.specs.MoreInstances.{HasMoreThan}
use Rattle.enc_mono.specs.Counts.{instance_nodes, most_instance_nodes}
use Rattle.enc_mono.specs.Restricted.{restricted_tables, entry_count}

-- the problem of instances has no more formulas than the cap, and too many nodes: so many
pub record HasTooManyNodes (normal : Normal) (rounds cap nodes : ℕ) : Type 0 where
  pub made : Normal
  pub origins : List Origin
  pub is : IsMonomorphised normal rounds made origins
  pub within : length made.formulas ≤ cap
  pub too_many : most_instance_nodes < instance_nodes made
  pub nodes_are : nodes ≡ in_64_bits (instance_nodes made)

-- The problem of instances has more formulas than the cap, and the refusal carries one more than
-- the cap. Or it hasn't, but too many nodes, and the refusal carries how many. Or there was no
-- memory.
abbrev pub IsUninstantiated : Normal → ℕ → ℕ → MonoError → Type 0
IsUninstantiated normal rounds cap (mono.TooManyInstances count) =
    HasMoreThan normal rounds cap × (count ≡ cap + 1)
IsUninstantiated normal rounds cap (mono.TooManyNodes nodes) =
    HasTooManyNodes normal rounds cap nodes
IsUninstantiated normal rounds cap mono.Memory = Unit {0}

-- The restricted structure has too many entries, and the refusal carries how many. Or it hasn't,
-- and
-- there was no memory.
abbrev pub IsUnrestricted : Signature → List Origin → TypedTables → RestrictError → Type 0
IsUnrestricted g origins t (unrestricted.TableTooLarge entries) =
    (most_entries < entry_count (restricted_tables g origins t))
    × (entries ≡ in_64_bits (entry_count (restricted_tables g origins t)))
IsUnrestricted g origins t unrestricted.Memory =
    entry_count (restricted_tables g origins t) ≤ most_entries
