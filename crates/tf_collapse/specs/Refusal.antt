-- When a table is not pulled back.
use Rattle.std.specs.Prelude.{ℕ, ◌<◌, ◌≤◌, ◌≡◌, replicate}
use Rattle.enc_base.specs.Counts.{in_64_bits, most_entries}
use Rattle.enc_base.specs.Tables.{tuple_count}
use Rattle.tf_collapse.specs.Domain.{CollapsedDomain}
use Rattle.tf_collapse.specs.declared.error.PullError.{PullError}
use Rattle.tf_collapse.specs.declared.error.PullError.TheVariants.{TooLarge, Memory}

-- how many entries it has, for so many arguments
abbrev pub entry_count : CollapsedDomain → ℕ → ℕ
entry_count d arguments = tuple_count (replicate arguments d.big)

-- It would have too many entries, and the refusal carries how many. Or it wouldn't, and there was
-- no memory.
abbrev pub IsRefused : CollapsedDomain → ℕ → PullError → Type 0
IsRefused d arguments (TooLarge entries) =
    (most_entries < entry_count d arguments) × (entries ≡ in_64_bits (entry_count d arguments))
IsRefused d arguments Memory = entry_count d arguments ≤ most_entries
