-- When a structure has no merged domain.
use Rattle.std.specs.Prelude.{ℕ, ◌<◌, ◌≤◌, ◌≡◌, List}
use Rattle.enc_base.specs.Counts.{most_entries}
use Rattle.tf_stamp.specs.declared.error.StampError.{StampError}
use Rattle.tf_stamp.specs.declared.error.StampError.TheVariants.{TooLarge, Memory}
use Rattle.tf_stamp.specs.Merged.{merged_size}

-- The merged domain of members of these sizes has too many numbers, and the refusal carries how
-- many. Or it hasn't, and there was no memory.
abbrev pub IsRefused : List ℕ → StampError → Type 0
IsRefused sizes (TooLarge entries) =
    (most_entries < merged_size sizes) × (entries ≡ merged_size sizes)
IsRefused sizes Memory = merged_size sizes ≤ most_entries
