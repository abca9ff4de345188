-- How a merged domain is kept: where the stamps of each member begin, and each number's member.
use Rattle.std.specs.Prelude.{ℕ, ◌-◌, ◌<◌, ◌≤◌, ◌≡◌, List, [], ◌∷◌, length, get_or, slice_index}
use Rattle.enc_base.specs.Counts.{most_entries}
use Rattle.tf_stamp.specs.Merged.{merged_size, stamp, member_in}

-- the sizes of parts that begin at these places, the last up to an end
abbrev pub sizes_between : List ℕ → ℕ → List ℕ
sizes_between [] end = []
sizes_between (start ∷ starts) end = (get_or starts 0 end - start) ∷ sizes_between starts end

-- the merged domain of members of these sizes is kept so
pub record IsKept (sizes starts members : List ℕ) : Type 0 where
  pub start : (m : ℕ) → m < length sizes → slice_index starts m ≡ stamp sizes m 0
  pub member : (v : ℕ) → v < merged_size sizes → slice_index members v ≡ member_in sizes v
  pub start_count : length starts ≡ length sizes
  pub count : length members ≡ merged_size sizes
  pub within : merged_size sizes ≤ most_entries
