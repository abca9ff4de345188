-- A table over the collapsed domain: at each tuple of numbers it has the entry of another table at
-- the collapsed tuple.
use Rattle.std.specs.Prelude.{ℕ, List, map, length, replicate, slice_index}
use Rattle.enc_base.specs.Tables.{place, table}
use Rattle.tf_collapse.specs.Domain.{CollapsedDomain, collapse_each}

-- the sizes of members
abbrev pub sizes_in : CollapsedDomain → List ℕ → List ℕ
sizes_in d members = map (slice_index d.sizes) members

-- What a table gives for numbers. It has an entry for each tuple of elements of these members.
abbrev pub collapsed_entry : CollapsedDomain → List ℕ → List ℕ → List ℕ → ℕ
collapsed_entry d members entries values =
    slice_index entries (place (sizes_in d members) (collapse_each (sizes_in d members) values))

-- the table of all that it gives
abbrev pub pulled_back : CollapsedDomain → List ℕ → List ℕ → List ℕ
pulled_back d members entries =
    table (replicate (length members) d.big) (collapsed_entry d members entries)
