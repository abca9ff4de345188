-- Words of private contracts: when a table has an entry for numbers.
use Rattle.std.specs.Prelude.{ℕ, ◌≤◌, ◌≡◌, List, length, replicate}
use Rattle.enc_base.specs.Tables.{EachBelow, tuple_count}
use Rattle.tf_collapse.specs.Domain.{CollapsedDomain}
use Rattle.tf_collapse.specs.PulledBack.{sizes_in}

-- so many members, numbers, and an entry for each tuple of elements
pub record IsPulling (d : CollapsedDomain) (ms table numbers : List ℕ) : Type 0 where
  pub members : EachBelow (replicate (length ms) (length d.sizes)) ms
  pub values : length numbers ≡ length ms
  pub entries : tuple_count (sizes_in d ms) ≤ length table
