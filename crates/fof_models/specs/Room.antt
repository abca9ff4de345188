-- A list in a room: its items, and how many it may have.
use Rattle.std.specs.Prelude.{ℕ, List}

pub record Room : Type 0 where
  pub items : List ℕ
  pub room : ℕ
