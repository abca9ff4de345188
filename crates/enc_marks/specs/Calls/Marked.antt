-- For private calls: lists of marked symbols, kept as a list of symbols and one of marks.
use Rattle.std.specs.Prelude.{◌≡◌, List, ◌++◌, map}
use Rattle.enc_marks.specs.declared.marked.Marked.{Marked}
use Rattle.enc_marks.specs.Encoded.{MarkedSymbol}

-- these are the marked symbols, in order
pub record Holds (marked : Marked) (list : List MarkedSymbol) : Type 0 where
  pub symbols : marked.symbols ≡ map (λ one. one.symbol) list
  pub marks : marked.marks ≡ map (λ one. one.mark) list

-- so many marked symbols more
pub record MarksAdded (before after : Marked) (list : List MarkedSymbol) : Type 0 where
  pub symbols : after.symbols ≡ before.symbols ++ map (λ one. one.symbol) list
  pub marks : after.marks ≡ before.marks ++ map (λ one. one.mark) list
