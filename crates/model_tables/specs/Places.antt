-- The places of a text at which a table may be at fault.
use Rattle.std.specs.Prelude.{List, ◌∷◌}
use Rattle.std.specs.Prelude.{ℕ}
use Rattle.tptp_words.specs.Text.{Token}
use Rattle.model_tables.specs.declared.form.Form.{Form}
use Rattle.model_tables.specs.declared.form.Kind.{Kind}
use Rattle.model_tables.specs.Grammar.{Item, Table, opening, closed_opening, heading, item, table}

-- Where a fault may stand, with what stands before it: at a number of the sizes, at the full stop
-- behind them, at the name of an item, and at the full stop of an item.
pub data Place : Type 0 where
  AtSize : List ℕ → Place
  AtSizesEnd : List ℕ → Place
  AtName : Table → Kind → List ℕ → Place
  AtItemEnd : Table → Item → Place

-- The words from ws up to rest end at the place: its word is the last of them.
abbrev pub Reaches : Form → List Token → List Token → Place → Type 0
Reaches form ws rest (AtSize sizes) = (opening form).derives ws rest sizes
Reaches form ws rest (AtSizesEnd sizes) = (closed_opening form).derives ws rest sizes
Reaches form ws rest (AtName before kind name) =
    (mid : List Token) × (table form).derives ws mid before
    × (heading form).derives mid rest (kind, name)
Reaches form ws rest (AtItemEnd before it) =
    (mid : List Token) × (table form).derives ws mid before × (item form).derives mid rest it
