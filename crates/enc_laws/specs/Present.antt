-- Structures over the marked symbols that occur, and over all marked symbols.
use Rattle.std.specs.Prelude.{ℕ, ◌+◌, Bool, true, not, ◌&&◌, List, [], ◌∷◌, length, cond, leb}
use Rattle.tf_core.specs.declared.normal.Normal.{Normal}
use Rattle.fof_models.specs.Structures.{Untyped}
use Rattle.enc_marks.specs.Choices.{Choices}
use Rattle.enc_marks.specs.Encoded.{is_guard}
use Rattle.enc_marks.specs.Occurrence.{count_below}
use Rattle.enc_laws.specs.Ranks.{nth}

-- The structure over the symbols that occur, under their numbers among these. All marked symbols
-- have numbers below a bound.
abbrev pub over_present : (ℕ → Bool) → ℕ → Untyped → Untyped
over_present present bound j = record {
  size = j.size;
  symbol_at = λ i. j.symbol_at (nth bound present i);
}

-- the last of some numbers
abbrev pub last_of : List ℕ → ℕ
last_of [] = 0
last_of (v ∷ []) = v
last_of (v ∷ w ∷ values) = last_of (w ∷ values)

-- The structure over all marked symbols. Of those that don't occur a tag gives its last argument,
-- so that it changes nothing, and any other has zeros.
abbrev pub over_all : (ℕ → Bool) → (ℕ → Bool) → Untyped → Untyped
over_all present is_tag i = record {
  size = i.size;
  symbol_at = λ m values. cond (present m) (i.symbol_at (count_below m present) values)
      (cond (is_tag m) (last_of values) 0);
}

-- whether a number of the marked symbols is that of a tag: of those behind the constructors
abbrev pub is_tag : Choices → Normal → ℕ → Bool
is_tag c normal m =
    leb (length normal.signature.symbols + length normal.signature.constructors) m
    && not (is_guard c.binding)

-- of a structure that has tables for all marked symbols, each of them counts as one that occurs
abbrev pub all_present : ℕ → Bool
all_present m = true
