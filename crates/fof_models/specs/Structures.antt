-- Untyped structures, as functions and as tables.
use Rattle.std.specs.Prelude.{ℕ, ◌<◌, ◌≡◌, List, [], length, replicate, slice_index, slice_get, get_or, cond, Some}
use Rattle.enc_base.specs.Tables.{EachBelow, tuple_count, place}
use Rattle.fof_models.specs.declared.problem.FofSymbol.{FofSymbol}
use Rattle.fof_models.specs.declared.structure.Structure.{Structure}

-- One domain, the numbers below its size. A symbol gives, for elements, an element, or for a
-- predicate 1 where it holds and 0 elsewhere.
pub record Untyped : Type 0 where
  pub size : ℕ
  pub symbol_at : ℕ → List ℕ → ℕ

-- the table of a symbol
abbrev pub table_of : Structure → ℕ → List ℕ
table_of s f = get_or s.tables f []

-- the functions that the tables are: the value of a tuple of elements stands at its place
abbrev pub reading : Structure → Untyped
reading s = record {
  size = s.size;
  symbol_at = λ f elements.
      slice_index (table_of s f) (place (replicate (length elements) s.size) elements);
}

-- the bound of a symbol's values: the domain, or 0 and 1
abbrev pub values_below : FofSymbol → ℕ → ℕ
values_below symbol size = cond symbol.predicate 2 size

-- each item is an element
pub record AreElements (size : ℕ) (elements : List ℕ) : Type 0 where
  pub below : (i : ℕ) → i < length elements → slice_index elements i < size

-- The functions fit the signature: the domain has an element, functions give elements, and
-- predicates 0 or 1.
pub record IsStructure (signature : List FofSymbol) (s : Untyped) : Type 0 where
  pub inhabited : 0 < s.size
  pub values : (f : ℕ) (symbol : FofSymbol) (elements : List ℕ) →
      slice_get signature f ≡ Some symbol →
      EachBelow (replicate symbol.arity s.size) elements →
      s.symbol_at f elements < values_below symbol s.size

-- a table has an entry for each tuple of elements, and each entry is in its range
pub record IsTable (symbol : FofSymbol) (size : ℕ) (entries : List ℕ) : Type 0 where
  pub count : length entries ≡ tuple_count (replicate symbol.arity size)
  pub below : (i : ℕ) → i < length entries → slice_index entries i < values_below symbol size

-- The tables fit the signature: the domain has an element, and each symbol has a table of its own.
pub record IsWellFormed (signature : List FofSymbol) (s : Structure) : Type 0 where
  pub inhabited : 0 < s.size
  pub count : length s.tables ≡ length signature
  pub tables : (f : ℕ) (symbol : FofSymbol) → slice_get signature f ≡ Some symbol →
      IsTable symbol s.size (table_of s f)
