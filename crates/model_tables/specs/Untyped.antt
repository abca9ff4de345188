-- Tables of untyped structures, by the signature of a problem and the names of its symbols.
use Rattle.std.specs.Prelude.{ℕ, ◌+◌, List, [], ◌∷◌, map, sum, length, replicate}
use Rattle.std.specs.Prelude.{if◌then◌else◌, Option, Some, None}
use Rattle.tptp_words.specs.Text.{Placed, tokens, IsText}
use Rattle.enc_base.specs.Tables.{tuple_count}
use Rattle.fof_models.specs.declared.problem.FofSymbol.{FofSymbol}
use Rattle.fof_models.specs.declared.problem.FofProblem.{FofProblem}
use Rattle.fof_models.specs.declared.structure.Structure.{Structure}
use Rattle.fof_models.specs.Structures.{IsWellFormed, values_below}
use Rattle.model_tables.specs.declared.form.Form.TheVariants.{Untyped}
use Rattle.model_tables.specs.declared.form.Kind.{Kind}
use Rattle.model_tables.specs.declared.form.Kind.TheVariants.{Function, Predicate}
use Rattle.model_tables.specs.Grammar.{Item, Table, table}
use Rattle.model_tables.specs.Faults.{Want, Shape, Asked, is_of}
use Rattle.model_tables.specs.Items.{AreItems, tables_by}

-- ---- what is asked

-- the kind of a symbol's item
abbrev pub symbol_kind : FofSymbol → Kind
symbol_kind symbol = if symbol.predicate then Predicate else Function

abbrev pub symbol_want : FofSymbol → List ℕ → Want
symbol_want symbol name = record { kind = symbol_kind symbol; name = name }

-- each symbol wants an item under its name
abbrev pub symbol_wants : List FofSymbol → List (List ℕ) → List Want
symbol_wants [] names = []
symbol_wants (symbol ∷ symbols) [] = []
symbol_wants (symbol ∷ symbols) (name ∷ names) =
    symbol_want symbol name ∷ symbol_wants symbols names

-- the symbol of a kind that has the name
abbrev pub symbol_of : Kind → List ℕ → List FofSymbol → List (List ℕ) → Option FofSymbol
symbol_of kind name [] names = None
symbol_of kind name (symbol ∷ symbols) [] = None
symbol_of kind name (symbol ∷ symbols) (n ∷ names) =
    if is_of kind name (symbol_kind symbol) n then Some symbol
    else symbol_of kind name symbols names

-- the size of the domain
abbrev pub domain_size : List ℕ → ℕ
domain_size [] = 0
domain_size (size ∷ sizes) = size

-- how many entries a symbol's table has over a domain of this size
abbrev pub symbol_entries : ℕ → FofSymbol → ℕ
symbol_entries size symbol = tuple_count (replicate symbol.arity size)

-- a symbol's table has an entry for each tuple of elements: an element, or 0 or 1 for a predicate
abbrev pub symbol_shape : ℕ → Option FofSymbol → Shape
symbol_shape size None = record { count = 0; bound = λ i. 0 }
symbol_shape size (Some symbol) = record {
  count = symbol_entries size symbol;
  bound = λ i. values_below symbol size;
}

-- the entries of a structure over a domain of this size: the size and the lengths of all tables
abbrev pub all_entries : List FofSymbol → ℕ → ℕ
all_entries signature size = size + sum (map (symbol_entries size) signature)

-- what is asked of an untyped table
abbrev pub untyped : List FofSymbol → List (List ℕ) → Asked
untyped signature names = record {
  form = Untyped;
  wants = symbol_wants signature names;
  entries_by_sizes = λ sizes. all_entries signature (domain_size sizes);
  shape = λ before kind name.
      symbol_shape (domain_size before.sizes) (symbol_of kind name signature names);
  entries_by_item = λ before it. None;
}

-- the structure that a table gives: its one size, and the entries of each symbol's item
abbrev pub untyped_structure : List FofSymbol → List (List ℕ) → Table → Structure
untyped_structure signature names t = record {
  size = domain_size t.sizes;
  tables = tables_by (symbol_wants signature names) t.items;
}

-- ---- the relation

-- The text is an untyped table of the structure, for a problem and the names of its symbols.
pub record IsUntypedTable (text : List ℕ) (problem : FofProblem) (names : List (List ℕ))
    (s : Structure) : Type 0 where
  pub words : List Placed
  pub items : List Item
  pub is_text : IsText (length text) text words None
  pub derives :
      (table Untyped).derives (tokens words) [] (record { sizes = s.size ∷ []; items = items })
  pub tables : AreItems (symbol_wants problem.signature names) s.tables items
  pub well_formed : IsWellFormed problem.signature s

-- how many entries a structure has
abbrev pub structure_entries : Structure → ℕ
structure_entries s = s.size + sum (map length s.tables)
