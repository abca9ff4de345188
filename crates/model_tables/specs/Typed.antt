-- Tables of typed structures, by a signature.
use Rattle.std.specs.Prelude.{◌≡◌, ℕ, ◌+◌, List, [], ◌∷◌, ◌++◌, map, sum, length, replicate, slice_index}
use Rattle.std.specs.Prelude.{if◌then◌else◌, Option, Some, None}
use Rattle.tptp_words.specs.Text.{Placed, tokens, IsText}
use Rattle.tptp_words.specs.Words.{same}
use Rattle.enc_base.specs.Tables.{tuple_count, total, blocks}
use Rattle.tf_core.specs.declared.signature.Constructor.{Constructor}
use Rattle.tf_core.specs.declared.signature.Symbol.{Symbol}
use Rattle.tf_core.specs.declared.signature.Signature.{Signature}
use Rattle.tf_core.specs.TypedTables.{TypedTables, block_length, IsWellFormed}
use Rattle.tf_models.specs.declared.structure.TypedStructure.{TypedStructure}
use Rattle.tf_models.specs.Fit.{bound_at}
use Rattle.tf_models.specs.Reading.{tables}
use Rattle.model_tables.specs.declared.form.Form.TheVariants.{Typed}
use Rattle.model_tables.specs.declared.form.Kind.{Kind}
use Rattle.model_tables.specs.declared.form.Kind.TheVariants as kind
use Rattle.model_tables.specs.Grammar.{Item, Table, table}
use Rattle.model_tables.specs.Faults.{Want, Shape, Asked, first_missing}
use Rattle.model_tables.specs.Items.{AreItems, tables_by}

-- ---- what is asked

-- each constructor wants an item under its name, and each symbol

abbrev pub constructor_want : Constructor → Want
constructor_want c = record { kind = kind.Constructor; name = c.name }

abbrev pub symbol_want : Symbol → Want
symbol_want f = record { kind = kind.Symbol; name = f.name }

abbrev pub constructor_wants : Signature → List Want
constructor_wants g = map constructor_want g.constructors

abbrev pub symbol_wants : Signature → List Want
symbol_wants g = map symbol_want g.symbols

-- the constructor with the name, and the symbol

abbrev pub constructor_named : List ℕ → List Constructor → Option Constructor
constructor_named name [] = None
constructor_named name (c ∷ constructors) =
    if same name c.name then Some c else constructor_named name constructors

abbrev pub symbol_named : List ℕ → List Symbol → Option Symbol
symbol_named name [] = None
symbol_named name (f ∷ symbols) = if same name f.name then Some f else symbol_named name symbols

-- the tables of a structure, as far as a text gives them
abbrev pub read_so_far : Signature → Table → TypedTables
read_so_far g t = record {
  sizes = t.sizes;
  constructors = tables_by (constructor_wants g) t.items;
  symbols = tables_by (symbol_wants g) t.items;
}

abbrev pub no_shape : Shape
no_shape = record { count = 0; bound = λ i. 0 }

-- a constructor's table has an entry for each tuple of members, which is a member
abbrev pub constructor_shape : ℕ → Option Constructor → Shape
constructor_shape members None = no_shape
constructor_shape members (Some c) = record {
  count = tuple_count (replicate c.arity members);
  bound = λ i. members;
}

-- how many entries a symbol's table has: those of a block for each tuple of members
abbrev pub symbol_entries : TypedTables → Symbol → ℕ
symbol_entries t f = total (replicate f.parameters (length t.sizes)) (block_length t f)

-- the bounds of the entries of a symbol's table, block by block
abbrev pub symbol_bounds : TypedTables → Symbol → List ℕ
symbol_bounds t f = blocks (replicate f.parameters (length t.sizes))
    (λ members. replicate (block_length t f members) (bound_at t f.result members))

abbrev pub symbol_shape : TypedTables → Option Symbol → Shape
symbol_shape t None = no_shape
symbol_shape t (Some f) = record {
  count = symbol_entries t f;
  bound = λ i. slice_index (symbol_bounds t f) i;
}

-- the shape of an item, by what stands before it
abbrev pub typed_shape : Signature → Table → Kind → List ℕ → Shape
typed_shape g before kind.Constructor name =
    constructor_shape (length before.sizes) (constructor_named name g.constructors)
typed_shape g before kind.Symbol name =
    symbol_shape (read_so_far g before) (symbol_named name g.symbols)
typed_shape g before _ name = no_shape

-- the sizes and the lengths of the constructors' tables
abbrev pub constructor_entries : Signature → List ℕ → ℕ
constructor_entries g sizes =
    sum sizes + sum (map (λ (c : Constructor). tuple_count (replicate c.arity (length sizes)))
    g.constructors)

-- and the lengths of the symbols' tables, by the tables of the constructors
abbrev pub typed_entries : Signature → TypedTables → ℕ
typed_entries g t = constructor_entries g t.sizes + sum (map (symbol_entries t) g.symbols)

-- the entries of a structure whose constructors all have items
abbrev pub entries_unless : Option (List ℕ) → ℕ → Option ℕ
entries_unless (Some missing) entries = None
entries_unless None entries = Some entries

-- the entries of the structure, at the end of the item after which no constructor is missing
abbrev pub entries_by_kind : Signature → Table → Kind → Option ℕ
entries_by_kind g t kind.Constructor =
    entries_unless (first_missing (constructor_wants g) t.items) (typed_entries g (read_so_far g t))
entries_by_kind g t _ = None

-- what is asked of a typed table
abbrev pub typed : Signature → Asked
typed g = record {
  form = Typed;
  wants = constructor_wants g ++ symbol_wants g;
  entries_by_sizes = constructor_entries g;
  shape = typed_shape g;
  entries_by_item = λ before it.
      entries_by_kind g (record { sizes = before.sizes; items = before.items ++ it ∷ [] }) it.kind;
}

-- ---- the relation

-- The text is a typed table of the structure, for a signature: the items of the constructors and
-- then those of the symbols.
pub record IsTypedTable (text : List ℕ) (g : Signature) (s : TypedStructure) : Type 0 where
  pub words : List Placed
  pub types : List Item
  pub symbols : List Item
  pub is_text : IsText (length text) text words None
  pub derives :
      (table Typed).derives (tokens words) [] (record { sizes = s.sizes; items = types ++ symbols })
  pub constructor_tables : AreItems (constructor_wants g) s.constructors types
  pub symbol_tables : AreItems (symbol_wants g) s.symbols symbols
  pub well_formed : IsWellFormed g (tables s)

-- the structure whose tables the items give
abbrev pub typed_structure : Signature → Table → TypedStructure
typed_structure g t = record {
  sizes = t.sizes;
  constructors = tables_by (constructor_wants g) t.items;
  symbols = tables_by (symbol_wants g) t.items;
}

-- how many entries a structure has: the sum of its sizes and the lengths of all tables
abbrev pub structure_entries : TypedStructure → ℕ
structure_entries s = sum s.sizes + sum (map length s.constructors) + sum (map length s.symbols)
