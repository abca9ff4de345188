-- Typed structures written as tables, and the functions that the tables are.
use Rattle.std.specs.Prelude.{ℕ, zero, ◌+◌, ◌≡◌, List, [], map, length, replicate, slice_index, slice_get, get_or, Option, Some, None}
use Rattle.enc_base.specs.Tables.{tuple_count, place, total, begins}
use Rattle.tf_core.specs.declared.signature.Constructor.{Constructor}
use Rattle.tf_core.specs.declared.signature.Symbol.{Symbol}
use Rattle.tf_core.specs.declared.signature.Signature.{Signature}
use Rattle.tf_core.specs.declared.problem.Problem.{Problem}
use Rattle.tf_core.specs.declared.normal.Normal.{Normal}
use Rattle.tf_core.specs.Types.{type_value}
use Rattle.tf_core.specs.Structures.{Typed, IsStructure}
use Rattle.tf_core.specs.Models.{IsModel, IsNormalModel}

-- The sizes of the members, and a table for each constructor and each symbol. All tuples are in
-- lexicographic order. A constructor's table has an entry for each tuple of members. A symbol's
-- has a block for each tuple of members for its parameters, and the block an entry for each tuple
-- of elements of its argument types' members.
pub record TypedTables : Type 0 where
  pub sizes : List ℕ
  pub constructors : List (List ℕ)
  pub symbols : List (List ℕ)

-- the member that a constructor's table gives for members
abbrev pub constructor_entry : TypedTables → ℕ → List ℕ → ℕ
constructor_entry t c members =
    slice_index (get_or t.constructors c [])
    (place (replicate (length members) (length t.sizes)) members)

-- the bounds of the tuples of one block of a symbol's table
abbrev pub block_bounds : TypedTables → Symbol → List ℕ → List ℕ
block_bounds t symbol members =
    map (λ ty. slice_index t.sizes (type_value (constructor_entry t) members ty)) symbol.arguments

-- how long one block of a symbol's table is
abbrev pub block_length : TypedTables → Symbol → List ℕ → ℕ
block_length t symbol members = tuple_count (block_bounds t symbol members)

-- the place of an entry in a symbol's table
abbrev pub symbol_place : TypedTables → Symbol → List ℕ → List ℕ → ℕ
symbol_place t symbol members elements =
    begins (replicate symbol.parameters (length t.sizes)) (block_length t symbol) members
    + place (block_bounds t symbol members) elements

-- what a symbol's table gives for members and elements
abbrev pub symbol_entry : TypedTables → Option Symbol → ℕ → List ℕ → List ℕ → ℕ
symbol_entry t None f members elements = zero
symbol_entry t (Some symbol) f members elements =
    slice_index (get_or t.symbols f []) (symbol_place t symbol members elements)

-- the structure that the tables are, for a signature
abbrev pub reading : Signature → TypedTables → Typed
reading g t = record {
  sizes = t.sizes;
  constructor_at = constructor_entry t;
  symbol_at = λ f. symbol_entry t (slice_get g.symbols f) f;
}

-- there is a table of the right length for each constructor and symbol, and no other
pub record AreTables (g : Signature) (t : TypedTables) : Type 0 where
  pub constructor_count : length t.constructors ≡ length g.constructors
  pub symbol_count : length t.symbols ≡ length g.symbols
  pub constructors : (c : ℕ) (constructor : Constructor) →
      slice_get g.constructors c ≡ Some constructor →
      length (get_or t.constructors c []) ≡ tuple_count (replicate constructor.arity (length t.sizes))
  pub symbols : (f : ℕ) (symbol : Symbol) →
      slice_get g.symbols f ≡ Some symbol →
      length (get_or t.symbols f [])
      ≡ total (replicate symbol.parameters (length t.sizes)) (block_length t symbol)

-- the tables are well formed: of the right lengths, with each entry in its range
pub record IsWellFormed (g : Signature) (t : TypedTables) : Type 0 where
  pub tables : AreTables g t
  pub structure : IsStructure g (reading g t)

-- the tables are a model of a problem
pub record AreModel (problem : Problem) (t : TypedTables) : Type 0 where
  pub tables : AreTables problem.signature t
  pub model : IsModel problem (reading problem.signature t)

-- the tables are a model of a normal problem
pub record AreNormalModel (normal : Normal) (t : TypedTables) : Type 0 where
  pub tables : AreTables normal.signature t
  pub model : IsNormalModel normal (reading normal.signature t)

-- a typed problem has a finite model
abbrev pub HasFiniteModel : Problem → Type 0
HasFiniteModel problem = (t : TypedTables) × AreModel problem t
