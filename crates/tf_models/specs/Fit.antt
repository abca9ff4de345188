-- When tables fit a signature, said of the tables alone.
use Rattle.std.specs.Prelude.{ℕ, ◌+◌, ◌<◌, ◌≡◌, List, [], length, replicate, get_or, slice_get, slice_index, Option, Some, None}
use Rattle.enc_base.specs.Tables.{sum_below, tuple_count}
use Rattle.enc_base.specs.Tuples.{tuple_at}
use Rattle.tf_core.specs.declared.ty.Ty.{Ty}
use Rattle.tf_core.specs.declared.signature.Constructor.{Constructor}
use Rattle.tf_core.specs.declared.signature.Symbol.{Symbol}
use Rattle.tf_core.specs.declared.signature.Signature.{Signature}
use Rattle.tf_core.specs.Types.{type_value}
use Rattle.tf_core.specs.TypedTables.{TypedTables, constructor_entry, block_bounds, block_length}

-- a table has an entry for each tuple of so many numbers, each below the bound as well
pub record IsTable (bound arity : ℕ) (entries : List ℕ) : Type 0 where
  pub count : length entries ≡ tuple_count (replicate arity bound)
  pub below : (i : ℕ) → i < length entries → slice_index entries i < bound

-- there are members, each with an element
pub record IsInhabited (sizes : List ℕ) : Type 0 where
  pub some : 0 < length sizes
  pub each : (i : ℕ) → i < length sizes → 0 < slice_index sizes i

-- there is a table of members for each constructor
pub record ConstructorsFit (g : Signature) (t : TypedTables) : Type 0 where
  pub inhabited : IsInhabited t.sizes
  pub count : length t.constructors ≡ length g.constructors
  pub tables : (c : ℕ) (constructor : Constructor) → slice_get g.constructors c ≡ Some constructor →
      IsTable (length t.sizes) constructor.arity (get_or t.constructors c [])

-- the members of a symbol's parameters, by their number
abbrev pub parameters_at : TypedTables → Symbol → ℕ → List ℕ
parameters_at t symbol number = tuple_at (length t.sizes) symbol.parameters number

-- the bounds of the tuples of a block of a symbol, and how long it is, by its number

abbrev pub bounds_at : TypedTables → Symbol → ℕ → List ℕ
bounds_at t symbol number = block_bounds t symbol (parameters_at t symbol number)

abbrev pub length_at : TypedTables → Symbol → ℕ → ℕ
length_at t symbol number = block_length t symbol (parameters_at t symbol number)

-- the bound of the entries of a block: the size of the result type's member, or 2
abbrev pub bound_at : TypedTables → Option Ty → List ℕ → ℕ
bound_at t None members = 2
bound_at t (Some result) members =
    slice_index t.sizes (type_value (constructor_entry t) members result)

-- how many blocks a symbol's table has
abbrev pub block_count : TypedTables → Symbol → ℕ
block_count t symbol = tuple_count (replicate symbol.parameters (length t.sizes))

-- a symbol's table: its blocks one after another, each entry in its range
pub record IsSymbolTable (t : TypedTables) (symbol : Symbol) (entries : List ℕ) : Type 0 where
  pub count : length entries ≡ sum_below (block_count t symbol) (length_at t symbol)
  pub below : (number i : ℕ) → number < block_count t symbol → i < length_at t symbol number →
      slice_index entries (sum_below number (length_at t symbol) + i)
      < bound_at t symbol.result (parameters_at t symbol number)

-- the tables of a structure fit a signature
pub record TablesFit (g : Signature) (t : TypedTables) : Type 0 where
  pub constructors : ConstructorsFit g t
  pub count : length t.symbols ≡ length g.symbols
  pub symbols : (f : ℕ) (symbol : Symbol) → slice_get g.symbols f ≡ Some symbol →
      IsSymbolTable t symbol (get_or t.symbols f [])
