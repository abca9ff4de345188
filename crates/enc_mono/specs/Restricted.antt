-- A structure restricted to symbol instances: each has, of its symbol, what stands under its types.
use Rattle.std.specs.Prelude.{ℕ, zero, ◌+◌, List, [], map, drop, take, length, replicate, sum, slice_get, get_or, Option, Some, None}
use Rattle.enc_base.specs.Tables.{begins}
use Rattle.tf_core.specs.declared.signature.Symbol.{Symbol}
use Rattle.tf_core.specs.declared.signature.Signature.{Signature}
use Rattle.tf_core.specs.Types.{type_value}
use Rattle.tf_core.specs.Structures.{Typed, member_of}
use Rattle.tf_core.specs.TypedTables.{TypedTables, constructor_entry, block_length}
use Rattle.enc_mono.specs.declared.instances.Origin.{Origin}

-- as functions

abbrev pub instance_at : Typed → Option Origin → List ℕ → ℕ
instance_at s None elements = zero
instance_at s (Some origin) elements =
    s.symbol_at origin.symbol (map (member_of s []) origin.types) elements

-- the members and the constructors stay
abbrev pub restricted : List Origin → Typed → Typed
restricted origins s = record {
  sizes = s.sizes;
  constructor_at = s.constructor_at;
  symbol_at = λ f members elements. instance_at s (slice_get origins f) elements;
}

-- as tables

-- the members that the types of a symbol instance are
abbrev pub origin_members : TypedTables → Origin → List ℕ
origin_members t origin = map (type_value (constructor_entry t) []) origin.types

-- of a symbol's table, the block of members
abbrev pub block_of : TypedTables → Option Symbol → List ℕ → List ℕ → List ℕ
block_of t None table members = []
block_of t (Some symbol) table members =
    take (block_length t symbol members)
    (drop (begins (replicate symbol.parameters (length t.sizes)) (block_length t symbol) members)
    table)

-- of a structure, the block of a symbol instance
abbrev pub origin_block : Signature → TypedTables → Origin → List ℕ
origin_block g t origin =
    block_of t (slice_get g.symbols origin.symbol) (get_or t.symbols origin.symbol [])
    (origin_members t origin)

abbrev pub restricted_tables : Signature → List Origin → TypedTables → TypedTables
restricted_tables g origins t = record {
  sizes = t.sizes;
  constructors = t.constructors;
  symbols = map (origin_block g t) origins;
}

-- how many numbers tables hold: the sizes of the members, and all entries
abbrev pub entry_count : TypedTables → ℕ
entry_count t = sum t.sizes + sum (map length t.constructors) + sum (map length t.symbols)
