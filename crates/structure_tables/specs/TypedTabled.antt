-- The tables of a typed structure that is given as functions.
use Rattle.std.specs.Prelude.{ℕ, ◌+◌, List, [], ◌∷◌, replicate}
use Rattle.enc_base.specs.Tables.{table, blocks}
use Rattle.tf_core.specs.declared.signature.Constructor.{Constructor}
use Rattle.tf_core.specs.declared.signature.Symbol.{Symbol}
use Rattle.tf_core.specs.declared.signature.Signature.{Signature}
use Rattle.tf_core.specs.Structures.{Typed, member_count, argument_sizes}
use Rattle.tf_core.specs.TypedTables.{TypedTables}

-- the table of a constructor: its member for each tuple of members
abbrev pub constructor_table : Typed → Constructor → ℕ → List ℕ
constructor_table s constructor c =
    table (replicate constructor.arity (member_count s)) (s.constructor_at c)

-- a block of a symbol: its value for each tuple of elements, under members for its parameters
abbrev pub symbol_block : Typed → Symbol → ℕ → List ℕ → List ℕ
symbol_block s symbol f members = table (argument_sizes s symbol members) (s.symbol_at f members)

-- the table of a symbol: a block for each tuple of members
abbrev pub symbol_table : Typed → Symbol → ℕ → List ℕ
symbol_table s symbol f =
    blocks (replicate symbol.parameters (member_count s)) (symbol_block s symbol f)

-- the tables of constructors and of symbols, the first of them having this number in the signature

abbrev pub constructor_tables : Typed → List Constructor → ℕ → List (List ℕ)
constructor_tables s [] c = []
constructor_tables s (constructor ∷ constructors) c =
    constructor_table s constructor c ∷ constructor_tables s constructors (c + 1)

abbrev pub symbol_tables : Typed → List Symbol → ℕ → List (List ℕ)
symbol_tables s [] f = []
symbol_tables s (symbol ∷ symbols) f = symbol_table s symbol f ∷ symbol_tables s symbols (f + 1)

-- the structure as tables
abbrev pub tabled : Signature → Typed → TypedTables
tabled g s = record {
  sizes = s.sizes;
  constructors = constructor_tables s g.constructors 0;
  symbols = symbol_tables s g.symbols 0;
}
