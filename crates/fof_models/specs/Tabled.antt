-- The tables of a structure that is given as functions.
use Rattle.std.specs.Prelude.{ℕ, ◌+◌, List, [], ◌∷◌, replicate}
use Rattle.enc_base.specs.Tables.{table}
use Rattle.fof_models.specs.declared.problem.FofSymbol.{FofSymbol}
use Rattle.fof_models.specs.declared.structure.Structure.{Structure}
use Rattle.fof_models.specs.Structures.{Untyped}

-- the table of a symbol: its value at each tuple of elements
abbrev pub symbol_table : Untyped → FofSymbol → ℕ → List ℕ
symbol_table s symbol f = table (replicate symbol.arity s.size) (s.symbol_at f)

-- the tables of symbols, the first being the f-th of the signature
abbrev pub symbol_tables : Untyped → List FofSymbol → ℕ → List (List ℕ)
symbol_tables s [] f = []
symbol_tables s (symbol ∷ symbols) f = symbol_table s symbol f ∷ symbol_tables s symbols (f + 1)

-- the structure as tables
abbrev pub tabled : List FofSymbol → Untyped → Structure
tabled signature s = record { size = s.size; tables = symbol_tables s signature 0 }
