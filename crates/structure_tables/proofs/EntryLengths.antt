-- What is counted of tables is how long they are.
use Rattle.std.specs.Prelude.{ℕ, ◌≡◌, ◌+◌, List, [], ◌∷◌, map, length, replicate, sum, sum_by}
use Rattle.std.proofs.Common.{refl, ◌∙◌, arith}
use Rattle.std.proofs.lemmas.List.Sums.{sum_by-cons}
use Rattle.enc_base.specs.Tables.{tuple_count}
use Rattle.enc_base.proofs.Tables.{length-table, length-blocks}
use Rattle.tf_core.specs.declared.signature.Constructor.{Constructor}
use Rattle.tf_core.specs.declared.signature.Symbol.{Symbol}
use Rattle.tf_core.specs.declared.signature.Signature.{Signature}
use Rattle.tf_core.specs.Structures.{Typed, member_count, argument_sizes}
use Rattle.fof_models.specs.declared.problem.FofSymbol.{FofSymbol}
use Rattle.fof_models.specs.Structures.{Untyped}
use Rattle.fof_models.specs.Tabled as untyped
use Rattle.structure_tables.specs.EntryCounts.{symbol_count, typed_count, untyped_count}
use Rattle.structure_tables.specs.TypedTabled.{symbol_block, symbol_table, constructor_table, constructor_tables, symbol_tables, tabled}
use Rattle.structure_tables.proofs.ProductSums.{total-each}

-- a list of tables, each as long as what it was made for counts
abbrev lengths : List (List ℕ) → ℕ
lengths tables = sum (map length tables)

lengths-cons : (table : List ℕ) (tables : List (List ℕ)) →
    lengths (table ∷ tables) ≡ length table + lengths tables
lengths-cons table tables = sum_by-cons (λ n. n) (length table) (map length tables)

lengths-constructors : (s : Typed) (constructors : List Constructor) (c : ℕ) →
    sum_by (λ constructor. tuple_count (replicate constructor.arity (member_count s))) constructors
    ≡ lengths (constructor_tables s constructors c)
lengths-constructors s [] c = refl
lengths-constructors s (constructor ∷ constructors) c =
    omega (
      arith,
      sum_by-cons (λ one. tuple_count (replicate one.arity (member_count s))) constructor constructors,
      lengths-cons (constructor_table s constructor c) (constructor_tables s constructors (c + 1)),
      length-table (replicate constructor.arity (member_count s)) (s.constructor_at c),
      lengths-constructors s constructors (c + 1),
    )

length-symbol : (s : Typed) (symbol : Symbol) (f : ℕ) →
    length (symbol_table s symbol f) ≡ symbol_count s symbol
length-symbol s symbol f =
    length-blocks (replicate symbol.parameters (member_count s)) (symbol_block s symbol f)
    ∙ total-each (replicate symbol.parameters (member_count s))
    (λ members. length (symbol_block s symbol f members))
    (λ members. tuple_count (argument_sizes s symbol members))
    (λ members _. length-table (argument_sizes s symbol members) (s.symbol_at f members))

lengths-symbols : (s : Typed) (symbols : List Symbol) (f : ℕ) →
    sum_by (symbol_count s) symbols ≡ lengths (symbol_tables s symbols f)
lengths-symbols s [] f = refl
lengths-symbols s (symbol ∷ symbols) f =
    omega (
      arith,
      sum_by-cons (symbol_count s) symbol symbols,
      lengths-cons (symbol_table s symbol f) (symbol_tables s symbols (f + 1)),
      length-symbol s symbol f,
      lengths-symbols s symbols (f + 1),
    )

pub typed_count-lengths : (g : Signature) (s : Typed) →
    typed_count g s
    ≡ sum (tabled g s).sizes + sum (map length (tabled g s).constructors)
    + sum (map length (tabled g s).symbols)
typed_count-lengths g s =
    omega (arith, lengths-constructors s g.constructors 0, lengths-symbols s g.symbols 0)

lengths-untyped : (s : Untyped) (symbols : List FofSymbol) (f : ℕ) →
    sum_by (λ symbol. tuple_count (replicate symbol.arity s.size)) symbols
    ≡ lengths (untyped.symbol_tables s symbols f)
lengths-untyped s [] f = refl
lengths-untyped s (symbol ∷ symbols) f =
    omega (
      arith,
      sum_by-cons (λ one. tuple_count (replicate one.arity s.size)) symbol symbols,
      lengths-cons (untyped.symbol_table s symbol f) (untyped.symbol_tables s symbols (f + 1)),
      length-table (replicate symbol.arity s.size) (s.symbol_at f),
      lengths-untyped s symbols (f + 1),
    )

pub untyped_count-lengths : (signature : List FofSymbol) (s : Untyped) →
    untyped_count s.size signature
    ≡ (untyped.tabled signature s).size + sum (map length (untyped.tabled signature s).tables)
untyped_count-lengths signature s = omega (arith, lengths-untyped s signature 0)
