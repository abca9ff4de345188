-- How many numbers the tables of a structure hold.
use Rattle.std.specs.Prelude.{ℕ, ◌+◌, List, replicate, sum, sum_by}
use Rattle.enc_base.specs.Tables.{tuple_count, total}
use Rattle.fof_models.specs.declared.problem.FofSymbol.{FofSymbol}
use Rattle.tf_core.specs.declared.signature.Symbol.{Symbol}
use Rattle.tf_core.specs.declared.signature.Signature.{Signature}
use Rattle.tf_core.specs.Structures.{Typed, member_count, argument_sizes}

-- the size of the domain, and an entry of each symbol for each tuple of elements
abbrev pub untyped_count : ℕ → List FofSymbol → ℕ
untyped_count size signature =
    size + sum_by (λ symbol. tuple_count (replicate symbol.arity size)) signature

-- the entries of a symbol: for each tuple of members, those of its block
abbrev pub symbol_count : Typed → Symbol → ℕ
symbol_count s symbol =
    total (replicate symbol.parameters (member_count s))
    (λ members. tuple_count (argument_sizes s symbol members))

-- the sizes of the members, a member of each constructor for each tuple of members, and the entries
-- of each symbol
abbrev pub typed_count : Signature → Typed → ℕ
typed_count g s =
    sum s.sizes
    + sum_by (λ constructor. tuple_count (replicate constructor.arity (member_count s))) g.constructors
    + sum_by (symbol_count s) g.symbols
