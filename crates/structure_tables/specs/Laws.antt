-- Typed structures of functions and of tables are the same, and so are their models.
use Rattle.std.specs.Prelude.{ℕ, ◌≡◌, ◌+◌, List, length, map, replicate, slice_get, sum, Some}
use Rattle.enc_base.specs.Tables.{EachBelow}
use Rattle.tf_core.specs.declared.signature.Constructor.{Constructor}
use Rattle.tf_core.specs.declared.signature.Symbol.{Symbol}
use Rattle.tf_core.specs.declared.signature.Signature.{Signature}
use Rattle.tf_core.specs.declared.normal.Normal.{Normal}
use Rattle.tf_core.specs.Typing.{IsSignature, IsNormal}
use Rattle.tf_core.specs.Structures.{Typed, member_count, AreArguments, IsStructure}
use Rattle.tf_core.specs.Models.{IsNormalModel}
use Rattle.tf_core.specs.TypedTables.{reading, IsWellFormed, AreNormalModel}
use Rattle.fof_models.specs.declared.problem.FofSymbol.{FofSymbol}
use Rattle.fof_models.specs.Structures.{Untyped}
use Rattle.fof_models.specs.Tabled as untyped
use Rattle.structure_tables.specs.EntryCounts.{typed_count, untyped_count}
use Rattle.structure_tables.specs.TypedTabled.{tabled}

-- Functions that fit a signature are the reading of their tables, which are well formed.
pub record TypedTablesAreFunctions : Type 0 where
  pub tables : (g : Signature) (s : Typed) → IsSignature g → IsStructure g s →
      IsWellFormed g (tabled g s)
  pub constructors : (g : Signature) (s : Typed) (c : ℕ) (constructor : Constructor)
      (members : List ℕ) → slice_get g.constructors c ≡ Some constructor →
      EachBelow (replicate constructor.arity (member_count s)) members →
      (reading g (tabled g s)).constructor_at c members ≡ s.constructor_at c members
  pub symbols : (g : Signature) (s : Typed) (f : ℕ) (symbol : Symbol) (members elements : List ℕ) →
      IsSignature g → IsStructure g s → slice_get g.symbols f ≡ Some symbol →
      AreArguments s symbol members elements →
      (reading g (tabled g s)).symbol_at f members elements ≡ s.symbol_at f members elements

-- The tables of a model of functions are a model.
abbrev pub NormalModelsAreTabled : Type 0
NormalModelsAreTabled =
    (normal : Normal) (s : Typed) → IsNormal normal → IsNormalModel normal s →
    AreNormalModel normal (tabled normal.signature s)

-- What is counted of a structure is the sum of its sizes, or its size, and the lengths of all tables.
pub record CountsAreLengths : Type 0 where
  pub typed : (g : Signature) (s : Typed) →
      typed_count g s
      ≡ sum (tabled g s).sizes + sum (map length (tabled g s).constructors)
      + sum (map length (tabled g s).symbols)
  pub untyped : (signature : List FofSymbol) (s : Untyped) →
      untyped_count s.size signature
      ≡ (untyped.tabled signature s).size + sum (map length (untyped.tabled signature s).tables)
