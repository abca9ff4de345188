-- When the names of a structure's table can be written, and read back.
use Rattle.std.specs.Prelude.{◌≡◌, ℕ, List, map, length, slice_get, Some}
use Rattle.std.specs.List.{AllByRecursion}
use Rattle.enc_base.specs.Names.{IsWritable}
use Rattle.tf_core.specs.declared.signature.Constructor.{Constructor}
use Rattle.tf_core.specs.declared.signature.Symbol.{Symbol}
use Rattle.tf_core.specs.declared.signature.Signature.{Signature}
use Rattle.tf_core.specs.Sound.{individuals}
use Rattle.fof_models.specs.declared.problem.FofSymbol.{FofSymbol}
use Rattle.fof_text.specs.Names.{AllDiffer}

-- the names of constructors, and of symbols

abbrev pub constructor_names : Signature → List (List ℕ)
constructor_names g = map (λ (c : Constructor). c.name) g.constructors

abbrev pub symbol_names : Signature → List (List ℕ)
symbol_names g = map (λ (f : Symbol). f.name) g.symbols

-- The first constructor is `$i`, the names of constructors differ and can be written, and so do
-- those of symbols.
pub record IsNamed (g : Signature) : Type 0 where
  pub first : slice_get g.constructors 0 ≡ Some individuals
  pub constructors : AllByRecursion IsWritable (constructor_names g)
  pub symbols : AllByRecursion IsWritable (symbol_names g)
  pub constructors_differ : AllDiffer (constructor_names g)
  pub symbols_differ : AllDiffer (symbol_names g)

-- Each symbol has a name of its own, and the names can be written.
pub record AreNames (signature : List FofSymbol) (names : List (List ℕ)) : Type 0 where
  pub one_each : length names ≡ length signature
  pub differ : AllDiffer names
  pub writable : AllByRecursion IsWritable names
