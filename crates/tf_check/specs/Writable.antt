-- When the names of a typed problem can be written: each has a byte, and only bytes that may stand
-- between quotes.
use Rattle.std.specs.List.{AllByRecursion}
use Rattle.tptp_syntax.specs.declared.entry.File.{File}
use Rattle.enc_base.specs.Names.{IsWritable}
use Rattle.tptp_syntax.specs.FileNames.{IsWritableFile}
use Rattle.tf_core.specs.declared.signature.Constructor.{Constructor}
use Rattle.tf_core.specs.declared.signature.Symbol.{Symbol}
use Rattle.tf_core.specs.declared.problem.Stated.{Stated}
use Rattle.tf_core.specs.declared.problem.Problem.{Problem}
use Rattle.tf_check.specs.Typing.{IsTyped}

-- each name of the problem can be written
pub record HasWritableNames (problem : Problem) : Type 0 where
  pub constructors :
      AllByRecursion (λ (constructor : Constructor). IsWritable constructor.name)
      problem.signature.constructors
  pub symbols : AllByRecursion (λ (symbol : Symbol). IsWritable symbol.name) problem.signature.symbols
  pub formulas : AllByRecursion (λ (stated : Stated). IsWritable stated.name) problem.formulas

-- the names of a typed problem stand in its file: they can be written where those of the file can
abbrev pub TypedNamesAreWritable : Type 0
TypedNamesAreWritable =
    (file : File) (problem : Problem) → IsWritableFile file → IsTyped file problem →
    HasWritableNames problem
