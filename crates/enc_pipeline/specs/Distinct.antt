-- When the names of a problem tell its constructors and its symbols apart.
use Rattle.tf_core.specs.declared.problem.Problem.{Problem}
use Rattle.fof_text.specs.Names.{AllDiffer}
use Rattle.model_tables.specs.Writable.{constructor_names, symbol_names}

-- no two constructors have the same name, and no two symbols have
pub record HasDistinctNames (problem : Problem) : Type 0 where
  pub constructors : AllDiffer (constructor_names problem.signature)
  pub symbols : AllDiffer (symbol_names problem.signature)
