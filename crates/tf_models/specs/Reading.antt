-- A structure of tables, as the definitions of problems speak of it.
use Rattle.tf_core.specs.TypedTables.{TypedTables}
use Rattle.tf_models.specs.declared.structure.TypedStructure.{TypedStructure}

abbrev pub tables : TypedStructure → TypedTables
tables s = record { sizes = s.sizes; constructors = s.constructors; symbols = s.symbols }
