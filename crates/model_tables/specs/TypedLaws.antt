-- What is promised of texts as typed tables: the text is a table of a structure within the limit on
-- entries exactly where it says a table without a fault, whose structure this is.
use Rattle.std.specs.Prelude.{◌≡◌, ℕ, ◌≤◌, ◌<◌, List, length}
use Rattle.enc_base.specs.Counts.{most_entries}
use Rattle.fof_text.specs.Names.{AllDiffer}
use Rattle.tf_core.specs.declared.signature.Signature.{Signature}
use Rattle.tf_models.specs.declared.structure.TypedStructure.{TypedStructure}
use Rattle.model_tables.specs.declared.error.TableError.{TableError}
use Rattle.model_tables.specs.Grammar.{Table}
use Rattle.model_tables.specs.Typed.{typed, typed_structure, IsTypedTable, structure_entries}
use Rattle.model_tables.specs.Refusals.{IsRefused, Says}
use Rattle.model_tables.specs.Writable.{constructor_names, symbol_names}

-- There is a constructor, and the names of constructors differ, and so do those of symbols.
pub record HasNames (g : Signature) : Type 0 where
  pub some : 0 < length g.constructors
  pub constructors_differ : AllDiffer (constructor_names g)
  pub symbols_differ : AllDiffer (symbol_names g)

-- where a text says a typed table without a fault, it is one of its structure, which is within the
-- limit on entries
abbrev pub TypedTextsAreTables : Type 0
TypedTextsAreTables = (text : List ℕ) (g : Signature) (t : Table) → HasNames g →
    Says (typed g) text t →
    IsTypedTable text g (typed_structure g t)
    × (structure_entries (typed_structure g t) ≤ most_entries)

-- a typed table of a structure within the limit on entries says a table without a fault, whose
-- structure it is
abbrev pub TypedTablesAreSaid : Type 0
TypedTablesAreSaid = (text : List ℕ) (g : Signature) (s : TypedStructure) → IsTypedTable text g s →
    structure_entries s ≤ most_entries →
    (t : Table) × Says (typed g) text t × (typed_structure g t ≡ s)

-- a typed table of a structure within the limit on entries is refused for no fault
abbrev pub TypedTablesAreNotRefused : Type 0
TypedTablesAreNotRefused = (text : List ℕ) (g : Signature) (s : TypedStructure)
    (fault : TableError) → IsTypedTable text g s → structure_entries s ≤ most_entries →
    IsRefused (typed g) text fault → ⊥
