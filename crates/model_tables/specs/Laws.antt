-- What the definitions of tables promise one another.
use Rattle.std.specs.Prelude.{◌≡◌, ℕ, ◌≤◌, List, length, Result}
use Rattle.enc_base.specs.Counts.{most_entries}
use Rattle.fof_text.specs.Names.{AllDiffer}
use Rattle.fof_models.specs.declared.problem.FofProblem.{FofProblem}
use Rattle.fof_models.specs.declared.structure.Structure.{Structure}
use Rattle.model_tables.specs.declared.error.TableError.{TableError}
use Rattle.model_tables.specs.Grammar.{Table}
use Rattle.model_tables.specs.Faults.{Asked}
use Rattle.model_tables.specs.Items.{AreItems, tables_by}
use Rattle.model_tables.specs.Untyped.{untyped, untyped_structure, IsUntypedTable}
use Rattle.model_tables.specs.Untyped.{structure_entries}
use Rattle.model_tables.specs.Refusals.{IsRefused, Verdict, Says}

-- a text has at most one verdict: one table that it says, or one refusal
abbrev pub OneVerdict : Type 0
OneVerdict = (asked : Asked) (text : List ℕ) (a b : Result Table TableError) →
    Verdict asked text a → Verdict asked text b → a ≡ b

-- where a text says a table without a fault, each constructor or symbol has one item, and no other
-- has one
abbrev pub ItemsAreOneForEach : Type 0
ItemsAreOneForEach = (asked : Asked) (text : List ℕ) (t : Table) → Says asked text t →
    AreItems asked.wants (tables_by asked.wants t.items) t.items

-- where a text says an untyped table without a fault, it is one of its structure, which is within
-- the limit on entries
abbrev pub UntypedTextsAreTables : Type 0
UntypedTextsAreTables = (text : List ℕ) (problem : FofProblem) (names : List (List ℕ)) (t : Table) →
    length names ≡ length problem.signature → AllDiffer names →
    Says (untyped problem.signature names) text t →
    IsUntypedTable text problem names (untyped_structure problem.signature names t)
    × (structure_entries (untyped_structure problem.signature names t) ≤ most_entries)

-- an untyped table of a structure within the limit on entries says a table without a fault, whose
-- structure it is
abbrev pub UntypedTablesAreSaid : Type 0
UntypedTablesAreSaid = (text : List ℕ) (problem : FofProblem) (names : List (List ℕ))
    (s : Structure) →
    IsUntypedTable text problem names s → structure_entries s ≤ most_entries →
    (t : Table) × Says (untyped problem.signature names) text t
    × (untyped_structure problem.signature names t ≡ s)

-- an untyped table of a structure within the limit on entries is refused for no fault
abbrev pub UntypedTablesAreNotRefused : Type 0
UntypedTablesAreNotRefused = (text : List ℕ) (problem : FofProblem) (names : List (List ℕ))
    (s : Structure) (fault : TableError) → IsUntypedTable text problem names s →
    structure_entries s ≤ most_entries → IsRefused (untyped problem.signature names) text fault → ⊥
