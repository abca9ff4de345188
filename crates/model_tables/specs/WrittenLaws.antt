-- What is promised of the text that is written for a structure.
use Rattle.std.specs.Prelude.{◌≡◌, ℕ, ◌<◌, ◌≤◌, ◌^◌, List, length}
use Rattle.std.specs.List.{AllByRecursion}
use Rattle.tf_core.specs.declared.signature.Signature.{Signature}
use Rattle.tf_core.specs.TypedTables.{IsWellFormed as IsTyped}
use Rattle.tf_models.specs.declared.structure.TypedStructure.{TypedStructure}
use Rattle.tf_models.specs.Reading.{tables}
use Rattle.fof_models.specs.declared.problem.FofProblem.{FofProblem}
use Rattle.fof_models.specs.declared.structure.Structure.{Structure}
use Rattle.fof_models.specs.Structures.{IsWellFormed}
use Rattle.model_tables.specs.Typed.{IsTypedTable}
use Rattle.model_tables.specs.Untyped.{IsUntypedTable}
use Rattle.model_tables.specs.Writable.{IsNamed, AreNames}
use Rattle.model_tables.specs.Written.{typed_text, untyped_text}

-- numbers of 32 bits
abbrev pub AreNumbers : List ℕ → Type 0
AreNumbers ns = AllByRecursion (λ n. n < 2 ^ 32) ns

-- A size has 32 bits, and so has the number of a member, as those of a program's structure have.
-- Of a well-formed structure every number in its tables has then.
pub record HasNumbers (s : TypedStructure) : Type 0 where
  pub sizes : AreNumbers s.sizes
  pub members : length s.sizes ≤ 2 ^ 32

-- the text is a table of the structure, and of no other

abbrev pub TellsTyped : List ℕ → Signature → TypedStructure → Type 0
TellsTyped text g s = IsTypedTable text g s
    × ((other : TypedStructure) → IsTypedTable text g other → other ≡ s)

abbrev pub TellsUntyped : List ℕ → FofProblem → List (List ℕ) → Structure → Type 0
TellsUntyped text p names s = IsUntypedTable text p names s
    × ((other : Structure) → IsUntypedTable text p names other → other ≡ s)

-- The text that is written for a well-formed structure is a table of it, where the names can be
-- written, and of no other structure.

abbrev pub TypedTextIsItsTable : Type 0
TypedTextIsItsTable = (g : Signature) (s : TypedStructure) → IsNamed g → IsTyped g (tables s)
    → HasNumbers s
    → TellsTyped (typed_text g s) g s

abbrev pub UntypedTextIsItsTable : Type 0
UntypedTextIsItsTable = (p : FofProblem) (names : List (List ℕ)) (s : Structure)
    → AreNames p.signature names → IsWellFormed p.signature s → s.size < 2 ^ 32
    → TellsUntyped (untyped_text p.signature names s) p names s

-- whatever the text, it is a table of at most one structure

abbrev pub OneTypedStructure : Type 0
OneTypedStructure = (text : List ℕ) (g : Signature) (s t : TypedStructure) → IsTypedTable text g s
    → IsTypedTable text g t → s ≡ t

abbrev pub OneUntypedStructure : Type 0
OneUntypedStructure = (text : List ℕ) (p : FofProblem) (names : List (List ℕ)) (s t : Structure)
    → IsUntypedTable text p names s → IsUntypedTable text p names t → s ≡ t
