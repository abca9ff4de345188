-- The names that stand in a file, and that each can be written: as a word, and in a note.
use Rattle.std.specs.Prelude.{ℕ, List, [], ◌∷◌, ◌++◌, map, Option, Some, None}
use Rattle.std.specs.List.{AllByRecursion}
use Rattle.enc_base.specs.Names.{IsWritable}
use Rattle.tptp_syntax.specs.declared.types.TypeExpr.{TypeExpr}
use Rattle.tptp_syntax.specs.declared.types.TypeExpr.TheOpen.{TypeExpr-F, Bound-F}
use Rattle.tptp_syntax.specs.declared.types.TypeExpr.TheOpen as type
use Rattle.tptp_syntax.specs.declared.types.TypeExpr.TheFolds.{fold-TypeExpr}
use Rattle.tptp_syntax.specs.declared.types.Bound.{Bound}
use Rattle.tptp_syntax.specs.declared.term.RawTerm.{RawTerm}
use Rattle.tptp_syntax.specs.declared.term.RawTerm.TheOpen.{RawTerm-F}
use Rattle.tptp_syntax.specs.declared.term.RawTerm.TheOpen as term
use Rattle.tptp_syntax.specs.declared.term.RawTerm.TheFolds.{fold-RawTerm}
use Rattle.tptp_syntax.specs.declared.formula.RawFormula.{RawFormula}
use Rattle.tptp_syntax.specs.declared.formula.RawFormula.TheOpen.{RawFormula-F}
use Rattle.tptp_syntax.specs.declared.formula.RawFormula.TheOpen as formula
use Rattle.tptp_syntax.specs.declared.formula.RawFormula.TheFolds.{fold-RawFormula}
use Rattle.tptp_syntax.specs.declared.entry.Entry.{Entry}
use Rattle.tptp_syntax.specs.declared.entry.Entry.TheVariants.{Declaration, Statement}
use Rattle.tptp_syntax.specs.declared.entry.File.{File}

-- a name
abbrev pub Bytes : Type 0
Bytes = List ℕ

-- the lists one after another
abbrev pub all_names : List (List Bytes) → List Bytes
all_names [] = []
all_names (names ∷ more) = names ++ all_names more

-- ---- types

abbrev pub kind_names : Option (List Bytes) → List Bytes
kind_names None = []
kind_names (Some names) = names

abbrev pub type_names_at : TypeExpr-F (List Bytes) (List Bytes) → List Bytes
type_names_at (type.Variable name) = name ∷ []
type_names_at (type.Apply name parts) = name ∷ all_names parts
type_names_at type.Individuals = []
type_names_at type.Truth = []
type_names_at type.Types = []
type_names_at (type.Product parts) = all_names parts
type_names_at (type.Map left right) = left ++ right
type_names_at (type.Quantified bounds body) = all_names bounds ++ body

abbrev pub bound_names_at : Bound-F (List Bytes) (List Bytes) → List Bytes
bound_names_at bound = bound.name ∷ kind_names bound.kind

-- the names in a type expression, those of variables too
unfoldable pub type_names : TypeExpr → List Bytes
type_names = fold-TypeExpr (List Bytes) (List Bytes) type_names_at bound_names_at

abbrev pub bound_type_names : Option TypeExpr → List Bytes
bound_type_names None = []
bound_type_names (Some expression) = type_names expression

-- a bound name, and the names in its type
abbrev pub bound_names : Bound → List Bytes
bound_names bound = bound.name ∷ bound_type_names bound.kind

-- ---- terms and formulas

abbrev pub term_names_at : RawTerm-F (List Bytes) → List Bytes
term_names_at (term.Variable name) = name ∷ []
term_names_at (term.Apply name parts) = name ∷ all_names parts
term_names_at term.Individuals = []

-- the names in a term, those of variables too
unfoldable pub term_names : RawTerm → List Bytes
term_names = fold-RawTerm (List Bytes) term_names_at

abbrev pub formula_names_at : RawFormula-F (List Bytes) → List Bytes
formula_names_at formula.True = []
formula_names_at formula.False = []
formula_names_at (formula.Atom name parts) = name ∷ all_names (map term_names parts)
formula_names_at (formula.Equal left right) = term_names left ++ term_names right
formula_names_at (formula.Unequal left right) = term_names left ++ term_names right
formula_names_at (formula.Not part) = part
formula_names_at (formula.And parts) = all_names parts
formula_names_at (formula.Or parts) = all_names parts
formula_names_at (formula.Implies left right) = left ++ right
formula_names_at (formula.If left right) = left ++ right
formula_names_at (formula.Iff left right) = left ++ right
formula_names_at (formula.Xor left right) = left ++ right
formula_names_at (formula.Nand left right) = left ++ right
formula_names_at (formula.Nor left right) = left ++ right
formula_names_at (formula.ForAll bounds body) = all_names (map bound_names bounds) ++ body
formula_names_at (formula.Exists bounds body) = all_names (map bound_names bounds) ++ body

-- the names in a formula, those in its terms and types too
unfoldable pub formula_names : RawFormula → List Bytes
formula_names = fold-RawFormula (List Bytes) formula_names_at

-- ---- files

-- the label of an entry, the subject of a declaration, and the names in its body
abbrev pub entry_names : Entry → List Bytes
entry_names (Declaration label subject body) = label ∷ subject ∷ type_names body
entry_names (Statement label role formula) = label ∷ formula_names formula

-- the names in a file
abbrev pub file_names : File → List Bytes
file_names file = all_names (map entry_names file.entries)

-- each name in the file has at least one byte, and only bytes from 32 to 126
abbrev pub IsWritableFile : File → Type 0
IsWritableFile file = AllByRecursion IsWritable (file_names file)
