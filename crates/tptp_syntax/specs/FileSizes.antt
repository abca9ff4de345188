-- How large a file is, in nodes and bound names, and that its chains have two parts at least.
use Rattle.std.specs.Prelude.{ℕ, ◌+◌, ◌&&◌, Bool, true, List, length, leb, map, sum}
use Rattle.std.specs.Prelude.{Option, Some, None, IsTrue}
use Rattle.std.specs.List.{list_all}
use Rattle.tptp_syntax.specs.declared.types.TypeExpr.{TypeExpr}
use Rattle.tptp_syntax.specs.declared.types.TypeExpr.TheOpen.{TypeExpr-F, Bound-F}
use Rattle.tptp_syntax.specs.declared.types.TypeExpr.TheOpen as type
use Rattle.tptp_syntax.specs.declared.types.TypeExpr.TheFolds.{fold-TypeExpr}
use Rattle.tptp_syntax.specs.declared.types.Bound.{Bound}
use Rattle.tptp_syntax.specs.declared.term.RawTerm.{RawTerm}
use Rattle.tptp_syntax.specs.declared.term.RawTerm.TheOpen.{RawTerm-F}
use Rattle.tptp_syntax.specs.declared.term.RawTerm.TheOpen as term
use Rattle.tptp_syntax.specs.declared.term.RawTerm.TheFolds.{fold-RawTerm}
use Rattle.tptp_syntax.specs.declared.formula.RawFormula.{RawFormula}
use Rattle.tptp_syntax.specs.declared.formula.RawFormula.TheOpen.{RawFormula-F}
use Rattle.tptp_syntax.specs.declared.formula.RawFormula.TheOpen as formula
use Rattle.tptp_syntax.specs.declared.formula.RawFormula.TheFolds.{fold-RawFormula}
use Rattle.tptp_syntax.specs.declared.entry.Entry.{Entry}
use Rattle.tptp_syntax.specs.declared.entry.Entry.TheVariants.{Declaration, Statement}
use Rattle.tptp_syntax.specs.declared.entry.File.{File}

-- ---- nodes and bound names

abbrev pub kind_nodes : Option ℕ → ℕ
kind_nodes None = 0
kind_nodes (Some nodes) = nodes

abbrev pub type_nodes_at : TypeExpr-F ℕ ℕ → ℕ
type_nodes_at (type.Variable name) = 1
type_nodes_at (type.Apply name parts) = 1 + sum parts
type_nodes_at type.Individuals = 1
type_nodes_at type.Truth = 1
type_nodes_at type.Types = 1
type_nodes_at (type.Product parts) = 1 + sum parts
type_nodes_at (type.Map left right) = 1 + (left + right)
type_nodes_at (type.Quantified bounds body) = 1 + (sum bounds + body)

-- a bound name, with the nodes of its type
abbrev pub bound_nodes_at : Bound-F ℕ ℕ → ℕ
bound_nodes_at bound = 1 + kind_nodes bound.kind

-- the nodes and the bound names of a type expression
unfoldable pub type_nodes : TypeExpr → ℕ
type_nodes = fold-TypeExpr ℕ ℕ type_nodes_at bound_nodes_at

abbrev pub bound_type_nodes : Option TypeExpr → ℕ
bound_type_nodes None = 0
bound_type_nodes (Some expression) = type_nodes expression

abbrev pub bound_nodes : Bound → ℕ
bound_nodes bound = 1 + bound_type_nodes bound.kind

abbrev pub term_nodes_at : RawTerm-F ℕ → ℕ
term_nodes_at (term.Variable name) = 1
term_nodes_at (term.Apply name parts) = 1 + sum parts
term_nodes_at term.Individuals = 1

unfoldable pub term_nodes : RawTerm → ℕ
term_nodes = fold-RawTerm ℕ term_nodes_at

abbrev pub formula_nodes_at : RawFormula-F ℕ → ℕ
formula_nodes_at formula.True = 1
formula_nodes_at formula.False = 1
formula_nodes_at (formula.Atom name parts) = 1 + sum (map term_nodes parts)
formula_nodes_at (formula.Equal left right) = 1 + (term_nodes left + term_nodes right)
formula_nodes_at (formula.Unequal left right) = 1 + (term_nodes left + term_nodes right)
formula_nodes_at (formula.Not part) = 1 + part
formula_nodes_at (formula.And parts) = 1 + sum parts
formula_nodes_at (formula.Or parts) = 1 + sum parts
formula_nodes_at (formula.Implies left right) = 1 + (left + right)
formula_nodes_at (formula.If left right) = 1 + (left + right)
formula_nodes_at (formula.Iff left right) = 1 + (left + right)
formula_nodes_at (formula.Xor left right) = 1 + (left + right)
formula_nodes_at (formula.Nand left right) = 1 + (left + right)
formula_nodes_at (formula.Nor left right) = 1 + (left + right)
formula_nodes_at (formula.ForAll bounds body) = 1 + (sum (map bound_nodes bounds) + body)
formula_nodes_at (formula.Exists bounds body) = 1 + (sum (map bound_nodes bounds) + body)

-- the nodes and the bound names of a formula, those of its terms and types too
unfoldable pub formula_nodes : RawFormula → ℕ
formula_nodes = fold-RawFormula ℕ formula_nodes_at

abbrev pub entry_nodes : Entry → ℕ
entry_nodes (Declaration label name body) = type_nodes body
entry_nodes (Statement label role formula) = formula_nodes formula

-- ---- chains

abbrev pub is_chain : List Bool → Bool
is_chain parts = leb 2 (length parts) && list_all (λ part. part) parts

abbrev pub has_chains_at : RawFormula-F Bool → Bool
has_chains_at formula.True = true
has_chains_at formula.False = true
has_chains_at (formula.Atom name parts) = true
has_chains_at (formula.Equal left right) = true
has_chains_at (formula.Unequal left right) = true
has_chains_at (formula.Not part) = part
has_chains_at (formula.And parts) = is_chain parts
has_chains_at (formula.Or parts) = is_chain parts
has_chains_at (formula.Implies left right) = left && right
has_chains_at (formula.If left right) = left && right
has_chains_at (formula.Iff left right) = left && right
has_chains_at (formula.Xor left right) = left && right
has_chains_at (formula.Nand left right) = left && right
has_chains_at (formula.Nor left right) = left && right
has_chains_at (formula.ForAll bounds body) = body
has_chains_at (formula.Exists bounds body) = body

-- each chain of `&` or `|` has at least two parts
unfoldable pub has_chains : RawFormula → Bool
has_chains = fold-RawFormula Bool has_chains_at

abbrev pub entry_has_chains : Entry → Bool
entry_has_chains (Declaration label name body) = true
entry_has_chains (Statement label role formula) = has_chains formula

-- ---- files

-- how many nodes and bound names a file has, all entries together
abbrev pub file_size : File → ℕ
file_size file = sum (map entry_nodes file.entries)

-- each chain of `&` or `|` in the file has at least two parts
abbrev pub HasPairsFile : File → Type 0
HasPairsFile file = IsTrue (list_all entry_has_chains file.entries)
