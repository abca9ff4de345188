-- What a tree stands for, as it is written: a term or formula over the symbols that have the names.
use Rattle.std.specs.Prelude.{length, ℕ, Bool, true, false, if◌then◌else◌, List, [], ◌∷◌, map}
use Rattle.std.specs.Prelude.{Option, Some, None}
use Rattle.fof_models.specs.declared.formula.FofTerm.{FofTerm}
use Rattle.fof_models.specs.declared.formula.FofTerm.TheVariants as T
use Rattle.fof_models.specs.declared.formula.Fof.{Fof}
use Rattle.fof_models.specs.declared.formula.Fof.TheVariants as F
use Rattle.tptp_syntax.specs.declared.types.Bound.{Bound}
use Rattle.tptp_syntax.specs.declared.types.TypeExpr.{TypeExpr}
use Rattle.tptp_syntax.specs.declared.term.RawTerm.{RawTerm}
use Rattle.tptp_syntax.specs.declared.term.RawTerm.TheOpen.{RawTerm-F}
use Rattle.tptp_syntax.specs.declared.term.RawTerm.TheOpen as raw_term
use Rattle.tptp_syntax.specs.declared.term.RawTerm.TheFolds.{fold-RawTerm}
use Rattle.tptp_syntax.specs.declared.formula.RawFormula.{RawFormula}
use Rattle.tptp_syntax.specs.declared.formula.RawFormula.TheOpen.{RawFormula-F}
use Rattle.tptp_syntax.specs.declared.formula.RawFormula.TheOpen as raw
use Rattle.tptp_syntax.specs.declared.formula.RawFormula.TheFolds.{fold-RawFormula}
use Rattle.fof_text.specs.Names.{place_of}

-- A name stands for the symbol at its place among the names, and a variable for the binder at its
-- place among the bound variables, the nearest first. What isn't there has the length of the list
-- as its place, where no symbol and no binder stands: then the formula is not sound.

-- what no first-order formula over these symbols is: an atom of a symbol that isn't there
abbrev pub nothing : List (List ℕ) → Fof
nothing names = F.Atom (length names) []

-- one layer of what a term stands for
abbrev pub term_meant_step : List (List ℕ) → RawTerm-F (List (List ℕ) → FofTerm) → List (List ℕ)
    → FofTerm
term_meant_step names (raw_term.Variable x) bound = T.Var (place_of bound x)
term_meant_step names (raw_term.Apply n ts) bound =
    T.Apply (place_of names n) (map (λ (t : List (List ℕ) → FofTerm). t bound) ts)
term_meant_step names raw_term.Individuals bound = T.Apply (length names) []

-- what a term stands for, under bound variables
unfoldable pub term_meant : List (List ℕ) → RawTerm → List (List ℕ) → FofTerm
term_meant names = fold-RawTerm (List (List ℕ) → FofTerm) (term_meant_step names)

-- whether a bound variable is written without a type
abbrev pub is_untyped : Option TypeExpr → Bool
is_untyped None = true
is_untyped (Some kind) = false

-- A binder for each of the variables. One that has a type is in no first-order formula.
abbrev pub bind : List (List ℕ) → (Fof → Fof) → List Bound → (List (List ℕ) → Fof) → List (List ℕ)
    → Fof
bind names binder [] body bound = body bound
bind names binder (x ∷ xs) body bound =
    if is_untyped x.kind then binder (bind names binder xs body (x.name ∷ bound)) else nothing names

-- one layer of what a formula stands for
abbrev pub formula_meant_step : List (List ℕ) → RawFormula-F (List (List ℕ) → Fof) → List (List ℕ)
    → Fof
formula_meant_step names raw.True bound = F.True
formula_meant_step names raw.False bound = F.False
formula_meant_step names (raw.Atom n ts) bound =
    F.Atom (place_of names n) (map (λ t. term_meant names t bound) ts)
formula_meant_step names (raw.Equal s t) bound =
    F.Equal (term_meant names s bound) (term_meant names t bound)
formula_meant_step names (raw.Unequal s t) bound =
    F.Not (F.Equal (term_meant names s bound) (term_meant names t bound))
formula_meant_step names (raw.Not u) bound = F.Not (u bound)
formula_meant_step names (raw.And us) bound = F.And (map (λ (u : List (List ℕ) → Fof). u bound) us)
formula_meant_step names (raw.Or us) bound = F.Or (map (λ (u : List (List ℕ) → Fof). u bound) us)
formula_meant_step names (raw.Implies u v) bound = F.Implies (u bound) (v bound)
formula_meant_step names (raw.If u v) bound = nothing names
formula_meant_step names (raw.Iff u v) bound = nothing names
formula_meant_step names (raw.Xor u v) bound = nothing names
formula_meant_step names (raw.Nand u v) bound = nothing names
formula_meant_step names (raw.Nor u v) bound = nothing names
formula_meant_step names (raw.ForAll xs u) bound = bind names F.ForAll xs u bound
formula_meant_step names (raw.Exists xs u) bound = bind names F.Exists xs u bound

-- what a formula stands for, under bound variables
unfoldable pub formula_meant : List (List ℕ) → RawFormula → List (List ℕ) → Fof
formula_meant names = fold-RawFormula (List (List ℕ) → Fof) (formula_meant_step names)
