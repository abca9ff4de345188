-- The entries of a file with their indices: the declarations of constructors, those of symbols, and
-- the statements.
use Rattle.std.specs.Prelude.{ℕ, not, List, [], ◌∷◌, filter}
use Rattle.std.specs.List.{enumerate_from}
use Rattle.tptp_syntax.specs.declared.entry.Entry.{Entry}
use Rattle.tptp_syntax.specs.declared.entry.Entry.TheVariants.{Declaration, Statement}
use Rattle.tptp_syntax.specs.declared.entry.File.{File}
use Rattle.tptp_syntax.specs.declared.entry.StatedRole.{StatedRole}
use Rattle.tptp_syntax.specs.declared.types.TypeExpr.{TypeExpr}
use Rattle.tptp_syntax.specs.declared.formula.RawFormula.{RawFormula}
use Rattle.tf_check.specs.Kinds.{kind}

pub record Declared : Type 0 where
  pub entry : ℕ
  pub name : List ℕ
  pub body : TypeExpr

pub record RawStatement : Type 0 where
  pub entry : ℕ
  pub label : List ℕ
  pub role : StatedRole
  pub formula : RawFormula

-- the statement with the label in the entry
abbrev pub statement_at : ℕ → List ℕ → StatedRole → RawFormula → RawStatement
statement_at entry label role formula =
    record { entry = entry; label = label; role = role; formula = formula }

abbrev pub declared : List (ℕ × Entry) → List Declared
declared [] = []
declared ((entry, Declaration label name body) ∷ rest) =
    record { entry = entry; name = name; body = body } ∷ declared rest
declared ((entry, Statement label role formula) ∷ rest) = declared rest

abbrev pub stated : List (ℕ × Entry) → List RawStatement
stated [] = []
stated ((entry, Declaration label name body) ∷ rest) = stated rest
stated ((entry, Statement label role formula) ∷ rest) =
    statement_at entry label role formula ∷ stated rest

-- the entries with their indices
abbrev pub entries_of : File → List (ℕ × Entry)
entries_of file = enumerate_from 0 file.entries

-- the declarations of constructors
abbrev pub constructor_declarations : File → List Declared
constructor_declarations file = filter (λ d. (kind d.body).is_kind) (declared (entries_of file))

-- all other declarations
abbrev pub symbol_declarations : File → List Declared
symbol_declarations file = filter (λ d. not (kind d.body).is_kind) (declared (entries_of file))

abbrev pub statements : File → List RawStatement
statements file = stated (entries_of file)
