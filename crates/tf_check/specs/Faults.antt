-- The faults of a file, in the order in which they are met, and the problem that it stands for where
-- it has none. Three passes go through the file: declarations of constructors, other declarations,
-- statements. Each reads the one signature of the file.
use Rattle.std.specs.Prelude.{ℕ, Bool, true, false, not, ◌==◌, ◌&&◌, ◌||◌, List, [], ◌∷◌, map}
use Rattle.std.specs.Prelude.{Option, Some, None, is_some}
use Rattle.tptp_syntax.specs.declared.entry.File.{File}
use Rattle.tptp_syntax.specs.declared.entry.StatedRole.{StatedRole}
use Rattle.tptp_syntax.specs.declared.entry.StatedRole.TheVariants as stated
use Rattle.tf_core.specs.declared.problem.Problem.{Problem}
use Rattle.tf_core.specs.declared.problem.Stated.{Stated}
use Rattle.tf_core.specs.declared.problem.Role.{Role}
use Rattle.tf_core.specs.declared.problem.Role.TheVariants.{Hypothesis, Conjecture}
use Rattle.tf_core.specs.declared.signature.Constructor.{Constructor}
use Rattle.tf_core.specs.declared.signature.Symbol.{Symbol}
use Rattle.tf_core.specs.declared.signature.Signature.{Signature}
use Rattle.tf_check.specs.declared.error.TypeError.{TypeError}
use Rattle.tf_check.specs.declared.error.TypeError.TheVariants.{BadDeclaration, Redeclared}
use Rattle.tf_check.specs.declared.error.TypeError.TheVariants.{SecondConjecture}
use Rattle.tf_check.specs.Visited.{Visited, good, expect, in_turn, ◌>>=◌, ◌>>◌}
use Rattle.tf_check.specs.Kinds.{kind}
use Rattle.tf_check.specs.Types.{constructor_named, reading}
use Rattle.tf_check.specs.Equal.{same_profile}
use Rattle.tf_check.specs.Entries.{Declared, RawStatement, constructor_declarations}
use Rattle.tf_check.specs.Entries.{symbol_declarations, statements}
use Rattle.tf_check.specs.Signature.{declared_constructor, symbol_named, signature_of}
use Rattle.tf_check.specs.Terms.{expect_number, number_of}
use Rattle.tf_check.specs.Formulas.{formula_reading, prefix_types}

-- ---- declarations

-- the name is declared first with this number of arguments, and its number is allowed
abbrev pub constructor_agrees : Declared → ℕ → Option (ℕ × Constructor) → Visited (Unit {0})
constructor_agrees d arity None = expect false (Redeclared d.entry d.name)
constructor_agrees d arity (Some (place, first)) = do
  expect (first.arity == arity) (Redeclared d.entry d.name)
  expect_number place

-- the declaration of a constructor
abbrev pub visited_constructor : Signature → Declared → Visited (Unit {0})
visited_constructor signature d = do
  expect (is_some (kind d.body).arity) (BadDeclaration d.entry)
  constructor_agrees d (declared_constructor d).arity
      (constructor_named d.name signature.constructors)

-- The name is declared first as a symbol of this type, and its number is allowed. It is none where
-- it is a constructor.
abbrev pub symbol_agrees : Signature → Declared → Symbol → Option (ℕ × Symbol) → Visited (Unit {0})
symbol_agrees signature d symbol None = expect false (Redeclared d.entry d.name)
symbol_agrees signature d symbol (Some (place, first)) = do
  expect (same_profile first symbol) (Redeclared d.entry d.name)
  expect_number (number_of signature place)

-- the declaration of a symbol
abbrev pub visited_symbol : Signature → Declared → Visited (Unit {0})
visited_symbol signature d = do
  symbol ← (reading d.entry signature.constructors d.body).as_symbol d.name []
  symbol_agrees signature d symbol (symbol_named d.name signature)

-- ---- statements

abbrev pub is_conjecture : StatedRole → Bool
is_conjecture stated.Hypothesis = false
is_conjecture stated.Conjecture = true

abbrev pub role_of : StatedRole → Role
role_of stated.Hypothesis = Hypothesis
role_of stated.Conjecture = Conjecture

-- a statement behind others, among which is a conjecture or not
abbrev pub visited_statement : Signature → Bool → RawStatement → Visited Stated
visited_statement signature conjectured statement = do
  expect (not (conjectured && is_conjecture statement.role)) (SecondConjecture statement.entry)
  body ← formula_reading statement.entry signature statement.formula true []
  good (record {
    name = statement.label;
    role = role_of statement.role;
    type_variables = prefix_types statement.formula;
    body = body;
  })

abbrev pub visited_statements : Signature → Bool → List RawStatement → Visited (List Stated)
visited_statements signature conjectured [] = good []
visited_statements signature conjectured (statement ∷ rest) = do
  formula ← visited_statement signature conjectured statement
  formulas ← visited_statements signature (conjectured || is_conjecture statement.role) rest
  good (formula ∷ formulas)

-- ---- files

abbrev pub visited_file : Signature → File → Visited Problem
visited_file signature file = do
  constructors ← in_turn (map (visited_constructor signature) (constructor_declarations file))
  symbols ← in_turn (map (visited_symbol signature) (symbol_declarations file))
  formulas ← visited_statements signature false (statements file)
  good (record { signature = signature; formulas = formulas })

-- all faults of a file, of which the first refuses it
unfoldable pub faults : File → List TypeError
faults file = (visited_file (signature_of file) file).faults

-- the problem that a file stands for, where it has no fault
unfoldable pub problem_of : File → Problem
problem_of file = (visited_file (signature_of file) file).value
