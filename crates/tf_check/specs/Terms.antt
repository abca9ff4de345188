-- Terms and atoms: what they stand for under a signature, and the faults in them from left to right,
-- a symbol before its arguments.
use Rattle.std.specs.Prelude.{ℕ, ◌+◌, ◌==◌, List, length, map, take, drop, codes}
use Rattle.std.specs.Prelude.{Option, Some, None, nat_le, zip}
use Rattle.tptp_syntax.specs.declared.term.RawTerm.{RawTerm}
use Rattle.tptp_syntax.specs.declared.term.RawTerm.TheOpen.{RawTerm-F}
use Rattle.tptp_syntax.specs.declared.term.RawTerm.TheOpen as layer
use Rattle.tptp_syntax.specs.declared.term.RawTerm.TheFolds.{fold-RawTerm}
use Rattle.tf_core.specs.declared.ty.Ty.{Ty}
use Rattle.tf_core.specs.declared.term.Term.{Term}
use Rattle.tf_core.specs.declared.term.Term.TheVariants.{Var, Apply}
use Rattle.tf_core.specs.declared.formula.Formula.{Formula}
use Rattle.tf_core.specs.declared.formula.Formula.TheVariants.{False, Atom}
use Rattle.tf_core.specs.declared.signature.Symbol.{Symbol}
use Rattle.tf_core.specs.declared.signature.Signature.{Signature}
use Rattle.tf_core.specs.Types.{instantiate}
use Rattle.tf_check.specs.declared.terms.Arguments.{Arguments}
use Rattle.tf_check.specs.declared.error.TypeError.TheVariants.{FreeVariable, Arity, Mismatch}
use Rattle.tf_check.specs.declared.error.TypeError.TheVariants.{NotATerm, NotAFormula, TooManySymbols}
use Rattle.tf_check.specs.Scope.{Scope, Meaning, Unbound, OfType, OfTerm, meaning}
use Rattle.tf_check.specs.Visited.{Visited, good, bad, expect, in_turn, ◌>>=◌, ◌>>◌}
use Rattle.tf_check.specs.Types.{individuals, constructor_named, type_variable, type_applied}
use Rattle.tf_core.specs.Types.{same_type}
use Rattle.tf_check.specs.Signature.{symbol_named}

-- ---- limits

-- how many constructors and symbols a signature may have besides `$i`
abbrev pub most_symbols : ℕ
most_symbols = 65535

-- the name with this number is allowed, where they are counted from 1, `$i` not counted
abbrev pub expect_number : ℕ → Visited (Unit {0})
expect_number number = expect (nat_le number most_symbols) (TooManySymbols (most_symbols + 1))

-- the number of the symbol at the place
abbrev pub number_of : Signature → ℕ → ℕ
number_of signature place = length signature.constructors + place

-- ---- terms

-- a term and its type
abbrev pub Typed : Type 0
Typed = Term × Ty

abbrev pub no_term : Typed
no_term = (Var 0, individuals)

-- what is said of a raw term, under the names that are bound
pub record TermReading : Type 0 where
  -- as a type argument
  pub as_type : Scope → Visited Ty
  -- as a term, with its type
  pub as_term : Scope → Visited Typed

-- a variable in the place of a term
abbrev pub term_variable : ℕ → List ℕ → Meaning → Visited Typed
term_variable entry name Unbound = bad (FreeVariable entry name) no_term
term_variable entry name (OfType i) = bad (NotATerm entry name) no_term
term_variable entry name (OfTerm i ty) = good (Var i, ty)

-- a term in the place of an argument of the type
abbrev pub term_in_place : ℕ → Ty → Visited Typed → Visited Term
term_in_place entry expected argument = do
  typed ← argument
  expect (same_type expected typed.1) (Mismatch entry expected typed.1)
  good typed.0

abbrev pub terms_in_places : ℕ → List Ty → List (Visited Typed) → Visited (List Term)
terms_in_places entry types arguments =
    in_turn (map (λ (place : Ty × Visited Typed). term_in_place entry place.0 place.1) (zip types arguments))

abbrev pub type_readings : List TermReading → Scope → List (Visited Ty)
type_readings parts scope = map (λ (part : TermReading). part.as_type scope) parts

abbrev pub term_readings : List TermReading → Scope → List (Visited Typed)
term_readings parts scope = map (λ (part : TermReading). part.as_term scope) parts

-- The arguments of a symbol: first their number, then the types, then each term and its type.
abbrev pub arguments_of : ℕ → Symbol → List TermReading → Scope → Visited Arguments
arguments_of entry symbol parts scope = do
  expect (symbol.parameters + length symbol.arguments == length parts)
      (Arity entry symbol.name (symbol.parameters + length symbol.arguments) (length parts))
  types ← in_turn (type_readings (take symbol.parameters parts) scope)
  terms ← terms_in_places entry (map (instantiate types) symbol.arguments)
      (term_readings (drop symbol.parameters parts) scope)
  good (record { types = types; terms = terms })

-- a function in the place of a term
abbrev pub function_applied : ℕ → List ℕ → ℕ → Option Ty → Visited Arguments → Visited Typed
function_applied entry name place None arguments = bad (NotATerm entry name) no_term
function_applied entry name place (Some result) arguments = do
  given ← arguments
  good (Apply place given.types given.terms, instantiate given.types result)

-- a name in the place of a term
abbrev pub term_applied : ℕ → Signature → List ℕ → Option (ℕ × Symbol) → List TermReading → Scope
    → Visited Typed
term_applied entry signature name None parts scope = bad (NotATerm entry name) no_term
term_applied entry signature name (Some (place, symbol)) parts scope = do
  expect_number (number_of signature place)
  function_applied entry name place symbol.result (arguments_of entry symbol parts scope)

-- of the entry, under the signature of the file
module _ (entry : ℕ) (signature : Signature) where
  abbrev pub type_argument_at : RawTerm-F TermReading → Scope → Visited Ty
  type_argument_at (layer.Variable name) scope = type_variable entry name (meaning scope name)
  type_argument_at (layer.Apply name parts) scope =
      type_applied entry name (constructor_named name signature.constructors)
      (type_readings parts scope)
  type_argument_at layer.Individuals scope = good individuals

  abbrev pub term_at : RawTerm-F TermReading → Scope → Visited Typed
  term_at (layer.Variable name) scope = term_variable entry name (meaning scope name)
  term_at (layer.Apply name parts) scope =
      term_applied entry signature name (symbol_named name signature) parts scope
  term_at layer.Individuals scope = bad (NotATerm entry (codes "$i")) no_term

  abbrev pub term_step : RawTerm-F TermReading → TermReading
  term_step part = record { as_type = type_argument_at part; as_term = term_at part }

  unfoldable pub term_reading : RawTerm → TermReading
  term_reading = fold-RawTerm TermReading term_step

  -- ---- atoms

  -- a predicate in the place of an atom
  abbrev pub predicate_applied : List ℕ → ℕ → Option Ty → Visited Arguments → Visited Formula
  predicate_applied name place (Some result) arguments = bad (NotAFormula entry name) False
  predicate_applied name place None arguments = do
    given ← arguments
    good (Atom place given.types given.terms)

  -- a name in the place of an atom
  abbrev pub atom_applied : List ℕ → Option (ℕ × Symbol) → List TermReading → Scope → Visited Formula
  atom_applied name None parts scope = bad (NotAFormula entry name) False
  atom_applied name (Some (place, symbol)) parts scope = do
    expect_number (number_of signature place)
    predicate_applied name place symbol.result (arguments_of entry symbol parts scope)

  abbrev pub atom_of : List ℕ → List RawTerm → Scope → Visited Formula
  atom_of name parts scope =
      atom_applied name (symbol_named name signature) (map term_reading parts) scope
