-- The names at the heads of the atoms and of the applications of a formula, from left to right, a
-- name before its arguments.
use Rattle.std.specs.Prelude.{ℕ, Bool, true, false, if◌then◌else◌, List, [], ◌∷◌, ◌++◌, length, drop, replicate, flat_map}
use Rattle.std.specs.Prelude.{Some, None, option_map, unwrap_or}
use Rattle.tptp_syntax.specs.declared.term.RawTerm.{RawTerm}
use Rattle.tptp_syntax.specs.declared.term.RawTerm.TheOpen.{RawTerm-F}
use Rattle.tptp_syntax.specs.declared.term.RawTerm.TheOpen as term
use Rattle.tptp_syntax.specs.declared.term.RawTerm.TheFolds.{fold-RawTerm}
use Rattle.tptp_syntax.specs.declared.formula.RawFormula.{RawFormula}
use Rattle.tptp_syntax.specs.declared.formula.RawFormula.TheOpen.{RawFormula-F}
use Rattle.tptp_syntax.specs.declared.formula.RawFormula.TheOpen as formula
use Rattle.tptp_syntax.specs.declared.formula.RawFormula.TheFolds.{fold-RawFormula}
use Rattle.tf_core.specs.declared.signature.Symbol.{Symbol}
use Rattle.tf_check.specs.Types.{individuals, found}

-- a name with the number of arguments and the kind that it has where it stands
pub record Occurrence : Type 0 where
  pub name : List ℕ
  pub arguments : ℕ
  pub is_function : Bool

-- the symbol over `$i` that the name becomes, if it is not declared
abbrev pub over_individuals : Occurrence → Symbol
over_individuals occurrence =
    record {
      name = occurrence.name;
      parameters = 0;
      arguments = replicate occurrence.arguments individuals;
      result = if occurrence.is_function then Some individuals else None;
    }

-- How many type arguments stand before the terms: the parameters of the symbol as it is declared.
-- The names in type arguments are those of types.
abbrev pub parameters_in : List Symbol → List ℕ → ℕ
parameters_in declared name =
    unwrap_or
    (option_map (λ (at : ℕ × Symbol). at.1.parameters)
    (found (λ (symbol : Symbol). symbol.name) name declared))
    0

abbrev pub all_of : List (List Occurrence) → List Occurrence
all_of = flat_map (λ names. names)

-- under the number of type arguments that each name takes
module _ (parameters : List ℕ → ℕ) where
  abbrev pub names_of_term_at : RawTerm-F (List Occurrence) → List Occurrence
  names_of_term_at (term.Variable name) = []
  names_of_term_at (term.Apply name arguments) =
      record { name = name; arguments = length arguments; is_function = true }
      ∷ all_of (drop (parameters name) arguments)
  names_of_term_at term.Individuals = []

  unfoldable pub names_of_term : RawTerm → List Occurrence
  names_of_term = fold-RawTerm (List Occurrence) names_of_term_at

  abbrev pub names_of_formula_at : RawFormula-F (List Occurrence) → List Occurrence
  names_of_formula_at formula.True = []
  names_of_formula_at formula.False = []
  names_of_formula_at (formula.Atom name arguments) =
      record { name = name; arguments = length arguments; is_function = false }
      ∷ flat_map names_of_term (drop (parameters name) arguments)
  names_of_formula_at (formula.Equal left right) = names_of_term left ++ names_of_term right
  names_of_formula_at (formula.Unequal left right) = names_of_term left ++ names_of_term right
  names_of_formula_at (formula.Not part) = part
  names_of_formula_at (formula.And parts) = all_of parts
  names_of_formula_at (formula.Or parts) = all_of parts
  names_of_formula_at (formula.Implies left right) = left ++ right
  names_of_formula_at (formula.If left right) = left ++ right
  names_of_formula_at (formula.Iff left right) = left ++ right
  names_of_formula_at (formula.Xor left right) = left ++ right
  names_of_formula_at (formula.Nand left right) = left ++ right
  names_of_formula_at (formula.Nor left right) = left ++ right
  names_of_formula_at (formula.ForAll bounds body) = body
  names_of_formula_at (formula.Exists bounds body) = body

  unfoldable pub names_of_formula : RawFormula → List Occurrence
  names_of_formula = fold-RawFormula (List Occurrence) names_of_formula_at
