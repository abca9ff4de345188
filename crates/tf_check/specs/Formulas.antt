-- Formulas: what they stand for under a signature, and the faults in them from left to right.
use Rattle.std.specs.Prelude.{ℕ, ◌+◌, Bool, false, List, [], ◌∷◌, ◌++◌, map}
use Rattle.std.specs.Prelude.{Option, Some, None, if◌then◌else◌}
use Rattle.tptp_syntax.specs.declared.term.RawTerm.{RawTerm}
use Rattle.tptp_syntax.specs.declared.types.Bound.{Bound}
use Rattle.tptp_syntax.specs.declared.types.TypeExpr.{TypeExpr}
use Rattle.tptp_syntax.specs.declared.formula.RawFormula.{RawFormula}
use Rattle.tptp_syntax.specs.declared.formula.RawFormula.TheOpen.{RawFormula-F}
use Rattle.tptp_syntax.specs.declared.formula.RawFormula.TheOpen as layer
use Rattle.tptp_syntax.specs.declared.formula.RawFormula.TheFolds.{fold-RawFormula}
use Rattle.tf_core.specs.declared.ty.Ty.{Ty}
use Rattle.tf_core.specs.declared.formula.Formula.{Formula}
use Rattle.tf_core.specs.declared.formula.Formula.TheVariants as f
use Rattle.tf_core.specs.declared.signature.Signature.{Signature}
use Rattle.tf_check.specs.declared.error.TypeError.TheVariants.{Mismatch, TypeQuantifier}
use Rattle.tf_check.specs.Scope.{Scope, TypeVariable, TermVariable}
use Rattle.tf_check.specs.Visited.{Visited, good, expect, in_turn, ◌>>=◌, ◌>>◌}
use Rattle.tf_check.specs.Kinds.{is_type_kind}
use Rattle.tf_check.specs.Types.{individuals, reading}
use Rattle.tf_core.specs.Types.{same_type}
use Rattle.tf_check.specs.Terms.{term_reading, atom_of}

-- ---- binders

-- what a list of bound variables gives: the names that are bound behind it, and the types of its
-- term variables, in order
pub record Binders : Type 0 where
  pub scope : Scope
  pub types : List Ty

-- whether a variable is bound with `$tType`
abbrev pub binds_type : Bound → Bool
binds_type bound = is_type_kind bound.kind

-- one quantifier for each type, the first outermost
abbrev pub quantified : (Ty → Formula → Formula) → List Ty → Formula → Formula
quantified make [] body = body
quantified make (ty ∷ types) body = make ty (quantified make types body)

-- how many of the variables are type variables
abbrev pub types_bound : List Bound → ℕ
types_bound [] = 0
types_bound (bound ∷ bounds) = (if binds_type bound then 1 else 0) + types_bound bounds

-- one layer of the number of type variables of the leading prefix
abbrev pub prefix_types_at : RawFormula-F ℕ → ℕ
prefix_types_at (layer.ForAll bounds body) = types_bound bounds + body
prefix_types_at _ = 0

-- How many type variables the leading prefix binds: the longest front of nested `!`.
unfoldable pub prefix_types : RawFormula → ℕ
prefix_types = fold-RawFormula ℕ prefix_types_at

-- what a formula stands for, in the leading prefix or elsewhere, under the names that are bound
abbrev pub FormulaReading : Type 0
FormulaReading = Bool → Scope → Visited Formula

-- the parts of a formula, which stand in no prefix
abbrev pub inside_each : List FormulaReading → Scope → List (Visited Formula)
inside_each parts scope = map (λ (part : FormulaReading). part false scope) parts

-- of the entry, under the signature of the file
module _ (entry : ℕ) (signature : Signature) where
  -- the type of a term variable
  abbrev pub variable_type : Option TypeExpr → Scope → Visited Ty
  variable_type None scope = good individuals
  variable_type (Some expression) scope =
      (reading entry signature.constructors expression).as_type scope

  -- A type variable, which is allowed in the leading prefix alone.
  abbrev pub type_binder : Bool → List ℕ → Scope → Visited Binders
  type_binder leading name scope = do
    expect leading (TypeQuantifier entry)
    good (record { scope = TypeVariable name ∷ scope; types = [] })

  abbrev pub term_binder : List ℕ → Option TypeExpr → Scope → Visited Binders
  term_binder name kind scope = do
    ty ← variable_type kind scope
    good (record { scope = TermVariable name ty ∷ scope; types = ty ∷ [] })

  abbrev pub binder : Bool → Bound → Scope → Visited Binders
  binder leading bound scope =
      if binds_type bound then type_binder leading bound.name scope
      else term_binder bound.name bound.kind scope

  -- the variables of a list from left to right, each under those before it
  abbrev pub binders : Bool → List Bound → Scope → Visited Binders
  binders leading [] scope = good (record { scope = scope; types = [] })
  binders leading (bound ∷ bounds) scope = do
    first ← binder leading bound scope
    inner ← binders leading bounds first.scope
    good (record { scope = inner.scope; types = first.types ++ inner.types })

  -- ---- formulas

  -- what a formula stands for, in the leading prefix or elsewhere, under the names that are bound
  abbrev pub two : (Formula → Formula → Formula) → FormulaReading → FormulaReading → Scope
      → Visited Formula
  two make left right scope = do
    a ← left false scope
    b ← right false scope
    good (make a b)

  abbrev pub several : (List Formula → Formula) → List FormulaReading → Scope → Visited Formula
  several make parts scope = do
    bodies ← in_turn (inside_each parts scope)
    good (make bodies)

  -- an equation: its left side, its right side, and then their types
  abbrev pub equation : (Formula → Formula) → RawTerm → RawTerm → Scope → Visited Formula
  equation make left right scope = do
    a ← (term_reading entry signature left).as_term scope
    b ← (term_reading entry signature right).as_term scope
    expect (same_type a.1 b.1) (Mismatch entry a.1 b.1)
    good (make (f.Equal a.1 a.0 b.0))

  abbrev pub quantifier : (Ty → Formula → Formula) → Bool → List Bound → FormulaReading → Scope
      → Visited Formula
  quantifier make leading bounds body scope = do
    inner ← binders leading bounds scope
    scoped ← body leading inner.scope
    good (quantified make inner.types scoped)

  abbrev pub formula_at : RawFormula-F FormulaReading → FormulaReading
  formula_at layer.True leading scope = good f.True
  formula_at layer.False leading scope = good f.False
  formula_at (layer.Atom name parts) leading scope = atom_of entry signature name parts scope
  formula_at (layer.Equal left right) leading scope = equation (λ body. body) left right scope
  formula_at (layer.Unequal left right) leading scope = equation f.Not left right scope
  formula_at (layer.Not part) leading scope = do
    body ← part false scope
    good (f.Not body)
  formula_at (layer.And parts) leading scope = several f.And parts scope
  formula_at (layer.Or parts) leading scope = several f.Or parts scope
  formula_at (layer.Implies left right) leading scope = two f.Implies left right scope
  formula_at (layer.If left right) leading scope = two f.If left right scope
  formula_at (layer.Iff left right) leading scope = two f.Iff left right scope
  formula_at (layer.Xor left right) leading scope = two f.Xor left right scope
  formula_at (layer.Nand left right) leading scope = two f.Nand left right scope
  formula_at (layer.Nor left right) leading scope = two f.Nor left right scope
  formula_at (layer.ForAll bounds body) leading scope =
      quantifier f.ForAll leading bounds body scope
  formula_at (layer.Exists bounds body) leading scope =
      quantifier f.Exists false bounds body scope

  unfoldable pub formula_reading : RawFormula → FormulaReading
  formula_reading = fold-RawFormula FormulaReading formula_at
