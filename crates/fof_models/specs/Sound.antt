-- When untyped terms, formulas and problems are sound: indices in range, symbols in their kind and
-- at their arity, variables bound, and counts within bounds.
use Rattle.std.specs.Prelude.{ℕ, ◌+◌, ◌^◌, ◌<◌, Bool, true, false, not, ◌&&◌, List, [], ◌∷◌, map}
use Rattle.std.specs.Prelude.{length, eqb, leb, ltb, max, sum, slice_get, Option, Some, None, IsTrue}
use Rattle.std.specs.List.{AllByRecursion, list_all}
use Rattle.fof_models.specs.declared.formula.FofTerm.{FofTerm}
use Rattle.fof_models.specs.declared.formula.FofTerm.TheOpen.{FofTerm-F}
use Rattle.fof_models.specs.declared.formula.FofTerm.TheOpen as term
use Rattle.fof_models.specs.declared.formula.FofTerm.TheFolds.{fold-FofTerm}
use Rattle.fof_models.specs.declared.formula.Fof.{Fof}
use Rattle.fof_models.specs.declared.formula.Fof.TheOpen.{Fof-F}
use Rattle.fof_models.specs.declared.formula.Fof.TheOpen as layer
use Rattle.fof_models.specs.declared.formula.Fof.TheFolds.{fold-Fof}
use Rattle.fof_models.specs.declared.problem.FofSymbol.{FofSymbol}
use Rattle.fof_models.specs.declared.problem.FofFormula.{FofFormula}
use Rattle.fof_models.specs.declared.problem.FofProblem.{FofProblem}

abbrev pub is_of_kind : FofSymbol → Bool → Bool
is_of_kind symbol true = symbol.predicate
is_of_kind symbol false = not symbol.predicate

-- the symbol is there, of this kind and with so many arguments
abbrev pub is_symbol : Option FofSymbol → Bool → ℕ → Bool
is_symbol None predicate arity = false
is_symbol (Some symbol) predicate arity = is_of_kind symbol predicate && eqb symbol.arity arity

-- one layer of a sound term, whose parts are tests of the number of binders around
abbrev pub is_term_step : List FofSymbol → FofTerm-F (ℕ → Bool) → ℕ → Bool
is_term_step signature (term.Var i) binders = ltb i binders
is_term_step signature (term.Apply f arguments) binders =
    is_symbol (slice_get signature f) false (length arguments)
    && list_all (λ argument. argument binders) arguments

-- a term under so many binders
unfoldable pub is_term : List FofSymbol → FofTerm → ℕ → Bool
is_term signature = fold-FofTerm (ℕ → Bool) (is_term_step signature)

abbrev pub are_terms : List FofSymbol → List FofTerm → ℕ → Bool
are_terms signature terms binders = list_all (λ t. is_term signature t binders) terms

-- one layer of a formula in which indices, kinds, arities and variables are right
abbrev pub is_formula_step : List FofSymbol → Fof-F (ℕ → Bool) → ℕ → Bool
is_formula_step signature layer.True binders = true
is_formula_step signature layer.False binders = true
is_formula_step signature (layer.Atom p terms) binders =
    is_symbol (slice_get signature p) true (length terms) && are_terms signature terms binders
is_formula_step signature (layer.Equal left right) binders =
    is_term signature left binders && is_term signature right binders
is_formula_step signature (layer.Not a) binders = a binders
is_formula_step signature (layer.And parts) binders = list_all (λ part. part binders) parts
is_formula_step signature (layer.Or parts) binders = list_all (λ part. part binders) parts
is_formula_step signature (layer.Implies a b) binders = a binders && b binders
is_formula_step signature (layer.ForAll body) binders = body (binders + 1)
is_formula_step signature (layer.Exists body) binders = body (binders + 1)

-- a formula under so many binders
unfoldable pub is_formula : List FofSymbol → Fof → ℕ → Bool
is_formula signature = fold-Fof (ℕ → Bool) (is_formula_step signature)

abbrev pub are_formulas : List FofSymbol → List Fof → ℕ → Bool
are_formulas signature formulas binders =
    list_all (λ part. is_formula signature part binders) formulas

-- one layer of the test that no list of parts is shorter than two
abbrev pub has_pairs_step : Fof-F Bool → Bool
has_pairs_step layer.True = true
has_pairs_step layer.False = true
has_pairs_step (layer.Atom p terms) = true
has_pairs_step (layer.Equal left right) = true
has_pairs_step (layer.Not a) = a
has_pairs_step (layer.And parts) = leb 2 (length parts) && list_all (λ part. part) parts
has_pairs_step (layer.Or parts) = leb 2 (length parts) && list_all (λ part. part) parts
has_pairs_step (layer.Implies a b) = a && b
has_pairs_step (layer.ForAll body) = body
has_pairs_step (layer.Exists body) = body

-- each list of conjuncts or disjuncts has at least two items
unfoldable pub has_pairs : Fof → Bool
has_pairs = fold-Fof Bool has_pairs_step

-- one layer of the count of binders
abbrev pub binder_count_step : Fof-F ℕ → ℕ
binder_count_step layer.True = 0
binder_count_step layer.False = 0
binder_count_step (layer.Atom p terms) = 0
binder_count_step (layer.Equal left right) = 0
binder_count_step (layer.Not a) = a
binder_count_step (layer.And parts) = sum parts
binder_count_step (layer.Or parts) = sum parts
binder_count_step (layer.Implies a b) = a + b
binder_count_step (layer.ForAll body) = body + 1
binder_count_step (layer.Exists body) = body + 1

-- how many binders stand in a formula
unfoldable pub binder_count : Fof → ℕ
binder_count = fold-Fof ℕ binder_count_step

-- the greatest of some numbers, or 0
abbrev pub greatest : List ℕ → ℕ
greatest [] = 0
greatest (n ∷ ns) = max n (greatest ns)

-- one layer of the depth of binders
abbrev pub depth_step : Fof-F ℕ → ℕ
depth_step layer.True = 0
depth_step layer.False = 0
depth_step (layer.Atom p terms) = 0
depth_step (layer.Equal left right) = 0
depth_step (layer.Not a) = a
depth_step (layer.And parts) = greatest parts
depth_step (layer.Or parts) = greatest parts
depth_step (layer.Implies a b) = max a b
depth_step (layer.ForAll body) = body + 1
depth_step (layer.Exists body) = body + 1

-- the greatest number of nested binders in a formula
unfoldable pub depth : Fof → ℕ
depth = fold-Fof ℕ depth_step

-- the greatest number of nested binders in a problem
abbrev pub most_terms : FofProblem → ℕ
most_terms problem = greatest (map (λ formula. depth formula.body) problem.formulas)

-- a stated formula is sound over a signature
pub record IsSoundFormula (signature : List FofSymbol) (formula : FofFormula) : Type 0 where
  pub typed : IsTrue (is_formula signature formula.body 0)
  pub pairs : IsTrue (has_pairs formula.body)
  pub binders : binder_count formula.body < 2 ^ 30

-- each symbol has few enough arguments
abbrev pub AreShort : List FofSymbol → Type 0
AreShort symbols = AllByRecursion (λ symbol. symbol.arity < 2 ^ 30) symbols

-- a signature is sound
pub record IsSoundSignature (signature : List FofSymbol) : Type 0 where
  pub symbols : length signature < 2 ^ 30
  pub arities : AreShort signature

-- a problem is sound
pub record IsSound (problem : FofProblem) : Type 0 where
  pub symbols : length problem.signature < 2 ^ 30
  pub arities : AreShort problem.signature
  pub formulas : AllByRecursion (IsSoundFormula problem.signature) problem.formulas
