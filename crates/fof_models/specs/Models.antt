-- Models of untyped problems.
use Rattle.std.specs.Prelude.{ℕ, ◌<◌, ◌≡◌, false, List, [], length, take, slice_get, Some, IsTrue}
use Rattle.std.specs.List.{AllByRecursion}
use Rattle.fof_models.specs.declared.problem.FofFormula.{FofFormula}
use Rattle.fof_models.specs.declared.problem.FofProblem.{FofProblem}
use Rattle.fof_models.specs.declared.structure.Structure.{Structure}
use Rattle.fof_models.specs.Structures.{Untyped, reading, IsStructure, IsWellFormed}
use Rattle.fof_models.specs.Truth.{truth}

-- a stated formula is true
abbrev pub IsSatisfied : Untyped → FofFormula → Type 0
IsSatisfied s formula = IsTrue (truth s formula.body [])

-- Each formula is true, in both roles.
abbrev pub AreSatisfied : Untyped → List FofFormula → Type 0
AreSatisfied s formulas = AllByRecursion (IsSatisfied s) formulas

-- the formula at an index isn't true, and all before it are
pub record IsFirstFalse (s : Untyped) (formulas : List FofFormula) (index : ℕ) : Type 0 where
  pub within : index < length formulas
  pub fails : (formula : FofFormula) → slice_get formulas index ≡ Some formula →
      truth s formula.body [] ≡ false
  pub earlier : AreSatisfied s (take index formulas)

-- functions that are a model of a problem
pub record IsModel (problem : FofProblem) (s : Untyped) : Type 0 where
  pub structure : IsStructure problem.signature s
  pub formulas : AreSatisfied s problem.formulas

-- tables that are a model of a problem
pub record AreModel (problem : FofProblem) (s : Structure) : Type 0 where
  pub well_formed : IsWellFormed problem.signature s
  pub formulas : AreSatisfied (reading s) problem.formulas

-- an untyped problem has a finite model
abbrev pub HasFiniteModel : FofProblem → Type 0
HasFiniteModel problem = (s : Structure) × AreModel problem s
