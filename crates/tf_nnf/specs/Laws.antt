-- What normal forms and normal problems promise, over all structures.
use Rattle.std.specs.Prelude.{ℕ, ◌≡◌, List, not}
use Rattle.tf_core.specs.declared.formula.Formula.{Formula}
use Rattle.tf_core.specs.declared.problem.Problem.{Problem}
use Rattle.tf_core.specs.declared.normal.Normal.{Normal}
use Rattle.tf_core.specs.Structures.{Typed}
use Rattle.tf_core.specs.TypedTables.{TypedTables, AreModel, AreNormalModel}
use Rattle.tf_core.specs.Sound.{IsSound}
use Rattle.tf_core.specs.Truth.{truth, normal_truth}
use Rattle.tf_nnf.specs.Forms.{positive_form, negative_form}
use Rattle.tf_nnf.specs.NormalForm.{normal_of}
use Rattle.tf_nnf.specs.Extension.{IsExtension, without_fresh}

-- the normal form of a formula is true exactly where the formula is
abbrev pub PositiveFormKeepsTruth : Type 0
PositiveFormKeepsTruth =
    (s : Typed) (members elements : List ℕ) (f : Formula) →
    normal_truth s members (positive_form f) elements ≡ truth s members f elements

-- the normal form of its negation is true exactly where the formula is false
abbrev pub NegativeFormTurnsTruth : Type 0
NegativeFormTurnsTruth =
    (s : Typed) (members elements : List ℕ) (f : Formula) →
    normal_truth s members (negative_form f) elements ≡ not (truth s members f elements)

-- a model of a problem has an extension, and no second one
pub record ModelHasOneExtension : Type 0 where
  pub some : (problem : Problem) (t : TypedTables) → AreModel problem t →
      (extension : TypedTables) × IsExtension problem t extension
  pub one : (problem : Problem) (t one other : TypedTables) → IsExtension problem t one →
      IsExtension problem t other → one ≡ other

-- the extension of a model of a problem is a model of its normal problem
abbrev pub ExtensionIsModel : Type 0
ExtensionIsModel =
    (problem : Problem) (t extension : TypedTables) → IsSound problem → AreModel problem t →
    IsExtension problem t extension → AreNormalModel (normal_of problem) extension

-- a model of the normal problem, without the fresh constructors, is a model of the problem
abbrev pub ReductIsModel : Type 0
ReductIsModel =
    (problem : Problem) (t : TypedTables) → IsSound problem → AreNormalModel (normal_of problem) t →
    AreModel problem (without_fresh (normal_of problem) t)

-- Whatever problem a normal problem is made of: where the first tables are a model of the normal
-- problem, the second are a model of the problem.
abbrev pub GivesModel : Normal → TypedTables → TypedTables → Type 0
GivesModel normal t reduct =
    (problem : Problem) → IsSound problem → normal ≡ normal_of problem → AreNormalModel normal t →
    AreModel problem reduct
