-- Satisfaction and models of typed problems.
use Rattle.std.specs.Prelude.{ℕ, Bool, List, [], replicate, IsTrue}
use Rattle.std.specs.List.{AllByRecursion}
use Rattle.enc_base.specs.Tables.{EachBelow}
use Rattle.tf_core.specs.declared.problem.Role.{Role}
use Rattle.tf_core.specs.declared.problem.Role.TheVariants.{Hypothesis, Conjecture}
use Rattle.tf_core.specs.declared.problem.Stated.{Stated}
use Rattle.tf_core.specs.declared.problem.Problem.{Problem}
use Rattle.tf_core.specs.declared.normal.NormalFormula.{NormalFormula}
use Rattle.tf_core.specs.declared.normal.Normal.{Normal}
use Rattle.tf_core.specs.Structures.{Typed, member_count, IsStructure}
use Rattle.tf_core.specs.Truth.{truth, normal_truth}

-- a test of members holds for all members of so many type variables
abbrev pub AtAllMembers : Typed → ℕ → (List ℕ → Bool) → Type 0
AtAllMembers s variables test =
    (members : List ℕ) → EachBelow (replicate variables (member_count s)) members →
    IsTrue (test members)

-- a formula is satisfied where its body is true for all members of its type variables
abbrev pub IsSatisfied : Typed → Stated → Type 0
IsSatisfied s stated =
    AtAllMembers s stated.type_variables (λ members. truth s members stated.body [])

-- a hypothesis is to be satisfied, a conjecture isn't
abbrev pub ByRole : Role → Type 0 → Type 0
ByRole Hypothesis Satisfied = Satisfied
ByRole Conjecture Satisfied = Satisfied → ⊥

-- A model of a problem: it satisfies every hypothesis and doesn't satisfy the conjecture.
pub record IsModel (problem : Problem) (s : Typed) : Type 0 where
  pub structure : IsStructure problem.signature s
  pub formulas : AllByRecursion (λ stated. ByRole stated.role (IsSatisfied s stated)) problem.formulas

-- a formula of a normal problem is satisfied
abbrev pub IsNormalSatisfied : Typed → NormalFormula → Type 0
IsNormalSatisfied s formula =
    AtAllMembers s formula.type_variables (λ members. normal_truth s members formula.body [])

-- A model of a normal problem satisfies every formula.
pub record IsNormalModel (normal : Normal) (s : Typed) : Type 0 where
  pub structure : IsStructure normal.signature s
  pub formulas : AllByRecursion (IsNormalSatisfied s) normal.formulas
