-- Words of the contracts of the search for the first members at which a conjecture's body is false.
use Rattle.std.specs.Prelude.{◌<◌, ◌≤◌, ◌^◌, ◌≡◌, [], length, Some}
use Rattle.tf_core.specs.declared.problem.Stated.{Stated}
use Rattle.tf_core.specs.declared.problem.Problem.{Problem}
use Rattle.tf_core.specs.Counts.{most_types, most_terms}
use Rattle.tf_core.specs.Sound.{IsSound}
use Rattle.tf_core.specs.TypedTables.{AreModel}
use Rattle.tf_models.specs.declared.structure.TypedStructure.{TypedStructure}
use Rattle.tf_models.specs.Assignment.{Assignment}
use Rattle.tf_models.specs.Reading.{tables}
use Rattle.tf_nnf.specs.NormalForm.{conjecture_of}

-- the conjecture of a sound problem, and a model of the problem with few members
pub record IsRefuted (problem : Problem) (s : TypedStructure) (stated : Stated) : Type 0 where
  pub sound : IsSound problem
  pub few : length s.sizes < 2 ^ 32
  pub model : AreModel problem (tables s)
  pub found : conjecture_of problem.formulas ≡ Some stated

-- an environment without elements, with room for the formulas of a problem
pub record HasRoom (problem : Problem) (env : Assignment) : Type 0 where
  pub members : most_types problem ≤ env.members_room
  pub elements : most_terms problem ≤ env.elements_room
  pub none : env.elements ≡ []
