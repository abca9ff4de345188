-- The tables of a model are a model.
use Rattle.std.specs.Prelude.{List, [], ◌∷◌}
use Rattle.std.specs.List.{AllByRecursion}
use Rattle.std.proofs.Common.{◌∙◌}
use Rattle.tf_core.specs.declared.normal.NormalFormula.{NormalFormula}
use Rattle.tf_core.specs.declared.normal.Normal.{Normal}
use Rattle.tf_core.specs.declared.signature.Signature.{Signature}
use Rattle.tf_core.specs.Structures.{Typed, IsStructure}
use Rattle.tf_core.specs.Models.{IsNormalSatisfied, IsNormalModel}
use Rattle.tf_core.specs.Typing.{IsNnf, IsSignature, IsNormal}
use Rattle.tf_core.specs.TypedTables.{reading, AreNormalModel}
use Rattle.structure_tables.specs.TypedTabled.{tabled}
use Rattle.structure_tables.proofs.TypedAgreement.{IsStructure-agrees, normal_truth-agrees}
use Rattle.structure_tables.proofs.TypedTabled.{AreTables-tabled, Agrees-tabled}

module _ (g : Signature) (s : Typed) (typed : IsSignature g) (structure : IsStructure g s) where
  satisfied-tabled : (formulas : List NormalFormula) →
      AllByRecursion (λ formula. IsNnf g formula.type_variables [] formula.body) formulas →
      AllByRecursion (IsNormalSatisfied s) formulas →
      AllByRecursion (IsNormalSatisfied (reading g (tabled g s))) formulas
  satisfied-tabled [] are satisfied = tt
  satisfied-tabled (formula ∷ formulas) are satisfied = (
    λ members below.
        normal_truth-agrees g s (reading g (tabled g s)) typed structure
        (Agrees-tabled g s typed structure)
        formula.type_variables members below [] formula.body are.0 [] tt
        ∙ satisfied.0 members below,
    satisfied-tabled formulas are.1 satisfied.1,
  )

pub AreNormalModel-tabled : (normal : Normal) (s : Typed) → IsNormal normal →
    IsNormalModel normal s → AreNormalModel normal (tabled normal.signature s)
AreNormalModel-tabled normal s typed model =
    let g = normal.signature in
    record {
      tables = AreTables-tabled g s typed.signature model.structure;
      model = record {
        structure = IsStructure-agrees g s (reading g (tabled g s)) typed.signature model.structure
            (Agrees-tabled g s typed.signature model.structure);
        formulas = satisfied-tabled g s typed.signature model.structure normal.formulas
            typed.formulas model.formulas;
      };
    }
