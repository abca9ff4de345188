-- A sound normal problem is well typed.
use Rattle.std.specs.Prelude.{List, [], ◌∷◌}
use Rattle.std.specs.List.{AllByRecursion}
use Rattle.tf_core.specs.declared.normal.NormalFormula.{NormalFormula}
use Rattle.tf_core.specs.declared.normal.Normal.{Normal}
use Rattle.tf_core.specs.declared.signature.Signature.{Signature}
use Rattle.tf_core.specs.Typing.{IsNnf, IsNormal}
use Rattle.tf_core.specs.Sound.{IsSoundFormula, IsSoundNormal}

formulas_typed : (g : Signature) (formulas : List NormalFormula) →
    AllByRecursion (IsSoundFormula g) formulas →
    AllByRecursion (λ formula. IsNnf g formula.type_variables [] formula.body) formulas
formulas_typed g [] are = tt
formulas_typed g (formula ∷ formulas) are = (are.0.typed, formulas_typed g formulas are.1)

pub normal_typed : (normal : Normal) → IsSoundNormal normal → IsNormal normal
normal_typed normal sound = record {
  signature = sound.signature.typed;
  formulas = formulas_typed normal.signature normal.formulas sound.formulas;
}
