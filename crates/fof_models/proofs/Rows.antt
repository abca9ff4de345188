-- Worked rows: truth in a structure of two elements.
use Rattle.std.specs.Prelude.{◌≡◌, true, false, [], ◌∷◌}
use Rattle.std.proofs.Common.{refl, ◌∙◌}
use Rattle.fof_models.specs.declared.formula.FofTerm.TheVariants.{Var}
use Rattle.fof_models.specs.declared.formula.Fof.{Fof}
use Rattle.fof_models.specs.declared.formula.Fof.TheVariants.{Atom, ForAll, Exists}
use Rattle.fof_models.specs.Structures.{Untyped, reading}
use Rattle.fof_models.specs.Truth.{truth}
use Rattle.fof_models.specs.Rows.{of_the_first}
use Rattle.fof_models.proofs.Truth.{value-variable, truth-atom, truth-for_all, truth-exists}

abbrev two : Untyped
two = record { size = 2; symbol_at = (reading of_the_first).symbol_at }

abbrev holds : Fof
holds = Atom 0 (Var 0 ∷ [])

pub not_of_each : truth two (ForAll holds) [] ≡ false
not_of_each =
    truth-for_all two holds []
    ∙ rw (truth-atom two 0 (Var 0 ∷ []) (1 ∷ []), value-variable two (1 ∷ []) 0) refl

pub of_some : truth two (Exists holds) [] ≡ true
of_some =
    truth-exists two holds []
    ∙ rw (
      truth-atom two 0 (Var 0 ∷ []) (1 ∷ []),
      value-variable two (1 ∷ []) 0,
      truth-atom two 0 (Var 0 ∷ []) (0 ∷ []),
      value-variable two (0 ∷ []) 0,
    ) refl
