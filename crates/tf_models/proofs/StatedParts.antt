-- What holds of the stated formulas of a list, taken from the left.
use Rattle.std.specs.Prelude.{ℕ, ◌≡◌, ◌<◌, List, length, take, get_or}
use Rattle.std.specs.List.{AllByRecursion}
use Rattle.std.proofs.Common.{sym, subst, ◌∙◌}
use Rattle.std.proofs.lemmas.Option.{get_or_from_slice_get}
use Rattle.tf_core.specs.declared.problem.Stated.{Stated}
use Rattle.tf_core.specs.Structures.{Typed}
use Rattle.tf_core.proofs.StatedFormulas.{each_at}
use Rattle.tf_models.specs.FirstFalse.{IsAsStated, IsFirstFalse}

module _ (s : Typed) (formulas : List Stated) (i : ℕ) (stated : Stated)
    (within : i < length formulas) (is : stated ≡ get_or formulas i stated)
    (fails : IsAsStated s stated → ⊥)
  where
    -- a formula that isn't as stated, behind formulas that are
    pub first_false : AllByRecursion (IsAsStated s) (take i formulas) → IsFirstFalse s formulas i
    first_false earlier = record {
      within = within;
      fails = λ other at holds.
          let same : stated ≡ other = is ∙ get_or_from_slice_get formulas i other stated at in
          fails (subst (IsAsStated s) (sym same) holds);
      earlier = earlier;
    }

    -- is one of no model
    pub no_model : AllByRecursion (IsAsStated s) formulas → ⊥
    no_model all = fails (each_at (IsAsStated s) formulas i stated within is all)
