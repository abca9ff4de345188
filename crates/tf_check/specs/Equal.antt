-- Whether two symbols have the same type.
use Rattle.std.specs.Prelude.{◌==◌, Bool, true, false, ◌&&◌, List, [], ◌∷◌, Option, Some, None}
use Rattle.tf_core.specs.declared.ty.Ty.{Ty}
use Rattle.tf_core.specs.declared.signature.Symbol.{Symbol}
use Rattle.tf_core.specs.Types.{same_type}

abbrev pub same_types : List Ty → List Ty → Bool
same_types [] [] = true
same_types (a ∷ as') (b ∷ bs) = same_type a b && same_types as' bs
same_types _ _ = false

abbrev pub same_result : Option Ty → Option Ty → Bool
same_result None None = true
same_result (Some a) (Some b) = same_type a b
same_result _ _ = false

-- whether two symbols have the same type, their parameters compared by position
abbrev pub same_profile : Symbol → Symbol → Bool
same_profile a b =
    (a.parameters == b.parameters)
    && same_types a.arguments b.arguments
    && same_result a.result b.result
