-- As many places are covers or not as a symbol has arguments.
use Rattle.std.proofs.Common.{ℕ, suc, ◌≡◌, List, [], ◌∷◌, length, map, refl, ap, ◌∙◌}
use Rattle.std.specs.Prelude.{Option, Some, None}
use Rattle.std.proofs.lemmas.List.{length-map}
use Rattle.tf_core.specs.declared.signature.Symbol.{Symbol}
use Rattle.tf_naked.specs.Covers.{parameter_of, first_places, covers}

pub length-first_places : (earlier : List ℕ) (parameters : List (Option ℕ)) →
    length (first_places earlier parameters) ≡ length parameters
length-first_places earlier [] = refl
length-first_places earlier (None ∷ parameters) = ap suc (length-first_places earlier parameters)
length-first_places earlier (Some parameter ∷ parameters) =
    ap suc (length-first_places (parameter ∷ earlier) parameters)

pub length-covers : (symbol : Symbol) → length (covers symbol) ≡ length symbol.arguments
length-covers symbol =
    length-first_places [] (map parameter_of symbol.arguments)
    ∙ length-map symbol.arguments parameter_of
