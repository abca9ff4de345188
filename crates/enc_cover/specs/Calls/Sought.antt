-- Whether a variable stands at a cover or on a side of a positive equation.
use Rattle.std.specs.Prelude.{ℕ, ◌^◌, Bool, ◌&&◌, ◌||◌, List, map}
use Rattle.std.specs.List.{AllByRecursion}
use Rattle.tf_core.specs.declared.term.Term.{Term}
use Rattle.tf_core.specs.declared.signature.Symbol.{Symbol}
use Rattle.tf_core.specs.declared.signature.Signature.{Signature}
use Rattle.tf_core.specs.Sound.{IsBounded}
use Rattle.tf_naked.specs.Covers.{covers}
use Rattle.tf_naked.specs.Standing.{is_covering, standing, stands_in_arguments}

-- a signature's symbols have fewer than 2^28 arguments
abbrev pub HasFewArguments : Signature → Type 0
HasFewArguments g = AllByRecursion (IsBounded (2 ^ 28)) g.symbols

-- in a term that stands at a cover or on a side of a positive equation, or doesn't
abbrev pub stands_at : Signature → Bool → Term → ℕ → Bool
stands_at g covering t i =
    (covering && (standing g is_covering t).here i) || (standing g is_covering t).inside i

-- in the terms to which a symbol is applied
abbrev pub stands_in_terms : Signature → Symbol → List Term → ℕ → Bool
stands_in_terms g symbol terms i =
    stands_in_arguments is_covering (covers symbol) (map (standing g is_covering) terms) i
