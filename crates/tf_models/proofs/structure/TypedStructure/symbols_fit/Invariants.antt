use Rattle.std.proofs.Common.{ℕ, ◌≡◌, ◌<◌, [], get_or}
use Rattle.std.specs.Prelude.{slice_get, Some}
use Rattle.tf_core.specs.declared.signature.Symbol.{Symbol}
use Rattle.tf_models.specs.Reading.{tables}
use Rattle.tf_models.specs.Fit.{IsSymbolTable}
use Rattle.tf_models.proofs.structure.TypedStructure.symbols_fit.Given as goal

abbrev pub invariant-loop-i : goal.invariant-loop-i
invariant-loop-i l =
    (f : ℕ) (symbol : Symbol) → f < l.i → slice_get l.signature.symbols f ≡ Some symbol →
    IsSymbolTable (tables l.self) symbol (get_or l.self.symbols f [])
