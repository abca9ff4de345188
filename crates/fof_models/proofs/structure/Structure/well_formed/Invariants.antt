use Rattle.std.proofs.Common.{ℕ, ◌≡◌, ◌<◌}
use Rattle.std.specs.Prelude.{slice_get, Some}
use Rattle.fof_models.specs.declared.problem.FofSymbol.{FofSymbol}
use Rattle.fof_models.specs.Structures.{table_of, IsTable}
use Rattle.fof_models.proofs.structure.Structure.well_formed.Given as goal

abbrev pub invariant-loop-i : goal.invariant-loop-i
invariant-loop-i l =
    (f : ℕ) (symbol : FofSymbol) → f < l.i → slice_get l.signature f ≡ Some symbol →
    IsTable symbol l.self.size (table_of l.self f)
