use Rattle.std.proofs.Common.{◌≡◌, ◌≤◌, ◌++◌, count_by, drop}
use Rattle.tf_naked.specs.Covers.{argument_parameters}
use Rattle.enc_models.specs.Calls.Sources.{sources, sources_from}
use Rattle.enc_models.proofs.sources.sources_of_symbol.Given as goal

abbrev pub invariant-loop-parameter : goal.invariant-loop-parameter
invariant-loop-parameter l =
    (l.sources
    ++ sources_from l.parameter l.next (count_by (λ kept. kept) l.kept)
    (argument_parameters l.symbol) (drop l.parameter l.kept)
    ≡ sources l.kept l.symbol)
    × (l.next ≤ l.parameter)
