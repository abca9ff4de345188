use Rattle.std.proofs.Common.{◌≡◌, [], replicate}
use Rattle.model_tables.proofs.partial.empty_tables.Given as goal

abbrev pub invariant-loop : goal.invariant-loop
invariant-loop l = l.tables ≡ replicate l.counter []
