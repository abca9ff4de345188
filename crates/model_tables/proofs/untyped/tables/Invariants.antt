use Rattle.std.proofs.Common.{◌≡◌, map}
use Rattle.model_tables.specs.Items.{entries_or_none}
use Rattle.model_tables.proofs.untyped.tables.Given as goal

abbrev pub invariant-loop-slot : goal.invariant-loop-slot
invariant-loop-slot l = l.tables ≡ map entries_or_none l.yielded
