use Rattle.std.proofs.Common.{◌≡◌, drop}
use Rattle.model_tables.specs.Marks.{first_unmarked}
use Rattle.model_tables.proofs.index.Index.first_unmarked.Given as goal

abbrev pub invariant-loop-i : goal.invariant-loop-i
invariant-loop-i l = first_unmarked l.self l.marks ≡ first_unmarked (drop l.i l.self) (drop l.i l.marks)
