use Rattle.std.proofs.Common.{[], take}
use Rattle.fof_text.specs.Names.{wanted_names}
use Rattle.fof_text.specs.Uses.{Knows}
use Rattle.fof_text.proofs.choose.take_wanted.Given as goal

abbrev pub invariant-loop-symbol : goal.invariant-loop-symbol
invariant-loop-symbol l = Knows (wanted_names (take l.symbol-index l.signature)) [] l.uses
