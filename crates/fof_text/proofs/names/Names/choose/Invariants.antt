use Rattle.std.proofs.Common.{take}
use Rattle.fof_text.specs.Names.{wanted_names}
use Rattle.fof_text.proofs.Choices.{AreChosen}
use Rattle.fof_text.proofs.names.Names.choose.Given as goal

abbrev pub invariant-loop-i : goal.invariant-loop-i
invariant-loop-i l =
    AreChosen (wanted_names l.signature) (wanted_names (take l.i l.signature)) l.names l.uses
