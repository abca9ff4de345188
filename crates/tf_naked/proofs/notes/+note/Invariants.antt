use Rattle.std.proofs.Common.{◌≡◌, drop}
use Rattle.tf_naked.specs.Calls.Noted.{noted, uses_in_arguments}
use Rattle.tf_naked.proofs.notes.+note.Given as goal

abbrev pub invariant-note_arguments-loop-i : goal.invariant-note_arguments-loop-i
invariant-note_arguments-loop-i l =
    noted (uses_in_arguments l.scope.signature.now (drop l.i l.covers) (drop l.i l.terms)) l.around
    ≡ noted (uses_in_arguments l.scope.signature.now l.covers l.terms) l.initial.around
