use Rattle.std.proofs.Common.{◌≡◌}
use Rattle.enc_marks.specs.Occurrence.{count_below}
use Rattle.enc_models.specs.Calls.Lifting.{parts_of, picks_in}
use Rattle.enc_models.proofs.PickedNumbers.{ArePickedBelow}
use Rattle.enc_models.proofs.marked.Marked.row.Given as goal

abbrev pub invariant-loop-number : goal.invariant-loop-number
invariant-loop-number g l = record {
  size : l.size ≡ count_below l.number (picks_in (parts_of g.C.Choices.choices l.self) l.member);
  picked : ArePickedBelow (picks_in (parts_of g.C.Choices.choices l.self) l.member) l.bound
      l.number l.picked;
}
