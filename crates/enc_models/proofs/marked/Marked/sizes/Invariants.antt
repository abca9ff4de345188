use Rattle.std.proofs.Common.{◌≡◌}
use Rattle.enc_marks.specs.Occurrence.{count_below}
use Rattle.enc_laws.specs.Ranks.{listed}
use Rattle.enc_models.specs.Calls.Lifting.{parts_of, picks_in}
use Rattle.enc_models.proofs.marked.Marked.sizes.Given as goal

abbrev pub invariant-loop-member : goal.invariant-loop-member
invariant-loop-member g l =
    l.sizes
    ≡ listed l.member 0 (λ m. count_below l.self.model.now.size
    (picks_in (parts_of g.C.Choices.choices l.self) m))
