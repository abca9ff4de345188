use Rattle.std.proofs.Common.{◌≡◌, ◌+◌, count_by, take}
use Rattle.enc_base.specs.Tables.{place}
use Rattle.enc_models.specs.Calls.Lifting.{parts_of, bounds_in, numbers_in}
use Rattle.enc_models.proofs.lifting.Lifting.place_of_arguments.Given as goal

abbrev pub invariant-loop-parameter : goal.invariant-loop-parameter
invariant-loop-parameter g l =
    l.at
    ≡ place
    (take (count_by (λ kept. kept) (take l.parameter l.kept))
    (bounds_in (parts_of g.C.Choices.choices l.self.marked.now) l.symbol))
    (take (count_by (λ kept. kept) (take l.parameter l.kept))
    (numbers_in (parts_of g.C.Choices.choices l.self.marked.now) l.symbol l.members l.elements))

abbrev pub invariant-loop-i : goal.invariant-loop-i
invariant-loop-i g l =
    l.at
    ≡ place
    (take (count_by (λ kept. kept) l.kept + l.i)
    (bounds_in (parts_of g.C.Choices.choices l.self.marked.now) l.symbol))
    (take (count_by (λ kept. kept) l.kept + l.i)
    (numbers_in (parts_of g.C.Choices.choices l.self.marked.now) l.symbol l.members l.elements))
