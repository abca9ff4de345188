use Rattle.std.proofs.Common.{take}
use Rattle.std.specs.List.{list_any}
use Rattle.enc_marks.specs.Calls.Flags.{is_set}
use Rattle.enc_marks.specs.Occurrence.{occurs_in_term}
use Rattle.enc_marks.proofs.Added.{Added}
use Rattle.enc_marks.proofs.flags.Occurring.+add_term.Given as goal

abbrev pub invariant-add_terms-loop-term : goal.invariant-add_terms-loop-term
invariant-add_terms-loop-term l =
    Added (is_set l.initial.self) (is_set l.self)
    (λ m. list_any (occurs_in_term m) (take l.term-index l.terms))
