use Rattle.std.proofs.Common.{◌≡◌, take, false}
use Rattle.tf_core.specs.Occurrences.{occurs_in_terms}
use Rattle.tf_models.proofs.occurring.+term_has.Given as goal

abbrev pub invariant-some_term_has-loop-term : goal.invariant-some_term_has-loop-term
invariant-some_term_has-loop-term l = occurs_in_terms l.i (take l.term-index l.terms) ≡ false
