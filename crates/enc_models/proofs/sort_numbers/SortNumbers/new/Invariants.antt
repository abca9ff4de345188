use Rattle.enc_models.specs.Calls.SortNumbers.{AreNumbered}
use Rattle.enc_models.proofs.sort_numbers.SortNumbers.new.Given as goal

abbrev pub invariant-loop-number : goal.invariant-loop-number
invariant-loop-number l = AreNumbered l.numbers l.number l.sorts
