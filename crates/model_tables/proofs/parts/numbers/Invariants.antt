use Rattle.std.proofs.Common.{◌≡◌, [], length}
use Rattle.model_tables.specs.Leads.{numbers_at}
use Rattle.model_tables.proofs.parts.numbers.Given as goal

-- what is read from here on is what is read in all
abbrev pub invariant-numbers : goal.invariant-numbers
invariant-numbers l = numbers_at [] l.fn.reader ≡ numbers_at l.found l.reader

abbrev pub decreases-numbers : goal.decreases-numbers
decreases-numbers l = length l.reader.words
