use Rattle.std.proofs.Common.{◌≡◌, ◌+◌, true, false, nat_le}
use Rattle.tf_check.specs.declared.error.TypeError.TheVariants.{TooManySymbols}
use Rattle.tf_check.specs.Terms.{number_of, most_symbols}
use Rattle.tf_check.proofs.AnswerLemmas.{answers-pass, answers-fail}
use Rattle.tf_check.proofs.terms.expect_number.Goals as goal

pub returns-then-allows : goal.returns-then-allows
returns-then-allows c =
    let passes : nat_le (number_of c.args.table.now c.args.place) most_symbols ≡ true = cc in
    answers-pass (nat_le (number_of c.args.table.now c.args.place) most_symbols)
    (TooManySymbols (most_symbols + 1)) passes

pub returns-else-allows : goal.returns-else-allows
returns-else-allows c =
    let fails : nat_le (number_of c.args.table.now c.args.place) most_symbols ≡ false = cc in
    answers-fail (nat_le (number_of c.args.table.now c.args.place) most_symbols)
    (TooManySymbols (most_symbols + 1)) fails
