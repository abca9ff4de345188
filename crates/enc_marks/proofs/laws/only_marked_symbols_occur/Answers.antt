use Rattle.enc_marks.proofs.OccurringSymbols.{only_marked}
use Rattle.enc_marks.proofs.laws.only_marked_symbols_occur.Goals as goal

pub returns : goal.returns
returns c = only_marked
