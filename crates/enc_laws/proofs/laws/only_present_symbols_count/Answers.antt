use Rattle.enc_marks.specs.Encoded.{is_present}
use Rattle.enc_laws.proofs.Renumbered.{satisfied-renumbered, satisfied-all_marks}
use Rattle.enc_laws.proofs.laws.only_present_symbols_count.Goals as goal

pub returns : goal.returns
returns _ i j formulas size agree = (
  satisfied-all_marks (is_present formulas) i j size formulas agree,
  satisfied-renumbered (is_present formulas) i j size formulas agree,
)
