use Rattle.std.proofs.Common.{length, [], refl}
use Rattle.tptp_words.proofs.OneText.{is_text}
use Rattle.tptp_words.proofs.Steps.{spelled}
use Rattle.tptp_words.proofs.words.Words.new.Goals as goal

pub returns-clause-exact : goal.returns-clause-exact
returns-clause-exact c = is_text (length c.args.text.now) c.args.text.now

pub returns-clause-spelled : goal.returns-clause-spelled
returns-clause-spelled c =
    spelled c.args.text.now c.args.text.now [] _ _ refl
    (is_text (length c.args.text.now) c.args.text.now)
