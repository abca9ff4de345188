use Rattle.std.specs.Prelude.{IsTrue}
use Rattle.enc_laws.specs.Laws.{says}
use Rattle.enc_laws.proofs.ProblemBack.{translation_back}
use Rattle.enc_laws.proofs.laws.problems_go_back.Goals as goal

pub returns : goal.returns
returns _ c normal s j tests ok sound both by number_of holds satisfied =
    translation_back c normal s j (says tests) sound.signature both (λ p. IsTrue (ok p)) by
    number_of sound.formulas holds satisfied
