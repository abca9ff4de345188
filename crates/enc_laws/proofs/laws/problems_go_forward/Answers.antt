use Rattle.std.specs.Prelude.{IsTrue}
use Rattle.enc_laws.specs.Laws.{says}
use Rattle.enc_laws.proofs.ProblemForward.{translation_forward}
use Rattle.enc_laws.proofs.laws.problems_go_forward.Goals as goal

pub returns : goal.returns
returns _ c normal s j tests ok sound both axioms by holds good satisfied =
    translation_forward c normal s j (says tests) sound.signature both axioms (λ p. IsTrue (ok p))
    by sound.formulas holds good satisfied
