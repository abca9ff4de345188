use Rattle.std.specs.Prelude.{IsTrue}
use Rattle.enc_laws.specs.Laws.{says}
use Rattle.enc_laws.proofs.TrueForward.{true_forward}
use Rattle.enc_laws.proofs.laws.truth_goes_forward.Goals as goal

pub returns : goal.returns
returns _ c k g s j tests ok sound both by variables depth context kinds members elements
    assignment p formed holds read h =
    true_forward c k g s j (says tests) sound both (λ p. IsTrue (ok p)) by variables context p
    formed depth kinds members elements assignment holds read h
