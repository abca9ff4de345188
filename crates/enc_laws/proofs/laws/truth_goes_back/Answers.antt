use Rattle.std.specs.Prelude.{IsTrue}
use Rattle.enc_laws.specs.Laws.{says}
use Rattle.enc_laws.proofs.TrueBack.{true_back}
use Rattle.enc_laws.proofs.laws.truth_goes_back.Goals as goal

pub returns : goal.returns
returns _ c k g s j tests ok sound both by variables depth context kinds members elements
    assignment p formed holds read h =
    true_back c k g s j (says tests) sound both (λ p. IsTrue (ok p)) by variables context p formed
    depth kinds members elements assignment holds read h
