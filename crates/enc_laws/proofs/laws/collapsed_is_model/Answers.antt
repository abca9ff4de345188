use Rattle.std.specs.Prelude.{IsTrue}
use Rattle.enc_marks.specs.Encoded.{all_numbers}
use Rattle.enc_laws.specs.Collapses.{collapsing}
use Rattle.enc_laws.proofs.Collapsed.{corresponds, forward, forward_axioms}
use Rattle.enc_laws.proofs.ProblemForward.{translation_forward}
use Rattle.enc_laws.proofs.laws.collapsed_is_model.Goals as goal

pub returns : goal.returns
returns _ c normal s j member good ok sound model has more holds goods =
    translation_forward c normal s j
    (collapsing s j (λ v m. IsTrue (member v m)) (λ ty. IsTrue (good ty))) sound.signature
    (corresponds c (all_numbers normal) normal.signature s j (λ v m. IsTrue (member v m))
    (λ ty. IsTrue (good ty)) (λ p. IsTrue (ok p)) sound.signature model.structure has)
    (forward_axioms c (all_numbers normal) normal.signature s j (λ v m. IsTrue (member v m))
    (λ ty. IsTrue (good ty)) (λ p. IsTrue (ok p)) sound.signature model.structure has more)
    (λ p. IsTrue (ok p))
    (forward c (all_numbers normal) normal.signature s j (λ v m. IsTrue (member v m))
    (λ ty. IsTrue (good ty)) (λ p. IsTrue (ok p)) sound.signature model.structure has)
    sound.formulas holds goods model.formulas
