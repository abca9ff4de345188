-- The parts of what is encoded, put together.
use Rattle.std.proofs.Common.{ℕ, ◌≡◌, Bool, List, map, ap, ◌∙◌}
use Rattle.tf_core.specs.declared.normal.Normal.{Normal}
use Rattle.fof_models.specs.declared.problem.FofSymbol.{FofSymbol}
use Rattle.fof_models.specs.declared.problem.FofFormula.{FofFormula}
use Rattle.enc_marks.specs.declared.mark.Mark.{Mark}
use Rattle.enc_marks.specs.declared.encoded.Encoded.{Encoded}
use Rattle.enc_marks.specs.Choices.{Choices}
use Rattle.enc_marks.specs.Calls.Flags.{renumbered_by}
use Rattle.enc_marks.specs.Occurrence.{count_below, passing}
use Rattle.enc_marks.specs.Encoded.{MarkedSymbol, all_marks, translation, is_present, encoded}

-- what was made of a list of formulas: the symbols that occur, the renumbered formulas, and the marks
pub record Parts (c : Choices) (normal : Normal) (stated : List FofFormula) (occurs : ℕ → Bool)
    (number : ℕ → ℕ) (formulas : List FofFormula) (symbols : List FofSymbol) (marks : List Mark) :
    Type 0 where
  pub stated_is : stated ≡ translation c normal
  pub occurs_is : occurs ≡ is_present stated
  pub number_is : number ≡ (λ m. count_below m occurs)
  pub formulas_are : formulas ≡ map (renumbered_by number) stated
  pub symbols_are : symbols ≡ map (λ one. one.symbol) (passing occurs 0 (all_marks c normal))
  pub marks_are : marks ≡ map (λ one. one.mark) (passing occurs 0 (all_marks c normal))

abbrev made_of : List FofSymbol → List FofFormula → List Mark → Encoded
made_of symbols formulas marks =
    record { problem = record { signature = symbols; formulas = formulas }; marks = marks }

abbrev from : Choices → Normal → List FofFormula → (ℕ → Bool) → (ℕ → ℕ) → Encoded
from c normal stated occurs number =
    made_of (map (λ (one : MarkedSymbol). one.symbol) (passing occurs 0 (all_marks c normal)))
    (map (renumbered_by number) stated)
    (map (λ (one : MarkedSymbol). one.mark) (passing occurs 0 (all_marks c normal)))

pub encoded-parts : (c : Choices) (normal : Normal) (stated : List FofFormula) (occurs : ℕ → Bool)
    (number : ℕ → ℕ) (formulas : List FofFormula) (symbols : List FofSymbol) (marks : List Mark) →
    Parts c normal stated occurs number formulas symbols marks →
    made_of symbols formulas marks ≡ encoded c normal
unfolding encoded
encoded-parts c normal stated occurs number formulas symbols marks parts =
    ap (λ x. made_of x formulas marks) parts.symbols_are
    ∙ ap (λ x. made_of (map (λ (one : MarkedSymbol). one.symbol) (passing occurs 0 (all_marks c normal))) x marks)
    parts.formulas_are
    ∙ ap (made_of (map (λ (one : MarkedSymbol). one.symbol) (passing occurs 0 (all_marks c normal)))
    (map (renumbered_by number) stated)) parts.marks_are
    ∙ ap (from c normal stated occurs) parts.number_is
    ∙ ap (λ (test : ℕ → Bool). from c normal stated test (λ m. count_below m test)) parts.occurs_is
    ∙ ap (λ (list : List FofFormula). from c normal list (is_present list) (λ m. count_below m (is_present list)))
    parts.stated_is
