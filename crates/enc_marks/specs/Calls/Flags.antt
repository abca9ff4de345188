-- For private calls: tables of the symbols that occur, and of their numbers among these.
use Rattle.std.specs.Prelude.{ℕ, Bool, false, get_or}
use Rattle.fof_models.specs.declared.problem.FofFormula.{FofFormula}
use Rattle.enc_marks.specs.Occurrence.{renumber}
use Rattle.enc_marks.specs.declared.flags.Occurring.{Occurring}
use Rattle.enc_marks.specs.declared.renumber.Numbering.{Numbering}

-- whether the symbol of a number is among those that occur
unfoldable pub is_set : Occurring → ℕ → Bool
is_set occurring m = get_or occurring.flags.items m false

-- the new number of a symbol
unfoldable pub number_of : Numbering → ℕ → ℕ
number_of numbering m = get_or numbering.numbers.items m numbering.count

-- a formula whose symbols have new numbers
abbrev pub renumbered_by : (ℕ → ℕ) → FofFormula → FofFormula
renumbered_by number formula = record {
  name = formula.name;
  role = formula.role;
  body = renumber number formula.body;
}
