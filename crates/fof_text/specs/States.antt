-- What a text states: a problem of first-order formulas. When a text has a finite model.
use Rattle.std.specs.Prelude.{◌≡◌, ℕ, List, [], ◌∷◌, length}
use Rattle.std.specs.List.{AllByRecursion}
use Rattle.enc_base.specs.Names.{IsWritable}
use Rattle.fof_models.specs.declared.problem.FofFormula.{FofFormula}
use Rattle.fof_models.specs.declared.problem.FofProblem.{FofProblem}
use Rattle.fof_models.specs.Sound.{IsSound}
use Rattle.fof_models.specs.Models.{HasFiniteModel}
use Rattle.tptp_syntax.specs.declared.entry.StatedRole.TheVariants.{Hypothesis}
use Rattle.tptp_syntax.specs.declared.entry.Entry.{Entry}
use Rattle.tptp_syntax.specs.declared.entry.Entry.TheVariants.{Declaration, Statement}
use Rattle.tptp_syntax.specs.declared.entry.File.{File}
use Rattle.tptp_syntax.specs.Files.{Spells}
use Rattle.fof_text.specs.Names.{AllDiffer}
use Rattle.fof_text.specs.Meaning.{formula_meant}

-- the entry is a hypothesis with the formula's name, and stands for the formula
abbrev pub EntryStands : List (List ℕ) → Entry → FofFormula → Type 0
EntryStands names (Declaration name subject body) f = ⊥
EntryStands names (Statement name role formula) f =
    (name ≡ f.name) × (role ≡ Hypothesis) × (formula_meant names formula [] ≡ f.body)

-- the entries stand for the formulas, one for each and in order
abbrev pub StandFor : List (List ℕ) → List Entry → List FofFormula → Type 0
StandFor names [] [] = Unit {0}
StandFor names [] (f ∷ fs) = ⊥
StandFor names (e ∷ es) [] = ⊥
StandFor names (e ∷ es) (f ∷ fs) = EntryStands names e f × StandFor names es fs

-- The text spells a file of hypotheses that are the formulas of the problem, in order and with their
-- names. Each symbol of the problem has a name, and no two symbols have the same.
pub record States (text : List ℕ) (p : FofProblem) : Type 0 where
  pub sound : IsSound p
  pub file : File
  pub spelled : Spells text file
  pub names : List (List ℕ)
  pub one_each : length names ≡ length p.signature
  pub differ : AllDiffer names
  pub stands : StandFor names file.entries p.formulas

-- the text states a problem that has a finite model
pub record TextHasFiniteModel (text : List ℕ) : Type 0 where
  pub problem : FofProblem
  pub states : States text problem
  pub model : HasFiniteModel problem

-- ---- names that can be written

-- Each symbol has a name of its own, and the names of the symbols and formulas can be written.
pub record AreNamed (names : List (List ℕ)) (p : FofProblem) : Type 0 where
  pub one_each : length names ≡ length p.signature
  pub differ : AllDiffer names
  pub symbols : AllByRecursion IsWritable names
  pub formulas : AllByRecursion (λ (f : FofFormula). IsWritable f.name) p.formulas
