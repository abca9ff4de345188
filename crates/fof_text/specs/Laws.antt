-- What is promised of texts and of the problems that they state.
use Rattle.std.specs.Prelude.{◌≡◌, ℕ, ◌+◌, ◌<◌, ◌^◌, true, false, List, ◌++◌, length}
use Rattle.std.specs.List.{AllByRecursion}
use Rattle.enc_base.specs.Names.{IsWritable}
use Rattle.fof_models.specs.declared.problem.FofFormula.{FofFormula}
use Rattle.fof_models.specs.declared.problem.FofProblem.{FofProblem}
use Rattle.fof_models.specs.Sound.{IsSound}
use Rattle.fof_models.specs.Models.{HasFiniteModel}
use Rattle.tptp_words.specs.Text.{AllPass, not_feed}
use Rattle.fof_text.specs.Names.{chosen_names, free_number, is_free, numbered, wanted_names}
use Rattle.fof_text.specs.States.{States, AreNamed}
use Rattle.fof_text.specs.Written.{comment_line, text_of}

-- the text of a sound problem states it, where each symbol has a name of its own
abbrev pub TextStatesItsProblem : Type 0
TextStatesItsProblem =
    (names : List (List ℕ)) (p : FofProblem) → IsSound p → AreNamed names p
    → States (text_of names p) p

-- a comment line in front of a text changes nothing of what the text states
abbrev pub CommentsChangeNothing : Type 0
CommentsChangeNothing =
    (body text : List ℕ) (p : FofProblem) → AllPass not_feed body → States text p
    → States (comment_line body ++ text) p

-- where one problem that a text states has a finite model, every problem that it states has one
abbrev pub StatedProblemsHaveModelsTogether : Type 0
StatedProblemsHaveModelsTogether =
    (text : List ℕ) (p q : FofProblem) → States text p → States text q
    → HasFiniteModel p → HasFiniteModel q

-- ---- chosen names

-- the number in a chosen name makes a free one, and no smaller number does
abbrev pub NumbersAreLeast : Type 0
NumbersAreLeast =
    (wanted earlier : List (List ℕ)) (name : List ℕ) → length earlier + length wanted < 2 ^ 63
    → (is_free wanted earlier (numbered name (free_number wanted earlier name)) ≡ true)
    × ((k : ℕ) → k < free_number wanted earlier name
    → is_free wanted earlier (numbered name k) ≡ false)

-- chosen names are names of a problem, where the wanted names and those of the formulas can be
-- written
abbrev pub ChosenNamesAreNames : Type 0
ChosenNamesAreNames =
    (p : FofProblem) → IsSound p → AllByRecursion IsWritable (wanted_names p.signature)
    → AllByRecursion (λ (f : FofFormula). IsWritable f.name) p.formulas
    → AreNamed (chosen_names p.signature) p
