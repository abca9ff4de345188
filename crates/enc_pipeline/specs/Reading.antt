-- The typed problem of a text.
use Rattle.std.specs.Prelude.{ℕ, List, Ok}
use Rattle.tptp_syntax.specs.declared.entry.File.{File}
use Rattle.tptp_syntax.specs.Files.{Verdict}
use Rattle.tf_check.specs.Typing.{IsTyped}
use Rattle.tf_core.specs.declared.problem.Problem.{Problem}

-- the text spells a file within the limits, and the file is well typed with the problem
abbrev pub HasProblem : List ℕ → Problem → Type 0
HasProblem text problem = (file : File) × Verdict text (Ok file) × IsTyped file problem
