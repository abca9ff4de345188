-- What the definitions of typing promise one another.
use Rattle.std.specs.Prelude.{◌≡◌, ◌↔◌, []}
use Rattle.tptp_syntax.specs.declared.entry.File.{File}
use Rattle.tf_core.specs.declared.problem.Problem.{Problem}
use Rattle.tf_core.specs.Sound.{IsSound}
use Rattle.tf_check.specs.Faults.{faults, problem_of}
use Rattle.tf_check.specs.Limits.{IsWithin}
use Rattle.tf_check.specs.Typing.{IsTyped}

-- a file is well typed with one problem at most
abbrev pub FileHasOneProblem : Type 0
FileHasOneProblem = (file : File) (p q : Problem) → IsTyped file p → IsTyped file q → p ≡ q

-- A file is well typed with the problem that it stands for exactly where it has no faults.
abbrev pub FaultsSayAll : Type 0
FaultsSayAll = (file : File) (p : Problem) →
    IsTyped file p ↔ ((faults file ≡ []) × (p ≡ problem_of file))

-- The problem of a well typed file within the limits is sound.
abbrev pub TypedFilesAreSound : Type 0
TypedFilesAreSound = (file : File) (p : Problem) → IsWithin file → IsTyped file p → IsSound p
