-- What the checker asks of a file; every file that a text spells within the limits meets it.
use Rattle.std.specs.Prelude.{ℕ, ◌≤◌}
use Rattle.tptp_syntax.specs.declared.entry.File.{File}
use Rattle.tptp_syntax.specs.FileSizes.{file_size, HasPairsFile}

-- how many nodes and bound names a file may have, all entries together
abbrev pub most_nodes : ℕ
most_nodes = 16777216

-- a limit on its nodes, and each chain has two parts at least
pub record IsWithin (file : File) : Type 0 where
  pub nodes : file_size file ≤ most_nodes
  pub chains : HasPairsFile file
