-- What holds of every file that a text spells.
use Rattle.std.specs.Prelude.{ℕ, ◌≤◌, List, length}
use Rattle.tptp_syntax.specs.declared.entry.File.{File}
use Rattle.tptp_syntax.specs.FileNames.{IsWritableFile}
use Rattle.tptp_syntax.specs.FileSizes.{file_size, HasPairsFile}
use Rattle.tptp_syntax.specs.Files.{Spells}

-- each name in the file can be written
abbrev pub NamesAreWritable : Type 0
NamesAreWritable = (text : List ℕ) (file : File) → Spells text file → IsWritableFile file

-- the file has at most as many nodes and bound names as the text has bytes
abbrev pub FilesAreNoLarger : Type 0
FilesAreNoLarger =
    (text : List ℕ) (file : File) → Spells text file → file_size file ≤ length text

-- each chain of `&` or `|` in the file has at least two parts
abbrev pub ChainsHavePairs : Type 0
ChainsHavePairs = (text : List ℕ) (file : File) → Spells text file → HasPairsFile file
