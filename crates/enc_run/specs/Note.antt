-- The lines that are written to the notes.
use Rattle.std.specs.Prelude.{◌++◌, ℕ, List, [], codes, decimal, Option, Some, None}

unfoldable pub program_word : List ℕ
program_word = codes "tfenc: "

unfoldable pub not_built : List ℕ
not_built = codes "not built"

unfoldable pub cannot_read : List ℕ
cannot_read = codes "cannot read "

unfoldable pub cannot_write : List ℕ
cannot_write = codes "cannot write"

unfoldable pub no_memory : List ℕ
no_memory = codes "no memory"

abbrev pub line : List ℕ → List ℕ
line text = program_word ++ (text ++ codes "\n")

-- the number of a refusal in decimal, and a space
abbrev pub number_word : Option ℕ → List ℕ
number_word (Some number) = decimal number ++ codes " "
number_word None = []
