-- Names that can be written, as words of a text and in notes.
use Rattle.std.specs.Prelude.{ℕ, Bool, ◌<◌, ◌&&◌, leb, List, length, IsTrue}
use Rattle.std.specs.List.{AllByRecursion}

-- a byte from the blank to the tilde: it can stand in quotes
abbrev pub is_writable_byte : ℕ → Bool
is_writable_byte byte = leb 32 byte && leb byte 126

-- the name has a byte, and each of its bytes can stand in quotes
pub record IsWritable (name : List ℕ) : Type 0 where
  pub some : 0 < length name
  pub bytes : AllByRecursion (λ byte. IsTrue (is_writable_byte byte)) name
