-- What a piece that is found at the front of a text says of it.
use Rattle.std.proofs.Common.{◌≡◌, ℕ, ◌≤◌, ◌<◌, List, [], length, drop}
use Rattle.tptp_words.specs.declared.piece.Piece.{Piece}
use Rattle.tptp_words.specs.declared.piece.Piece.TheVariants as piece
use Rattle.tptp_words.specs.Text.{Spells, Gap, IsBadByte, IsUnclosed}
use Rattle.tptp_words.proofs.Passes.{Cut}

abbrev pub Says : List ℕ → Piece → Type 0
Says text piece.End = text ≡ []
Says text (piece.Gap n) = (1 ≤ n) × (1 ≤ length text) × Gap text (drop n text)
Says text (piece.Word kind n) = Cut (Spells kind) text n
Says text (piece.Bad n) = (n < length text) × IsBadByte text (drop n text)
Says text piece.Open = IsUnclosed text
