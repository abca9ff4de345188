-- The notes of stops. This need not be believed.
use Rattle.std.specs.Prelude.{◌≡◌, ◌++◌, ℕ, List, Option}
use Rattle.enc_pipeline.specs.RefusalNumbers.{number_of}
use Rattle.enc_run.specs.Note.{line, number_word, not_built, cannot_read, cannot_write, no_memory}
use Rattle.enc_run.specs.Work.{Change, Adds}
use Rattle.enc_run.specs.declared.stop.Stop.{Stop}
use Rattle.enc_run.specs.declared.stop.Stop.TheVariants.{NotBuilt, Unread, Refused, Unwritten}
use Rattle.enc_run.specs.declared.stop.Stop.TheVariants.{Memory}

-- the note of a stop: its line, which for a refusal begins with the reason's number
abbrev pub IsNoteOf : Stop → List ℕ → Type 0
IsNoteOf NotBuilt note = note ≡ line not_built
IsNoteOf (Unread name) note = note ≡ line (cannot_read ++ name)
IsNoteOf (Refused reason) note =
    (rest : List ℕ) × (note ≡ line (number_word (number_of reason) ++ rest))
IsNoteOf Unwritten note = note ≡ line cannot_write
IsNoteOf Memory note = note ≡ line no_memory

-- the stop's note is added to the notes
abbrev pub Notes : Stop → Change (Option (List ℕ)) → Change ℕ → Type 0
Notes stop notes faults = (note : List ℕ) × IsNoteOf stop note × Adds notes faults note
